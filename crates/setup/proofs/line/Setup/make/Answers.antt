use Rattle.std.proofs.Common.{rules, ◌≡◌, ◌-◌, replicate, IfOk, vec_items, ap, ◌∙◌, subst}
use Rattle.drives.specs.Drives.{drive_store, drive_table, new_table}
use Rattle.drives.specs.Kinds.{first_zones}
use Rattle.zoned.specs.Limits.{bytes_of}
use Rattle.setup.proofs.Zeros.{split_zeros}
use Rattle.setup.proofs.line.Setup.make.Goals as goal

pub returns : goal.returns
returns c =
    let s = c.args.self in
    let n = c.new-geometry.result.counts in
    let k = c.first_zones-first.ensures in
    let first = c.in_ok-first_area.ensures ∙ ap (λ j. replicate j 0) (c.bytes_of.ensures ∙ ap (bytes_of n) k) in
    let rest : vec_items c.in_ok-rest_area.rest_area ≡ replicate (bytes_of n (n.zones - first_zones s.kind n)) 0 = search rules in
    let p = split_zeros s.kind s.counts n (vec_items c.in_ok-first_area.first_area) (vec_items c.in_ok-rest_area.rest_area) c.new-geometry.ensures first rest in
    record {
      kind = c.new.ensures.kind;
      zones = subst (λ m. IfOk c.new.result (λ d. drive_table d ≡ new_table m)) p.0 c.new.ensures.zones;
      store = subst (λ bs. IfOk c.new.result (λ d. drive_store d ≡ bs)) p.1 c.new.ensures.blocks;
    }
