use Rattle.std.proofs.Common.{◌≡◌, IfOk, vec_items, ap, ap₂, subst}
use Rattle.drives.specs.Drives.{drive_store, drive_table, held, new_table, taken}
use Rattle.drives.proofs.Fresh.{all_blocks, all_fits}
use Rattle.drives.proofs.drive.Drive.magnetic.Goals as goal

pub returns : goal.returns
returns c =
    let n = c.args.counts in
    let fits = all_fits n (vec_items c.args.area) (vec_items c.new.result) c.new.ensures.items in
    let blocks = all_blocks n (vec_items c.args.area) (vec_items c.new.result) c.new.ensures.items in
    record {
      kind = c.new-2.ensures.kind;
      zones = subst (λ m. IfOk c.new-2.result (λ d. drive_table d ≡ new_table m)) (ap (taken n) fits) c.new-2.ensures.zones;
      blocks = subst (λ bs. IfOk c.new-2.result (λ d. drive_store d ≡ bs)) (ap₂ (held n) fits blocks) c.new-2.ensures.blocks;
    }
