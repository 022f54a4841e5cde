use Rattle.std.proofs.Common.{◌≡◌, IfOk, ap₂, vec_items, sym, ap, ◌∙◌, subst}
use Rattle.zoned.specs.Limits.{none}
use Rattle.drives.specs.Drives.{areas_checked, drive_store, drive_table, new_table, split_blocks, split_fits}
use Rattle.drives.specs.Kinds.{first_zones}
use Rattle.drives.proofs.Checked.{none_first, none_held, none_taken}
use Rattle.drives.proofs.drive.Drive.new.Goals as goal

pub returns-in-Err-clause-zones : goal.returns-in-Err-clause-zones
returns-in-Err-clause-zones c =
    let n = c.args.counts in
    let k = c.args.kind in
    let h = ap₂ (λ xs ys. areas_checked n (split_fits n (first_zones k n) xs ys)) (sym c.deref.ensures.value) (sym c.deref-2.ensures.value) ∙ sym c.in-Err.ensures in
    subst (λ m. IfOk c.over-in-Err.result (λ d. drive_table d ≡ new_table m)) (c.none.ensures ∙ sym (none_taken n _ c.in-Err.field-0 h)) c.over-in-Err.ensures.zones

pub returns-in-Err-clause-blocks : goal.returns-in-Err-clause-blocks
returns-in-Err-clause-blocks c =
    let n = c.args.counts in
    let k = c.args.kind in
    let h = ap₂ (λ xs ys. areas_checked n (split_fits n (first_zones k n) xs ys)) (sym c.deref.ensures.value) (sym c.deref-2.ensures.value) ∙ sym c.in-Err.ensures in
    let xs = vec_items c.new-in-Err.result in
    let ys = vec_items c.new-in-Err-2.result in
    subst (λ bs. IfOk c.over-in-Err.result (λ d. drive_store d ≡ bs)) (ap (λ m. split_blocks m (first_zones k m) xs ys) c.none.ensures ∙ ap (λ j. split_blocks none j xs ys) (none_first k) ∙ sym (none_held n _ _ c.in-Err.field-0 h)) c.over-in-Err.ensures.blocks
