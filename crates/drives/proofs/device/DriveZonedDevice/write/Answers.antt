use Rattle.std.proofs.Common.{length, Ok, sym, refl, ap, ◌∙◌}
use Rattle.std.proofs.lemmas.Result.{err_from_is_err_and}
use Rattle.zoned.specs.Commands.{write}
use Rattle.drives.specs.Drives.{drive_store}
use Rattle.drives.specs.Table.{table_of}
use Rattle.drives.proofs.Passing.{write_alike}
use Rattle.drives.proofs.States.{accepted_inside, named, drive_written, kept_blocks, stored_blocks}
use Rattle.drives.proofs.device.DriveZonedDevice.write.Goals as goal

pub returns-in_err-take : goal.returns-in_err-take
returns-in_err-take c =
    let d = c.args.self.now in
    let t = table_of d.zones in
    let u = table_of c.take.new.self in
    let b = c.args.block.now in
    let x = write c.args.zone.0 c.args.place.0 b in
    let h = write_alike t c.args.zone.0 c.args.place.0 b ∙ c.in_err-take.ensures.outcome in
    let k = kept_blocks t u (drive_store d) x c.in_err-take.field-0.0 h in
    let p = err_from_is_err_and c.from_residual.result c.from_residual.ensures.1 in
    record { outcome = rw (p.1, p.2) (drive_written t u (drive_store d) (drive_store d) x _ h (sym k)); zones = rw (p.1, p.2) h; store = sym k; kind = refl }

pub put-requires : goal.put-requires
put-requires c =
    let d = c.args.self.now in
    let z = c.args.zone.0 in
    let p = c.args.place.0 in
    let b = c.args.block.now in
    let i = accepted_inside (table_of d.zones) (table_of c.take.new.self) (write z p b) (write_alike (table_of d.zones) z p b ∙ c.in_ok-take.ensures.outcome) in
    rw c.in_ok-take.ensures.geometry (named d.zones.geometry.counts z p (length b) i)

pub returns : goal.returns
returns c =
    let d = c.args.self.now in
    let t = table_of d.zones in
    let b = c.args.block.now in
    let x = write c.args.zone.0 c.args.place.0 b in
    let h = write_alike t c.args.zone.0 c.args.place.0 b ∙ c.in_ok-take.ensures.outcome ∙ ap (λ u. (Ok tt, table_of u)) (sym c.put.ensures.zones) in
    let s = c.put.ensures.blocks ∙ sym (stored_blocks t _ (drive_store d) x h) in
    record { outcome = drive_written t _ (drive_store d) _ x _ h s; zones = h; store = s; kind = c.put.ensures.kind }
