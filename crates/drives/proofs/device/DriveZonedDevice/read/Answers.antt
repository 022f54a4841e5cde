use Rattle.std.proofs.Common.{length}
use Rattle.zoned.specs.Commands.{read}
use Rattle.drives.specs.Table.{table_of}
use Rattle.drives.proofs.States.{accepted_inside, named}
use Rattle.drives.proofs.device.DriveZonedDevice.read.Goals as goal

pub get-requires : goal.get-requires
get-requires c =
    let d = c.args.self.now in
    let z = c.args.zone.0 in
    let p = c.args.place.0 in
    let n = length c.args.buffer.now in
    let i = accepted_inside (table_of d.zones) (table_of c.take.new.self) (read z p n) c.in_ok-take.ensures.outcome in
    rw c.in_ok-take.ensures.geometry (named d.zones.geometry.counts z p n i)
