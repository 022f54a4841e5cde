use Rattle.drives.specs.Drives.{drive_store, drive_table}
use Rattle.drives.specs.Table.{table_of}
use Rattle.drives.proofs.States.{managed_outcome}
use Rattle.drives.proofs.device.DriveZonedDevice.manage.Goals as goal

pub returns-clause-outcome : goal.returns-clause-outcome
returns-clause-outcome c =
    let d = c.args.self.now in
    managed_outcome (drive_table d) (table_of c.take.new.self) (drive_store d) c.args.action c.args.zone.0 c.take.result c.take.ensures.outcome
