use Rattle.drives.proofs.Tripped.{trips_count, new_is_faultless}
use Rattle.drives.proofs.trip_laws.trips_alone_fault.Goals as goal

pub returns : goal.returns
returns c = record { counts = trips_count; faultless = new_is_faultless }
