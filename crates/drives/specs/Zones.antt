-- A zone of a drive, and the trip that it carries.
use Rattle.std.specs.Prelude.{◌-◌, cond, Some, None, Ok, Err, Option, Result, ◌==◌}
use Rattle.zoned.specs.declared.commands.Operation.{Operation}
use Rattle.zoned.specs.declared.conditions.Bad.{Bad}
use Rattle.zoned.specs.declared.conditions.Bad.TheVariants as BadAs
use Rattle.zoned.specs.declared.conditions.ZoneState.{ZoneState}
use Rattle.zoned.specs.declared.refusals.DeviceRefusal.{DeviceRefusal}
use Rattle.zoned.specs.declared.refusals.DeviceRefusal.TheVariants.{Fault}
use Rattle.zoned.specs.Rules.{broken}
use Rattle.drives.specs.declared.trips.Trip.{Trip}
use Rattle.drives.specs.declared.zones.DriveZone.{DriveZone}

abbrev pub state_of : DriveZone → ZoneState
state_of z = z.state

abbrev pub trip_on : DriveZone → Trip
trip_on z = z.trip

abbrev pub no_trip : Trip
no_trip = record { count = 0; into = BadAs.Offline }

-- the fault that the next command to pass at a zone meets: that of a trip whose count is down to 1
abbrev pub due : Trip → Option Bad
due t = cond (t.count == 1) (Some t.into) None

-- a trip after a command that passed at its zone
abbrev pub worn : Trip → Trip
worn t = record { count = t.count - 1; into = t.into }

-- the answer to an operation that passed, and the zone after it: it met a fault, or left the zone in state s
abbrev pub zone_passed : DriveZone → Operation → ZoneState → Option Bad → Result Unit DeviceRefusal × DriveZone
zone_passed z o s (Some b) = (Err Fault, record { state = broken z.state o b; trip = worn z.trip })
zone_passed z o s None = (Ok tt, record { state = s; trip = worn z.trip })
