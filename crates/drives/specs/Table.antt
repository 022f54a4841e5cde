-- The zones of a drive with their trips, and what a command makes of them.
use Rattle.std.specs.Prelude.{ℕ, Bool, ◌||◌, List, [], ◌∷◌, map, Some, None, Ok, Err, vec_items, Option, Result, slice_index_or, slice_set}
use Rattle.zoned.specs.declared.conditions.ZoneState.{ZoneState}
use Rattle.zoned.specs.declared.counts.Counts.{Counts}
use Rattle.zoned.specs.declared.refusals.DeviceRefusal.{DeviceRefusal}
use Rattle.zoned.specs.Commands.{Command, zone_of}
use Rattle.zoned.specs.Report.{Report, zone_at}
use Rattle.zoned.specs.Rules.{Plan, Verdict, turned, faulted, accepted, judged, turned_away, answer, report_after, misuse, moved}
use Rattle.drives.specs.declared.machine.Request.{Request}
use Rattle.drives.specs.declared.table.ZoneTable.{ZoneTable}
use Rattle.drives.specs.declared.trips.Trip.{Trip}
use Rattle.drives.specs.declared.zones.DriveZone.{DriveZone}
use Rattle.drives.specs.Requests.{asked, operation}
use Rattle.drives.specs.Zones.{state_of, trip_on, no_trip, due, worn}

pub record Table : Type 0 where
  pub told : Report
  pub trips : List Trip
  pub misused : Bool

-- zones of so many counts with their trips, and the mark
abbrev pub tabled : Counts → List DriveZone → Bool → Table
tabled c zs m = record { told = record { counts = c; zones = map state_of zs }; trips = map trip_on zs; misused = m }

abbrev pub table_of : ZoneTable → Table
table_of t = tabled t.geometry.counts (vec_items t.zones) t.misused

abbrev pub trip_at : List Trip → ℕ → Trip
trip_at ts z = slice_index_or ts z no_trip

-- only commands that pass wear a trip
abbrev pub trips_after : List Trip → ℕ → Verdict → List Trip
trips_after ts z (turned e) = ts
trips_after ts z (faulted b) = slice_set ts z (worn (trip_at ts z))
trips_after ts z accepted = slice_set ts z (worn (trip_at ts z))

abbrev pub table_verdict : Table → Command → Verdict
table_verdict t c = judged (turned_away t.told c) (due (trip_at t.trips (zone_of c)))

abbrev pub table_with : Table → Command → Verdict → Table
table_with t c v = record { told = report_after t.told c v; trips = trips_after t.trips (zone_of c) v; misused = t.misused || misuse v }

abbrev pub table_after : Table → Command → Table
table_after t c = table_with t c (table_verdict t c)

-- a command's answer, and the zones after it
abbrev pub table_outcome : Table → Command → Result Unit DeviceRefusal × Table
table_outcome t c = (answer (table_verdict t c), table_after t c)

-- what the zone rules make of a zone by a request
abbrev pub machined : Option DeviceRefusal → ZoneState → Result ZoneState DeviceRefusal
machined (Some e) s = Err e
machined None s = Ok s

abbrev pub ruled : Report → ℕ → Request → Result ZoneState DeviceRefusal
ruled r z q = machined (turned_away r (asked z q)) (moved r.counts.blocks (zone_at r z) (operation q))

-- trips make a plan: after these commands, is the trip of this one's zone due?
abbrev pub plan_of : Table → Plan
plan_of t [] c = due (trip_at t.trips (zone_of c))
plan_of t (x ∷ before) c = plan_of (table_after t x) before c
