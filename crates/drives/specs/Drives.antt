-- What a drive means, and what new ones are.
use Rattle.std.specs.Prelude.{ℕ, ◌-◌, Bool, false, cond, ◌&&◌, List, [], ◌++◌, length, replicate, Ok, Err, Result, ◌==◌, nat_lt, slice_set}
use Rattle.zoned.specs.declared.conditions.Condition.TheVariants.{Plain, Empty}
use Rattle.zoned.specs.declared.conditions.ZoneState.{ZoneState}
use Rattle.zoned.specs.declared.counts.Counts.{Counts}
use Rattle.zoned.specs.declared.refusals.InputRefusal.{InputRefusal}
use Rattle.zoned.specs.declared.refusals.InputRefusal.TheVariants as Input
use Rattle.zoned.specs.Limits.{within, none, bytes_of}
use Rattle.zoned.specs.Report.{Report}
use Rattle.zoned.specs.Rules.{Blocks, State}
use Rattle.drives.specs.declared.drive.Drive.{Drive}
use Rattle.drives.specs.declared.kind.DriveKind.{DriveKind}
use Rattle.drives.specs.declared.trips.Trip.{Trip}
use Rattle.drives.specs.Areas.{blocks_in, area_blocks}
use Rattle.drives.specs.Table.{Table, table_of, plan_of}
use Rattle.drives.specs.declared.zones.DriveZone.{DriveZone}
use Rattle.drives.specs.Zones.{no_trip}

-- a drive whose zones are t and whose blocks are bs
abbrev pub drive : Table → Blocks → State
drive t bs = record { meaning = record { told = t.told; blocks = bs; misused = t.misused }; plan = plan_of t }

abbrev pub drive_kind : Drive → DriveKind
drive_kind d = d.kind

abbrev pub drive_table : Drive → Table
drive_table d = table_of d.zones

abbrev pub drive_report : Drive → Report
drive_report d = (drive_table d).told

abbrev pub drive_store : Drive → Blocks
drive_store d = area_blocks d.first ++ area_blocks d.rest

abbrev pub drive_state : Drive → State
drive_state d = drive (drive_table d) (drive_store d)

-- ---- new drives

-- a zone that nothing was done to
abbrev pub plain_zone : ZoneState
plain_zone = record { condition = Plain; pointer = 0 }

abbrev pub empty_zone : ZoneState
empty_zone = record { condition = Empty; pointer = 0 }

abbrev pub new_states : Counts → List ZoneState
new_states c = replicate c.conventional plain_zone ++ replicate (c.zones - c.conventional) empty_zone

-- the same, with no trips
abbrev pub untripped : ZoneState → DriveZone
untripped s = record { state = s; trip = no_trip }

abbrev pub new_zones : Counts → List DriveZone
new_zones c = replicate c.conventional (untripped plain_zone) ++ replicate (c.zones - c.conventional) (untripped empty_zone)

-- plain and empty zones, no trip, the mark down
abbrev pub new_table : Counts → Table
new_table c = record {
  told = record { counts = c; zones = new_states c };
  trips = replicate c.zones no_trip;
  misused = false;
}

-- an area has a byte for each byte of its k zones
abbrev pub is_area : Counts → ℕ → List ℕ → Bool
is_area c k area = length area == bytes_of c k

-- a check of counts and areas: the counts first
abbrev pub areas_checked : Counts → Bool → Result Unit InputRefusal
areas_checked c fit = cond (within c) (cond fit (Ok tt) (Err Input.Length)) (Err Input.Geometry)

-- the counts of a drive that is made of counts and areas: with those that the check refuses, it has no zones
abbrev pub taken : Counts → Bool → Counts
taken c fit = cond (within c && fit) c none

-- its blocks are as the areas hold
abbrev pub held : Counts → Bool → Blocks → Blocks
held c fit bs = cond (within c && fit) bs []

-- two areas, of which the first has k zones and the second the others
abbrev pub split_blocks : Counts → ℕ → List ℕ → List ℕ → Blocks
split_blocks c k first rest = blocks_in k c.blocks c.bytes first ++ blocks_in (c.zones - k) c.blocks c.bytes rest

abbrev pub split_fits : Counts → ℕ → List ℕ → List ℕ → Bool
split_fits c k first rest = is_area c k first && is_area c (c.zones - k) rest

-- a magnetic drive: all zones in one area
abbrev pub magnetic_blocks : Counts → List ℕ → Blocks
magnetic_blocks c area = blocks_in c.zones c.blocks c.bytes area

abbrev pub magnetic_fits : Counts → List ℕ → Bool
magnetic_fits c area = is_area c c.zones area

-- a flash drive: its two sorts of zones in two areas
abbrev pub flash_blocks : Counts → List ℕ → List ℕ → Blocks
flash_blocks c conventional sequential = split_blocks c c.conventional conventional sequential

abbrev pub flash_fits : Counts → List ℕ → List ℕ → Bool
flash_fits c conventional sequential = split_fits c c.conventional conventional sequential

-- ---- trips

abbrev pub with_trip : Table → ℕ → Trip → Table
with_trip t z trip = record { told = t.told; trips = slice_set t.trips z trip; misused = t.misused }

-- the answer to setting a trip, and the zones after it
abbrev pub trip_set : Table → ℕ → Trip → Result Unit InputRefusal × Table
trip_set t z trip = cond (nat_lt z t.told.counts.zones) (Ok tt, with_trip t z trip) (Err Input.Zone, t)
