use Rattle.std.proofs.Common.{◌≡◌, ◌≤◌, take, vec_items}
use Rattle.std.specs.Prelude.{count_by}
use Rattle.zoned.specs.Conditions.{is_open}
use Rattle.drives.specs.declared.zones.DriveZone.{DriveZone}
use Rattle.drives.proofs.table.ZoneTable.open_zones.Given as goal

abbrev pub invariant-loop-zone : goal.invariant-loop-zone
invariant-loop-zone l =
    (l.open ≤ l.zone-index)
    × (l.open ≡ count_by (λ (z : DriveZone). is_open z.state.condition) (take l.zone-index (vec_items l.self.zones)))
