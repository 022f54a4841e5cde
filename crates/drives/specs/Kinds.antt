-- The two kinds of drive.
use Rattle.std.specs.Prelude.{ℕ}
use Rattle.zoned.specs.declared.counts.Counts.{Counts}
use Rattle.drives.specs.declared.kind.DriveKind.{DriveKind}
use Rattle.drives.specs.declared.kind.DriveKind.TheVariants.{Magnetic, Flash}

-- the zones of the first of a drive's two areas: all zones of a magnetic drive, the conventional ones of a flash drive
abbrev pub first_zones : DriveKind → Counts → ℕ
first_zones Magnetic c = c.zones
first_zones Flash c = c.conventional
