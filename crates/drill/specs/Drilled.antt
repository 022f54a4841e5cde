-- A drive in a drill.
use Rattle.drives.specs.Table.{Table}
use Rattle.zoned.specs.Rules.{Blocks}

-- its zones with their trips, and its blocks
pub record Drilled : Type 0 where
  pub zones : Table
  pub blocks : Blocks
