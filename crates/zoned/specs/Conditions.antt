-- Words for the conditions of a zone.
use Rattle.std.specs.Prelude.{Bool, true, false}
use Rattle.zoned.specs.declared.conditions.Condition.{Condition}
use Rattle.zoned.specs.declared.conditions.Condition.TheVariants.{Plain, Empty, Open, Closed, ReadOnly, Full, Offline}

-- read-only or offline
abbrev pub is_bad : Condition → Bool
is_bad Plain = false
is_bad Empty = false
is_bad Open = false
is_bad Closed = false
is_bad ReadOnly = true
is_bad Full = false
is_bad Offline = true

abbrev pub is_open : Condition → Bool
is_open Plain = false
is_open Empty = false
is_open Open = true
is_open Closed = false
is_open ReadOnly = false
is_open Full = false
is_open Offline = false
