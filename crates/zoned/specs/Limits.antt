-- The limits of a geometry, and what is counted from it.
use Rattle.std.specs.Prelude.{ℕ, ◌-◌, ◌*◌, Bool, cond, ◌&&◌, ◌||◌, Ok, Err, Result, ◌==◌, nat_le, nat_lt}
use Rattle.zoned.specs.declared.counts.Counts.{Counts}
use Rattle.zoned.specs.declared.refusals.InputRefusal.{InputRefusal}
use Rattle.zoned.specs.declared.refusals.InputRefusal.TheVariants as Input

-- a is at most x, and x at most b
abbrev pub between : ℕ → ℕ → ℕ → Bool
between a b x = nat_le a x && nat_le x b

-- each count is within its limits
abbrev pub within : Counts → Bool
within c =
    between 4 64 c.zones
    && (nat_le 2 c.conventional && nat_lt c.conventional c.zones)
    && between 2 64 c.blocks
    && between 16 512 c.bytes
    && between 1 64 c.open_limit
    && between 1 (c.zones - c.conventional) c.reserve

-- no zone, no block, nothing
abbrev pub none : Counts
none = record { zones = 0; conventional = 0; blocks = 0; bytes = 0; open_limit = 0; reserve = 0 }

abbrev pub is_none : Counts → Bool
is_none c = c.zones == 0 && c.conventional == 0 && c.blocks == 0 && c.bytes == 0 && c.open_limit == 0 && c.reserve == 0

-- what a geometry may hold: counts within the limits, or none at all
abbrev pub fits : Counts → Bool
fits c = within c || is_none c

-- the answer of a check: refused where a count is outside its limits
abbrev pub checked : Counts → Result Unit InputRefusal
checked c = cond (within c) (Ok tt) (Err Input.Geometry)

-- what making a geometry keeps of the counts
abbrev pub kept : Counts → Counts
kept c = cond (within c) c none

-- chunks of a volume: all zones but zone 0 and the reserve
abbrev pub chunk_count : Counts → ℕ
chunk_count c = c.zones - 1 - c.reserve

-- conventional zones that a volume may use: all but zone 0
abbrev pub buffer_count : Counts → ℕ
buffer_count c = c.conventional - 1

-- bytes of so many zones
abbrev pub bytes_of : Counts → ℕ → ℕ
bytes_of c zones = zones * c.blocks * c.bytes

abbrev pub is_conventional : Counts → ℕ → Bool
is_conventional c z = nat_lt z c.conventional
