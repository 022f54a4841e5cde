-- What a reporter tells, and the laws that it keeps.
use Rattle.std.specs.Prelude.{◌≡◌, ℕ, ◌<◌, ◌≤◌, Bool, true, false, ◌&&◌, List, length, count_by, ◌==◌, nat_le, nat_lt, slice_index_or}
use Rattle.zoned.specs.declared.counts.Counts.{Counts}
use Rattle.zoned.specs.declared.conditions.Condition.{Condition}
use Rattle.zoned.specs.declared.conditions.Condition.TheVariants.{Plain, Empty, Open, Closed, ReadOnly, Full, Offline}
use Rattle.zoned.specs.declared.conditions.ZoneState.{ZoneState}
use Rattle.zoned.specs.Conditions.{is_open}
use Rattle.zoned.specs.Limits.{fits, is_conventional}

pub record Report : Type 0 where
  pub counts : Counts
  pub zones : List ZoneState

-- what is told of a zone that the drive has not
abbrev pub no_zone : ZoneState
no_zone = record { condition = Offline; pointer = 0 }

abbrev pub zone_at : Report → ℕ → ZoneState
zone_at r z = slice_index_or r.zones z no_zone

-- how many zones are open
abbrev pub open_count : List ZoneState → ℕ
open_count zs = count_by (λ s. is_open s.condition) zs

-- the conditions and pointers that a zone of n blocks may have; true: a conventional one
abbrev pub possible : Bool → ℕ → Condition → ℕ → Bool
possible true n Plain p = p == 0
possible true n Empty p = false
possible true n Open p = false
possible true n Closed p = false
possible true n ReadOnly p = p == 0
possible true n Full p = false
possible true n Offline p = p == 0
possible false n Plain p = false
possible false n Empty p = p == 0
possible false n Open p = nat_lt p n
possible false n Closed p = nat_lt 0 p && nat_lt p n
possible false n ReadOnly p = nat_le p n
possible false n Full p = p == n
possible false n Offline p = nat_le p n

abbrev pub possible_at : Counts → ℕ → ZoneState → Bool
possible_at c z s = possible (is_conventional c z) c.blocks s.condition s.pointer

-- the laws of every reporter
pub record Lawful (r : Report) : Type 0 where
  pub limits : fits r.counts ≡ true
  pub all_zones : length r.zones ≡ r.counts.zones
  pub states : (z : ℕ) → z < r.counts.zones → possible_at r.counts z (zone_at r z) ≡ true
  pub few_open : open_count r.zones ≤ r.counts.open_limit
