-- What the limits of a geometry give.
use Rattle.std.proofs.Common.{◌≡◌, ℕ, ◌<◌, ◌≤◌, Bool, true, arith}
use Rattle.std.proofs.lemmas.Bool.Decides.{nat_tests}
use Rattle.zoned.specs.declared.conditions.Condition.{Condition}
use Rattle.zoned.specs.Limits.{is_conventional}
use Rattle.zoned.specs.Report.{Report, Lawful, possible, zone_at}

-- a pointer lies within its zone
pub possible_pointer : (t : Bool) (n : ℕ) (k : Condition) (p : ℕ) → possible t n k p ≡ true → p ≤ n
possible_pointer t n k p e = grind (arith, nat_tests)

pub pointer_within : (r : Report) → Lawful r → (z : ℕ) → z < r.counts.zones → (zone_at r z).pointer ≤ r.counts.blocks
pointer_within r l z h = possible_pointer (is_conventional r.counts z) r.counts.blocks (zone_at r z).condition (zone_at r z).pointer (l.states z h)
