use Rattle.std.proofs.Common.{◌≡◌, ℕ, ◌*◌, ◌<◌, length, get_or}
use Rattle.zoned.specs.Listing.{listing}
use Rattle.zoned.proofs.listing.list_zones.Given as goal

abbrev pub invariant-loop-z : goal.invariant-loop-z
invariant-loop-z g l = (length l.out ≡ l.zones * 3) × ((k : ℕ) → k < l.z * 3 → get_or l.out k 0 ≡ get_or (listing (g.R.Reporter.report l.reporter)) k 0)
