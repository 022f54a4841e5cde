-- The listing of a reporter's zones.
use Rattle.std.specs.Prelude.{ℕ, ◌+◌, ◌*◌, cond, List, [], ◌∷◌, length, Ok, Err, Result, ◌==◌, slice_set}
use Rattle.zoned.specs.declared.conditions.ZoneState.{ZoneState}
use Rattle.zoned.specs.declared.refusals.InputRefusal.{InputRefusal}
use Rattle.zoned.specs.declared.refusals.InputRefusal.TheVariants as Input
use Rattle.zoned.specs.Codes.{condition_code}
use Rattle.zoned.specs.Report.{Report, zone_at}

-- three bytes a zone, from zone z on: its number, its condition's code, its pointer
abbrev pub listed_from : ℕ → List ZoneState → List ℕ
listed_from z [] = []
listed_from z (s ∷ ss) = z ∷ (condition_code s.condition ∷ (s.pointer ∷ listed_from (z + 1) ss))

abbrev pub listing : Report → List ℕ
listing r = listed_from 0 r.zones

-- the answer, and the slice after it: a slice of another length stays as it was found
abbrev pub listed : Report → List ℕ → Result Unit InputRefusal × List ℕ
listed r found = cond (length found == r.counts.zones * 3) (Ok tt, listing r) (Err Input.Length, found)

-- a slice after the three bytes of one zone are put in their place
abbrev pub listed_at : Report → ℕ → List ℕ → List ℕ
listed_at r z out = slice_set (slice_set (slice_set out (z * 3) z) (z * 3 + 1) (condition_code (zone_at r z).condition)) (z * 3 + 2) (zone_at r z).pointer
