-- Decimal numbers, as they are read and as they are written.
use Rattle.std.specs.Prelude.{ℕ, zero, suc, ◌+◌, ◌-◌, ◌*◌, ◌/◌, ◌%◌, Bool, cond, not, ◌&&◌, ◌||◌, List, [], ◌∷◌, ◌++◌, length, Some, None, Option, ◌==◌, nat_le, nat_lt, slice_index}

-- whether a byte is one of 0 to 9
abbrev pub is_digit : ℕ → Bool
is_digit b = nat_le 48 b && nat_le b 57

-- the number that digits write after those of n
abbrev pub decimal_after : ℕ → List ℕ → Option ℕ
decimal_after n [] = Some n
decimal_after n (b ∷ bs) = cond (is_digit b) (decimal_after (n * 10 + (b - 48)) bs) None

-- whether there are one to five bytes, and the first of several is not 0
abbrev pub well_formed : List ℕ → Bool
well_formed bs = nat_lt 0 (length bs) && nat_le (length bs) 5 && (length bs == 1 || not (slice_index bs 0 == 48))

-- the decimal number that a text writes
abbrev pub decimal : List ℕ → Option ℕ
decimal bs = cond (well_formed bs) (decimal_after 0 bs) None

-- the last k digits of n, fewer where n has fewer
abbrev pub last_digits : ℕ → ℕ → List ℕ
last_digits zero n = []
last_digits (suc k) n = cond (nat_lt n 10) ((48 + n) ∷ []) (last_digits k (n / 10) ++ ((48 + n % 10) ∷ []))

-- the digits of n, with no leading zero: below 2 ^ 32 there are at most ten
unfoldable pub digits : ℕ → List ℕ
digits n = last_digits 10 n
