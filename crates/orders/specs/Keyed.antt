-- The order by a key.
use Rattle.std.specs.Prelude.{ℕ, Bool, cond, ◌==◌, nat_lt}

-- the lower key goes first; of equal keys, the lower number
abbrev pub by_key : {I : Type 0} → (I → ℕ) → (I → ℕ) → I → I → Bool
by_key key number a b = cond (key a == key b) (nat_lt (number a) (number b)) (nat_lt (key a) (key b))
