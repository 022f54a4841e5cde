-- Bytes in hexadecimal, as they are read and as they are written.
use Rattle.std.specs.Prelude.{ℕ, ◌+◌, ◌-◌, ◌*◌, ◌/◌, ◌%◌, cond, ◌&&◌, List, [], ◌∷◌, Some, None, Option, nat_le, nat_lt}

-- the value of a digit, which is one of 0 to 9, a to f and A to F
abbrev pub hex_digit : ℕ → Option ℕ
hex_digit b = cond (nat_le 48 b && nat_le b 57) (Some (b - 48)) (cond (nat_le 97 b && nat_le b 102) (Some (b - 87)) (cond (nat_le 65 b && nat_le b 70) (Some (b - 55)) None))

-- the byte of a high and a low digit
abbrev pub hex_pair : Option ℕ → Option ℕ → Option ℕ
hex_pair (Some high) (Some low) = Some (16 * high + low)
hex_pair (Some high) None = None
hex_pair None low = None

-- the byte that a text of two digits writes
abbrev pub hex_byte : List ℕ → Option ℕ
hex_byte [] = None
hex_byte (a ∷ []) = None
hex_byte (a ∷ (b ∷ [])) = hex_pair (hex_digit a) (hex_digit b)
hex_byte (a ∷ (b ∷ (c ∷ cs))) = None

-- the digit of a number below 16
abbrev pub digit_code : ℕ → ℕ
digit_code d = cond (nat_lt d 10) (48 + d) (87 + d)

-- bytes in hexadecimal, in lower case
abbrev pub hex : List ℕ → List ℕ
hex [] = []
hex (b ∷ bs) = digit_code (b / 16) ∷ (digit_code (b % 16) ∷ hex bs)
