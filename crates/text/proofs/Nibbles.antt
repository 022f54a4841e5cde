-- Bytes in hexadecimal, one by one.
use Rattle.std.proofs.Common.{◌≡◌, ℕ, ◌+◌, ◌*◌, ◌/◌, ◌%◌, ◌<◌, ◌≤◌, List, [], ◌∷◌, ◌++◌, length, get_or, drop, Some, sym, ap, ◌∙◌, ap₂, arith}
use Rattle.std.proofs.lemmas.List.{at_drop_more, at_drop_all, append_assoc, append-nil}
use Rattle.std.proofs.lemmas.Bool.Decides.{nat_tests}
use Rattle.text.specs.Hexadecimal.{digit_code, hex, hex_byte, hex_digit, hex_pair}

pub hex_more : (out xs : List ℕ) (i : ℕ) → i < length xs
    → out ++ hex (drop i xs) ≡ (out ++ digit_code (get_or xs i 0 / 16) ∷ []) ++ digit_code (get_or xs i 0 % 16) ∷ [] ++ hex (drop (i + 1) xs)
hex_more out xs i l =
    let a = digit_code (get_or xs i 0 / 16) in
    let b = digit_code (get_or xs i 0 % 16) in
    let rest = hex (drop (i + 1) xs) in
    ap (λ t. out ++ t) (at_drop_more hex xs i 0 l) ∙ sym (append_assoc (out ++ a ∷ []) (b ∷ []) rest ∙ append_assoc out (a ∷ []) (b ∷ rest))

pub hex_all : (out xs : List ℕ) (i : ℕ) → length xs ≤ i → out ++ hex (drop i xs) ≡ out
hex_all out xs i l = ap (λ t. out ++ t) (at_drop_all hex xs i l) ∙ append-nil out

digit_back : (d : ℕ) → d < 16 → hex_digit (digit_code d) ≡ Some d
digit_back d h = grind (arith, nat_tests)

-- what is written of a byte reads back
pub byte_back : (b : ℕ) → b < 256 → hex_byte (hex (b ∷ [])) ≡ Some b
byte_back b h =
    let e : 16 * (b / 16) + b % 16 ≡ b = omega arith in
    ap₂ hex_pair (digit_back (b / 16) (omega arith)) (digit_back (b % 16) (omega arith)) ∙ ap (λ x. Some x) e
