-- Bytes printed by threes.
use Rattle.std.proofs.Common.{◌≡◌, ℕ, List, [], ◌∷◌, ◌++◌, length, sym, ap, ◌∙◌, arith}
use Rattle.std.proofs.lemmas.List.{append_assoc}
use Rattle.text.specs.Hexadecimal.{hex}
use Rattle.drill.specs.Playing.{in_threes}

pub three_more : (out xs x rest : List ℕ) → xs ≡ x ++ rest → length x ≡ 3 → out ++ in_threes xs ≡ (out ++ (hex x ++ (10 ∷ []))) ++ in_threes rest
three_more out xs [] rest e h = absurd (omega arith)
three_more out xs (a ∷ []) rest e h = absurd (omega arith)
three_more out xs (a ∷ (b ∷ [])) rest e h = absurd (omega arith)
three_more out xs (a ∷ (b ∷ (c ∷ []))) rest e h = ap (λ ys. out ++ in_threes ys) e ∙ sym (append_assoc out (hex (a ∷ (b ∷ (c ∷ []))) ++ (10 ∷ [])) (in_threes rest))
three_more out xs (a ∷ (b ∷ (c ∷ (d ∷ x)))) rest e h = absurd (omega arith)
