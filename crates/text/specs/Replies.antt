-- What is answered to a line.
use Rattle.std.specs.Prelude.{ℕ, List, [], ◌∷◌, ◌++◌, Some, Ok, Err, Option, Result}
use Rattle.std.specs.Option.{option_map}
use Rattle.text.specs.Decimal.{digits}

-- `ok` and byte 10
abbrev pub ok_line : List ℕ
ok_line = 111 ∷ (107 ∷ (10 ∷ []))

-- `no`, a space, what a refusal prints and byte 10
abbrev pub refusal_line : List ℕ → List ℕ
refusal_line text = 110 ∷ (111 ∷ (32 ∷ (text ++ (10 ∷ []))))

-- the refusal of a number
abbrev pub refusal : ℕ → List ℕ
refusal number = refusal_line (digits number)

-- the refusal of a line that is not understood
abbrev pub not_understood : List ℕ
not_understood = refusal 7

-- the line of an answer, where `prints` says what a refusal prints
abbrev pub answer_line : {R : Type 0} → (R → Option (List ℕ)) → Result (Unit {0}) R → Option (List ℕ)
answer_line prints (Ok u) = Some ok_line
answer_line prints (Err refused) = option_map refusal_line (prints refused)

-- the same line, where each refusal has a number
abbrev pub numbered_answer : {R : Type 0} → (R → ℕ) → Result (Unit {0}) R → List ℕ
numbered_answer number (Ok u) = ok_line
numbered_answer number (Err refused) = refusal (number refused)
