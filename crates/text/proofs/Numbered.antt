-- The lines of refusals that are printed as numbers.
use Rattle.std.proofs.Common.{◌≡◌, ℕ, ◌^◌, ◌<◌, Some, Ok, Err, Result, sym, refl, ap}
use Rattle.std.specs.Fmt as written
use Rattle.text.specs.Replies.{answer_line, numbered_answer, refusal, refusal_line}
use Rattle.text.proofs.Figures.{digits_written}

-- a refusal that prints `{n}`
pub refusal_from_decimal : (n : ℕ) → n < 2 ^ 32 → refusal_line (written.decimal n) ≡ refusal n
refusal_from_decimal n h = ap refusal_line (sym (digits_written n h))

-- an answer whose refusal prints its number
pub answer_from_decimal : {R : Type 0} (number : R → ℕ) → ((r : R) → number r < 2 ^ 32) → (answer : Result (Unit {0}) R)
    → answer_line (λ r. Some (written.decimal (number r))) answer ≡ Some (numbered_answer number answer)
answer_from_decimal number small (Ok u) = refl
answer_from_decimal number small (Err r) = ap Some (refusal_from_decimal (number r) (small r))
