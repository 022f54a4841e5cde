-- Decimal digits, read and written one by one.
use Rattle.std.proofs.Common.{◌≡◌, ℕ, ◌+◌, ◌-◌, ◌*◌, ◌/◌, ◌%◌, ◌^◌, ◌<◌, ◌≤◌, true, List, [], ◌∷◌, ◌++◌, length, Some, sym, ap, ◌∙◌, arith, rules}
use Rattle.std.specs.Fmt as written
use Rattle.std.proofs.lemmas.Bool.Decides.{nat_tests}
use Rattle.std.proofs.lemmas.List.{length_push}
use Rattle.std.proofs.lemmas.Fmt.{AppendsLastDigit, decimal_from_appends, decimal_digit, decimal_step, decimal_by_steps, decimal_nonempty, first_decimal, length-decimal-le}
use Rattle.text.specs.Decimal.{decimal_after, well_formed, decimal, last_digits, digits}

spells : AppendsLastDigit last_digits
spells = search rules

-- the digits are those that `{n}` writes
pub digits_written : (n : ℕ) → n < 2 ^ 32 → digits n ≡ written.decimal n
unfolding digits
digits_written n h =
    let few = length-decimal-le 10 n (omega arith) (omega arith) (omega arith) in
    decimal_from_appends last_digits spells 10 n (omega arith) few

pub digits_one : (n : ℕ) → n < 10 → digits n ≡ (48 + n) ∷ []
digits_one n h = digits_written n (omega arith) ∙ decimal_digit n h

pub digits_step : (n : ℕ) → 10 ≤ n → n < 2 ^ 32 → digits n ≡ digits (n / 10) ++ ((48 + n % 10) ∷ [])
digits_step n h k =
    let e = digits_written (n / 10) (omega arith) in
    digits_written n k ∙ decimal_step n h (omega arith) ∙ ap (λ ds. ds ++ ((48 + n % 10) ∷ [])) (sym e)

pub digits_one_length : (n : ℕ) → n < 10 → length (digits n) ≡ 1
digits_one_length n h = ap length (digits_one n h)

pub digits_step_length : (n : ℕ) → 10 ≤ n → n < 2 ^ 32 → length (digits n) ≡ length (digits (n / 10)) + 1
digits_step_length n h k = ap length (digits_step n h k) ∙ length_push (digits (n / 10)) (48 + n % 10)

pub digits_few : (n : ℕ) → n < 2 ^ 32 → length (digits n) ≤ 10
digits_few n h =
    let e = ap length (digits_written n h) in
    omega (arith, e, length-decimal-le 10 n (omega arith) (omega arith) (omega arith))

-- one digit more after digits that are read
read_push : (m : ℕ) (ds : List ℕ) (k d : ℕ) → d < 10 → decimal_after m ds ≡ Some k → decimal_after m (ds ++ ((48 + d) ∷ [])) ≡ Some (k * 10 + d)
read_push m [] k d h e = grind (arith, nat_tests)
read_push m (b ∷ bs) k d h e = grind (arith, nat_tests, read_push (m * 10 + (b - 48)) bs k d h)

read_back : (n : ℕ) → n < 2 ^ 64 → decimal_after 0 (written.decimal n) ≡ Some n
read_back =
    decimal_by_steps (λ n ds. decimal_after 0 ds ≡ Some n)
    (λ n h. grind (arith, nat_tests))
    (λ n ds h e. grind (arith, nat_tests, read_push 0 ds (n / 10) (n % 10)))

written_well : (n : ℕ) → n < 100000 → well_formed (written.decimal n) ≡ true
written_well n h =
    let some = decimal_nonempty n (omega arith) in
    let few = length-decimal-le 5 n (omega arith) (omega arith) (omega arith) in
    let one = λ (z : n < 10). ap length (decimal_digit n z) in
    let first = λ (p : 0 < n). first_decimal n p (omega arith) in
    grind (arith, nat_tests, one, first)

-- what is written reads back
pub reads_back : (n : ℕ) → n < 100000 → decimal (digits n) ≡ Some n
reads_back n h =
    let e = digits_written n (omega arith) in
    let well = written_well n h in
    let back = read_back n (omega arith) in
    rw e (grind arith)
