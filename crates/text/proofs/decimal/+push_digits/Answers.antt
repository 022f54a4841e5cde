use Rattle.std.proofs.Common.{◌≡◌, ◌+◌, ◌/◌, ◌%◌, [], ◌∷◌, vec_items, arith, rules}
use Rattle.std.proofs.lemmas.List.{append_assoc}
use Rattle.text.specs.Decimal.{digits}
use Rattle.text.proofs.Figures.{digits_one, digits_step, digits_one_length, digits_step_length}
use Rattle.text.proofs.decimal.+push_digits.Goals as goal
use Rattle.text.proofs.decimal.+push_digits.Goals.{then-n-ge10, else-n-ge10}

pub push_digits-requires : goal.push_digits-requires
push_digits-requires t c = search (rules, digits_step_length)

pub push_reserved-requires : goal.push_reserved-requires
push_reserved-requires t c =
    elim c.if-n-ge10.branch [
      | then-n-ge10 w ↦ let e = digits_step_length c.args.n (omega arith) (omega arith) in search rules
      | else-n-ge10 w ↦ let e = digits_one_length c.args.n (omega arith) in search rules
    ]

pub returns : goal.returns
returns t c =
    let n = c.args.n in
    elim c.if-n-ge10.branch [
      | then-n-ge10 w ↦
          let d = digits_step n (omega arith) (omega arith) in
          let e = digits_step_length n (omega arith) (omega arith) in
          let a = append_assoc (vec_items c.args.out.now) (digits (n / 10)) ((48 + n % 10) ∷ []) in
          record { items = cc; len = search rules; capacity = search rules }
      | else-n-ge10 w ↦
          let d = digits_one n (omega arith) in
          let e = digits_one_length n (omega arith) in
          let m : n % 10 ≡ n = omega arith in
          record { items = cc; len = search rules; capacity = search rules }
    ]
