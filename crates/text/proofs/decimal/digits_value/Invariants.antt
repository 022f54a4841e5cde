use Rattle.std.proofs.Common.{◌≡◌, ◌^◌, ◌<◌, drop}
use Rattle.text.specs.Decimal.{decimal_after}
use Rattle.text.proofs.decimal.digits_value.Given as goal

abbrev pub invariant-loop-b : goal.invariant-loop-b
invariant-loop-b l = (l.n < 10 ^ l.b-index) × (decimal_after 0 l.digits ≡ decimal_after l.n (drop l.b-index l.digits))
