use Rattle.std.proofs.Common.{◌≡◌, rules, arith}
use Rattle.std.specs.Fmt as written
use Rattle.text.specs.Decimal.{digits}
use Rattle.text.proofs.Figures.{digits_written}
use Rattle.text.proofs.replies.NotUnderstoodDisplay.fmt.Goals as goal

pub returns-clause-writes : goal.returns-clause-writes
returns-clause-writes g c =
    let e : digits 7 ≡ written.decimal 7 = digits_written 7 (omega arith) in
    search rules
