use Rattle.std.proofs.Common.{rules}
use Rattle.text.proofs.Figures.{digits_few, reads_back}
use Rattle.text.proofs.decimal.put_decimal.Goals as goal

pub push_digits-requires : goal.push_digits-requires
push_digits-requires c = search (rules, digits_few)

pub returns : goal.returns
returns c = search (rules, reads_back)

pub returns-in_err-reserve : goal.returns-in_err-reserve
returns-in_err-reserve c = search (rules, reads_back)
