use Rattle.std.proofs.Common.{rules}
use Rattle.std.proofs.lemmas.List.{append_assoc}
use Rattle.text.proofs.Figures.{digits_few}
use Rattle.text.proofs.replies.put_number.Goals as goal

pub push_digits-requires : goal.push_digits-requires
push_digits-requires c = search (rules, digits_few)

pub push_reserved-requires-4 : goal.push_reserved-requires-4
push_reserved-requires-4 c = search (rules, digits_few)

pub returns : goal.returns
returns c = search (rules, append_assoc)
