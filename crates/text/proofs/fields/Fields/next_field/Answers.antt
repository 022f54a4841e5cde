use Rattle.std.proofs.Common.{rules}
use Rattle.text.proofs.Cutting.{next_field_is, last_field_is}
use Rattle.text.proofs.fields.Fields.next_field.Goals as goal

pub returns-in_default : goal.returns-in_default
returns-in_default c = search (rules, last_field_is)

pub returns : goal.returns
returns c = search (rules, next_field_is)
