use Rattle.std.proofs.Common.{rules}
use Rattle.text.proofs.Cutting.{field_left}
use Rattle.text.proofs.fields.Fields.end.Goals as goal

pub returns : goal.returns
returns c = search (rules, field_left)
