use Rattle.std.proofs.Common.{rules}
use Rattle.text.proofs.Numbered.{refusal_from_decimal}
use Rattle.drill.proofs.Numbers.{input_small}
use Rattle.drill.proofs.playing.play_on.Goals as goal

pub returns-in-Err : goal.returns-in-Err
returns-in-Err c = search (rules, refusal_from_decimal, input_small)
