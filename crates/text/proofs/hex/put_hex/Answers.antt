use Rattle.std.proofs.Common.{rules}
use Rattle.text.proofs.Nibbles.{byte_back, hex_more, hex_all}
use Rattle.text.proofs.hex.put_hex.Goals as goal

pub returns-in_err-reserve : goal.returns-in_err-reserve
returns-in_err-reserve c = search (rules, byte_back)

pub loop-b-preserved : goal.loop-b-preserved
loop-b-preserved c = search (rules, hex_more)

pub returns : goal.returns
returns c = search (rules, byte_back, hex_all)
