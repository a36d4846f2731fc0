use Rattle.std.proofs.Common.{arith}
use Rattle.std.proofs.lemmas.List.{take_all}
use Rattle.input.proofs.text.Text.new.Goals as goal

pub returns : goal.returns
returns c = (omega arith, take_all 65536 c.args.bytes.now (omega arith))
