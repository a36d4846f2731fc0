use Rattle.std.proofs.Common.{refl, sym, arith}
use Rattle.std.proofs.lemmas.List.{take_all}
use Rattle.input.proofs.text.Text.bytes.Goals as goal

pub returns-clause-value : goal.returns-clause-value
returns-clause-value c = sym (take_all 65536 c.args.self.now.bytes.now (omega arith))

pub returns-then-self-gt-LONGEST-clause-value : goal.returns-then-self-gt-LONGEST-clause-value
returns-then-self-gt-LONGEST-clause-value c = refl
