use Rattle.std.proofs.Common.{lit<}
use Rattle.std.proofs.lemmas.Fmt.{decimal_digit}
use Rattle.replay.proofs.report.Report.refusal.Goals as goal

pub returns : goal.returns
returns c = rw (c.number-number.ensures, decimal_digit 3 (lit< tt)) at c.line.ensures
