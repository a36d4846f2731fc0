use Rattle.std.proofs.Common.{ap, ◌∙◌}
use Rattle.input.specs.Streams.{Stream}
use Rattle.input.specs.Text.{bytes_of}
use Rattle.input.specs.Scanned.{scanned}
use Rattle.input.proofs.Lawful.{scans}
use Rattle.input.proofs.scanner.Scanner.new.Goals as goal

pub returns-clause-lawful : goal.returns-clause-lawful
returns-clause-lawful c = scans (bytes_of c.args.text) _ (ap (λ (s : Stream). s.ahead) c.open.ensures ∙ ap scanned c.bytes.ensures.value)
