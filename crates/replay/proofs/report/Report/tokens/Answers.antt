use Rattle.replay.proofs.Prints.{last_piece}
use Rattle.replay.proofs.report.Report.tokens.Goals as goal

pub returns : goal.returns
returns c =
    let last = c.line-2.new.self in
    last_piece c.line-2.result c.args.self.now c.line.new.self last _ _ c.in_ok-line.ensures
    (last_piece c.line-2.result c.line.new.self c.token_lines.new.self last _ _ c.in_ok-tally.ensures.lines
    (rw c.in_ok-tally.ensures.tally at c.line-2.ensures))
