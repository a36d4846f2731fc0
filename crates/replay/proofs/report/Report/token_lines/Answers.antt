use Rattle.std.proofs.Common.{ap}
use Rattle.input.specs.Streams.{Stream}
use Rattle.replay.proofs.Listings.{few}
use Rattle.replay.proofs.report.Report.token_lines.Goals as goal

pub count-requires : goal.count-requires
count-requires c = few c.args.text _ _ _ _ _ c.loop-token.tally (ap (λ (s : Stream). s.ahead) c.new-scanner.ensures.stream) c.loop-token.invariant.1
