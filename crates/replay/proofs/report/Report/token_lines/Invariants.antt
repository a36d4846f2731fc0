use Rattle.std.proofs.Common.{◌≡◌, length}
use Rattle.input.specs.Scanner.{scanner_stream}
use Rattle.replay.proofs.Listings.{Listing}
use Rattle.replay.proofs.report.Report.token_lines.Given as goal

abbrev pub invariant-loop-token : goal.invariant-loop-token
invariant-loop-token l =
    let s = scanner_stream l.scanner in
    let all = scanner_stream l.initial.scanner in
    (s.end ≡ all.end) × Listing l.bytes l.initial.self l.self all.ahead s.ahead l.tally

abbrev pub decreases-loop-token : goal.decreases-loop-token
decreases-loop-token l = length (scanner_stream l.scanner).ahead
