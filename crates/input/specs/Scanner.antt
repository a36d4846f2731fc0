-- What a scanner of the code means.
use Rattle.std.specs.Prelude.{◌+◌, length}
use Rattle.input.specs.declared.scanner.Cursor.{Cursor}
use Rattle.input.specs.declared.scanner.Scanner.{Scanner}
use Rattle.input.specs.Streams.{Stream, Supply}
use Rattle.input.specs.Lookahead.{stream}
use Rattle.input.specs.Scanned.{scanned_from, end_at}

-- what is still to be scanned: the tokens of the rest, the first with the cursor's index and offset, and the end, with the index behind the last of them and
-- the offset behind the last byte
abbrev pub still_to_scan : Cursor → Supply
still_to_scan c =
    let tokens = scanned_from c.index c.offset c.rest.now in
    record { tokens = tokens; end = end_at (c.index + length tokens) (c.offset + length c.rest.now) }

-- the stream that a scanner is: previous is the token that it keeps as previous, or none; ahead is nothing if the current token is an end, or else it, and,
-- unless the second is an end, the second and the tokens still to be scanned; the end is the first of the two that is an end, or else that of what is still to
-- be scanned
abbrev pub scanner_stream : Scanner → Stream
scanner_stream s = stream still_to_scan s.tokens
