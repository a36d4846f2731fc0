use Rattle.std.proofs.Common.{◌≡◌, ◌+◌, ◌≤◌, length}
use Rattle.replay.specs.Recordings.{lines, recorded, with_lines}
use Rattle.replay.proofs.recording.Recording.read.Given as goal

-- the number fits, since each line had a byte or an LF; those so far and those that are left are no more than all lines; and those that are left, read after
-- those so far, give what the input says
abbrev pub invariant-loop-rest : goal.invariant-loop-rest
invariant-loop-rest l =
    (l.number + length l.rest ≤ length l.initial.rest)
    × (l.number + length (lines l.rest) ≤ length (lines l.initial.rest))
    × (recorded l.initial.rest ≡ with_lines (l.number + 1) l.head (lines l.rest))

abbrev pub decreases-loop-rest : goal.decreases-loop-rest
decreases-loop-rest l = length l.rest
