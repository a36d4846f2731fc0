use Rattle.std.proofs.Common.{◌≡◌, ◌++◌, take, drop}
use Rattle.replay.specs.Bytes.{up_to, behind}
use Rattle.replay.proofs.bytes.split_once.Given as goal

-- no mark stands before i
abbrev pub invariant-loop-i : goal.invariant-loop-i
invariant-loop-i l =
    (up_to l.mark l.bytes ≡ take l.i l.bytes ++ up_to l.mark (drop l.i l.bytes))
    × (behind l.mark l.bytes ≡ behind l.mark (drop l.i l.bytes))
