use Rattle.std.proofs.Common.{◌≡◌, ◌++◌, take, vec_items}
use Rattle.replay.specs.Bytes.{escaped}
use Rattle.replay.proofs.bytes.escape.Given as goal

abbrev pub invariant-loop-b : goal.invariant-loop-b
invariant-loop-b l = vec_items l.out ≡ vec_items l.initial.out ++ escaped (take l.b-index l.bytes)
