use Rattle.std.proofs.Common.{◌≡◌, true, vec_items}
use Rattle.replay.specs.Recordings.{bytes_in, none_empty}
use Rattle.replay.proofs.recording.read_names.Given as goal

-- the names that are read are the words so far, and none is empty
abbrev pub invariant-loop-name : goal.invariant-loop-name
invariant-loop-name l =
    (goal.iterator-loop-name).can_next l.name-iterator
    × (goal.iterator-loop-name).is_finite l.name-iterator
    × (vec_items l.read ≡ l.yielded)
    × (none_empty (bytes_in l.yielded) ≡ true)
