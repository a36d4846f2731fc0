use Rattle.std.proofs.Common.{◌≡◌, ◌++◌, length, vec_items}
use Rattle.std.specs.Option.{option_map}
use Rattle.replay.specs.Bytes.{unescaped}
use Rattle.replay.proofs.bytes.unescape.Given as goal

-- the text stands for what is read, and then for what the rest stands for
abbrev pub invariant-loop-read : goal.invariant-loop-read
invariant-loop-read l = unescaped l.text ≡ option_map (λ more. vec_items l.read ++ more) (unescaped l.rest)

abbrev pub decreases-loop-read : goal.decreases-loop-read
decreases-loop-read l = length l.rest
