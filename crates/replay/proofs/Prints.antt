-- What is printed, piece by piece.
use Rattle.std.proofs.Common.{◌≡◌, [], ◌++◌, IfOk, Ok, Err, Result, ap, ◌∙◌}
use Rattle.std.proofs.lemmas.List.{append_assoc}
use Rattle.replay.specs.Bytes.{Bytes}

-- one piece after another
pub two_pieces : (out before after a b : Bytes) → after ≡ before ++ a → out ≡ after ++ b → out ≡ before ++ (a ++ b)
two_pieces out before after a b first then = then ∙ ap (λ (bs : Bytes). bs ++ b) first ∙ append_assoc before a b

-- the same, where the last piece is printed only if there is memory
pub last_piece : {E : Type 0} (r : Result (Unit {0}) E) (before after out a b : Bytes) → after ≡ before ++ a → IfOk r (λ _. out ≡ after ++ b)
    → IfOk r (λ _. out ≡ before ++ (a ++ b))
last_piece (Ok u) before after out a b first then = two_pieces out before after a b first then
last_piece (Err e) before after out a b first then = tt

-- the first piece
pub from_nothing : (out before a : Bytes) → out ≡ before ++ a → before ≡ [] → out ≡ a
from_nothing out before a is none = is ∙ ap (λ (bs : Bytes). bs ++ a) none
