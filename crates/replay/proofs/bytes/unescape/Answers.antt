use Rattle.std.proofs.Common.{◌≡◌, ℕ, [], ◌∷◌, ◌++◌, Some, None, Option, sym, ap, ◌∙◌}
use Rattle.std.proofs.lemmas.List.{append_assoc}
use Rattle.std.specs.Option.{option_map}
use Rattle.replay.specs.Bytes.{Bytes, in_front, unescaped}
use Rattle.replay.proofs.bytes.unescape.Goals as goal

-- one more byte is read
byte_read : (whole rest more : Option Bytes) (read read' : Bytes) (b : ℕ) → whole ≡ option_map (λ m. read ++ m) rest → rest ≡ in_front (Some b) more
    → read' ≡ read ++ b ∷ [] → whole ≡ option_map (λ m. read' ++ m) more
byte_read whole rest None read read' b inv first pushed = inv ∙ ap (option_map (λ m. read ++ m)) first
byte_read whole rest (Some more) read read' b inv first pushed =
    inv ∙ ap (option_map (λ m. read ++ m)) first
    ∙ ap (λ (bs : Bytes). Some bs) (sym (append_assoc read (b ∷ []) more) ∙ ap (λ (bs : Bytes). bs ++ more) (sym pushed))

pub loop-read-preserved : goal.loop-read-preserved
loop-read-preserved c =
    let first = rw c.in-Some.is at c.in_ok-b.ensures in
    byte_read (unescaped c.args.text.now) (unescaped c.loop-read.rest.now) (unescaped c.in-Some.after.now) _ _ c.in-Some.b
    c.loop-read.invariant first.0 c.in_ok-push.ensures.items
