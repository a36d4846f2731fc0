-- What is printed, by what was read.
use Rattle.std.proofs.Common.{◌≡◌, ◌≤◌, Bool, cond, length, codes, sym, ap, ◌∙◌}
use Rattle.std.proofs.lemmas.Bool.{le-leb}
use Rattle.replay.specs.Bytes.{Bytes}
use Rattle.replay.specs.Printed.{line_of, tokens_printed, text_printed}

pub text_fits : (bytes text : Bytes) → length bytes ≤ 65536 → text ≡ bytes → tokens_printed text ≡ text_printed bytes
text_fits bytes text fits is =
    ap tokens_printed is
    ∙ sym (ap (λ (b : Bool). cond b (tokens_printed bytes) (line_of (codes "text -> refused 3 (out of range)"))) (le-leb (length bytes) 65536 fits))
