-- A text of a program, and when a slice is refused as one.
use Rattle.std.specs.Prelude.{◌≡◌, ℕ, ◌<◌, ◌≤◌, length, take, codes, Ok, Err, Result}
use Rattle.std.proofs.Common.{sym, subst}
use Rattle.std.proofs.Math.Nat.{min-le_left}
use Rattle.std.proofs.lemmas.List.{length-take}
use Rattle.input.specs.declared.text.Text.{Text}
use Rattle.input.specs.declared.text.TextTooLong.{TextTooLong}
use Rattle.input.specs.Bytes.{Bytes}

-- the bytes of a `Text`: the first 65,536 of its slice, or all where there are fewer
abbrev pub bytes_of : Text → Bytes
bytes_of t = take 65536 t.bytes.now

-- `bytes_of` gives at most 65,536 bytes of any `Text`; how long the slice in it is, this does not say
pub short : (t : Text) → length (bytes_of t) ≤ 65536
short t = subst (λ (n : ℕ). n ≤ 65536) (sym (length-take 65536 t.bytes.now)) (min-le_left 65536 (length t.bytes.now))

-- the number of the refusal: always 3, which stands for out of range
abbrev pub refusal_number : TextTooLong → ℕ
refusal_number e = 3

-- the words that are printed for the refusal
abbrev pub refusal_text : TextTooLong → Bytes
refusal_text e = codes "out of range"

-- whether `Text::new` may answer this for these bytes: a text of just these bytes if they are at most 65,536, a refusal if they are more
abbrev pub Taken : Bytes → Result Text TextTooLong → Type 0
Taken bytes (Ok t) = (length bytes ≤ 65536) × (bytes_of t ≡ bytes)
Taken bytes (Err e) = 65536 < length bytes
