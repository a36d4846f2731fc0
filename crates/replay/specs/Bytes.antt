-- Bytes: cut at a mark, read with escapes, and written with escapes.
use Rattle.std.specs.Prelude.{◌≡◌, ℕ, ◌+◌, ◌<◌, if◌then◌else◌, [], ◌∷◌, length, drop, Some, None, Ok, Err, Option, Result, option_map, position, ◌==◌}
use Rattle.std.specs.Borrow.{Bor}
use Rattle.std.specs.List.{before_first, flat_map}
use Rattle.replay.specs.declared.fault.Fault.{Fault}
use Rattle.replay.specs.declared.fault.Fault.TheVariants.{UnknownEscape}
pub use Rattle.input.specs.Bytes.{Bytes}

-- the bytes before the first mark; all of them if there is none
abbrev pub up_to : ℕ → Bytes → Bytes
up_to mark bytes = before_first (λ b. b == mark) bytes

-- the bytes behind the first mark, of which there may be none; `None` where there is no mark
abbrev pub behind : ℕ → Bytes → Option Bytes
behind mark bytes = option_map (λ i. drop (i + 1) bytes) (position (λ b. b == mark) bytes)

-- ── reading: \n, \t, \r and \\ are escapes ──

-- what a backslash and then this byte stand for: n for an LF (10), t for a tab (9), r for a CR (13), a second backslash (92) for one; none for any other byte
abbrev pub meant_by : ℕ → Option ℕ
meant_by b =
    if b == 110 then Some 10
    else (if b == 116 then Some 9
    else (if b == 114 then Some 13
    else (if b == 92 then Some 92
    else None)))

-- a byte in front of more bytes, if both are there
abbrev pub in_front : Option ℕ → Option Bytes → Option Bytes
in_front None more = None
in_front (Some b) None = None
in_front (Some b) (Some bs) = Some (b ∷ bs)

-- what a text with escapes stands for; none if a backslash (92) that begins an escape is the last byte, or has another byte behind it than n, t, r or a
-- backslash
abbrev pub unescaped : Bytes → Option Bytes
unescaped [] = Some []
unescaped (b ∷ []) = if b == 92 then None else Some (b ∷ [])
unescaped (b ∷ (e ∷ bs)) = if b == 92 then in_front (meant_by e) (unescaped bs) else in_front (Some b) (unescaped (e ∷ bs))

-- what reading the first byte of a text with escapes may answer: `None` only if the text is empty; an unknown escape only if there is one in it, here or
-- further on; else a byte and a shorter rest, where the text stands for this byte and then what the rest stands for, or both have an unknown escape in them,
-- and then the byte may be any
abbrev pub ReadsFirst : Bytes → Result (Option (ℕ × Bor Bytes)) Fault → Type 0
ReadsFirst text (Ok None) = text ≡ []
ReadsFirst text (Ok (Some (b, rest))) = (unescaped text ≡ in_front (Some b) (unescaped rest.now)) × (length rest.now < length text)
ReadsFirst text (Err fault) = (unescaped text ≡ None) × (fault ≡ UnknownEscape)

-- ── writing: only a tab, an LF and a CR change, to \t, \n and \r ──

-- what is written for a byte: \t for a tab (9), \n for an LF (10), \r for a CR (13), any other byte itself
abbrev pub escaped_byte : ℕ → Bytes
escaped_byte b =
    if b == 9 then 92 ∷ 116 ∷ []
    else (if b == 10 then 92 ∷ 110 ∷ []
    else (if b == 13 then 92 ∷ 114 ∷ []
    else b ∷ []))

-- what is written for some bytes: what is written for each, joined
abbrev pub escaped : Bytes → Bytes
escaped = flat_map escaped_byte
