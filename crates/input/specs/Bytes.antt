-- Bytes of a text: letters, digits, blanks, and what a text begins with.
use Rattle.std.specs.Prelude.{ℕ, Bool, true, false, ◌&&◌, ◌||◌, List, [], ◌∷◌, map, ◌==◌}
use Rattle.std.specs.Char.{is_ascii_digit, is_ascii_alphabetic, to_ascii_uppercase}

-- a text, or a part of one, as a list of numbers; those of a slice of bytes are below 256, which this type does not say
abbrev pub Bytes : Type 0
Bytes = List ℕ

-- an ASCII digit
abbrev pub is_digit : ℕ → Bool
is_digit b = is_ascii_digit b

-- an ASCII letter or `_`
abbrev pub begins_name : ℕ → Bool
begins_name b = is_ascii_alphabetic b || b == 95

-- a byte that a name may go on with: an ASCII letter, `_` or an ASCII digit
abbrev pub is_in_name : ℕ → Bool
is_in_name b = begins_name b || is_digit b

-- a space, a tab, a line feed or a carriage return
abbrev pub is_blank : ℕ → Bool
is_blank b = b == 32 || b == 9 || b == 10 || b == 13

-- each small ASCII letter as its capital; other bytes stay
abbrev pub capitals : Bytes → Bytes
capitals = map to_ascii_uppercase

-- whether the second list begins with the first; any does with the empty one
abbrev pub starts_with : Bytes → Bytes → Bool
starts_with [] text = true
starts_with (w ∷ ws) [] = false
starts_with (w ∷ ws) (b ∷ bs) = w == b && starts_with ws bs
