-- The token rules: what may stand at the front of a text, how far it goes, and which type it has.
use Rattle.std.specs.Prelude.{ℕ, zero, suc, ◌+◌, max, if◌then◌else◌, List, [], ◌∷◌, length, take, drop, Some, None, codes, Option, ◌==◌}
use Rattle.std.specs.List.{prefix_len}
use Rattle.input.specs.declared.lexeme.Lexeme.{Lexeme}
use Rattle.input.specs.declared.lexeme.Lexeme.TheVariants.{Name, Number, Sign, Blank, Comment, Unknown}
use Rattle.std.specs.Str.{bytes_eq}
use Rattle.input.specs.Bytes.{Bytes, is_digit, begins_name, is_in_name, is_blank, capitals, starts_with}

-- ── the signs and the words, each with its type ──

-- the operators and marks, each with its type; no order is meant
abbrev pub signs : List (Bytes × ℕ)
signs =
    (codes ":=", 3) ∷ (codes ";", 4) ∷ (codes "(", 5) ∷ (codes ")", 6) ∷ (codes "+", 7) ∷ (codes "-", 8) ∷ (codes "*", 9) ∷ (codes "/", 10)
    ∷ (codes "**", 11) ∷ (codes "=", 12) ∷ (codes "<>", 13) ∷ (codes "<", 14) ∷ (codes "<=", 15) ∷ (codes ">", 16) ∷ (codes ">=", 17)
    ∷ (codes "&", 18) ∷ (codes ",", 19) ∷ []

-- the names that have a type of their own, in capitals, each with its type; a name counts as one in either case
abbrev pub words : List (Bytes × ℕ)
words = (codes "AND", 20) ∷ (codes "OR", 21) ∷ (codes "XOR", 22) ∷ (codes "NOT", 23) ∷ (codes "MOD", 24) ∷ []

-- the type that a list gives to these bytes, by its first entry with them, or else `other`
abbrev pub type_in : List (Bytes × ℕ) → Bytes → ℕ → ℕ
type_in [] part other = other
type_in ((bytes, k) ∷ more) part other = if bytes_eq bytes part then k else type_in more part other

-- the length of the longest sign of this list that a text begins with, or 0 where it begins with none
abbrev pub longest_in : List (Bytes × ℕ) → Bytes → ℕ
longest_in [] text = 0
longest_in ((sign, k) ∷ more) text = max (if starts_with sign text then length sign else 0) (longest_in more text)

-- the number plus one, or none where there is none
abbrev pub one_more : Option ℕ → Option ℕ
one_more None = None
one_more (Some n) = Some (suc n)

-- how many bytes there are up to the first `*)` and with it, if there is one
abbrev pub closing : Bytes → Option ℕ
closing [] = None
closing (b ∷ bs) = if starts_with (codes "*)") (b ∷ bs) then Some 2 else one_more (closing bs)

-- ── what stands at the front of a text ──

-- what a front may be: a name, a run of digits, one of the signs, a run of blanks, a comment, or none of these (a `(*` that is never closed, or one byte)
pub data Kind : Type 0 where
  name number sign blank comment unknown : Kind

-- what a text begins with: its kind, and how many bytes it has
pub record Front : Type 0 where
  pub kind : Kind
  pub len : ℕ

-- a front of this kind and length
abbrev pub front_is : Kind → ℕ → Front
front_is k n = record { kind = k; len = n }

-- what a text that begins with `(*` begins with, given how many bytes behind the `(*` go up to the first `*)` and with it, if there is one, and the length of
-- the text: a comment up to there, or else an unknown that is the whole text
abbrev pub comment_or_rest : Option ℕ → ℕ → Front
comment_or_rest (Some n) all = front_is comment (2 + n)
comment_or_rest None all = front_is unknown all

-- what a text that has a byte, and begins with no name, number, blanks or `(*`, begins with, given the length of the longest sign there, or 0: that sign, or
-- one unknown byte
abbrev pub sign_or_byte : ℕ → Front
sign_or_byte zero = front_is unknown 1
sign_or_byte (suc n) = front_is sign (suc n)

-- what a text of this first byte and these others begins with: a name, a number or blanks by its first byte, as far as such bytes go (those of a name may be
-- digits too), else from `(*` on a comment or an unknown, else the longest sign, else one unknown byte
abbrev pub front_of : ℕ → Bytes → Front
front_of b bs =
    let text = b ∷ bs in
    if begins_name b then front_is name (prefix_len is_in_name text)
    else (if is_digit b then front_is number (prefix_len is_digit text)
    else (if is_blank b then front_is blank (prefix_len is_blank text)
    else (if starts_with (codes "(*") text then comment_or_rest (closing (drop 2 text)) (length text)
    else sign_or_byte (longest_in signs text))))

-- ── the type and the channel of a lexeme, by its kind and its bytes ──

-- the type: a name's is that of the word that it is, in either case, else 1; a number's 2; a sign's its own, and 0 where the list has none; blanks' 25; a
-- comment's 26; an unknown's 0
abbrev pub type_of : Kind → Bytes → ℕ
type_of name part = type_in words (capitals part) 1
type_of number part = 2
type_of sign part = type_in signs part 0
type_of blank part = 25
type_of comment part = 26
type_of unknown part = 0

-- the channel: 1 for blanks and comments, which are hidden from a parser, and 0 for all else
abbrev pub channel_of : Kind → ℕ
channel_of name = 0
channel_of number = 0
channel_of sign = 0
channel_of blank = 1
channel_of comment = 1
channel_of unknown = 0

-- ── the first lexeme of a text, if there is any: its kind, and its bytes as a part of the text ──

-- a kind of lexeme, and its bytes
pub record Part : Type 0 where
  pub kind : Kind
  pub bytes : Bytes

-- the kind of a front, and as many first bytes of the text as its length says, or all where the text has fewer
abbrev pub cut : Front → Bytes → Part
cut f text = record { kind = f.kind; bytes = take f.len text }

-- what a text begins with, as kind and bytes; none where the text is empty
abbrev pub first_part : Bytes → Option Part
first_part [] = None
first_part (b ∷ bs) = Some (cut (front_of b bs) (b ∷ bs))

-- the comment, or the rest that is never closed, that a text begins with, as kind and bytes; none unless the text begins with `(*`
abbrev pub comment_part : Bytes → Option Part
comment_part text = if starts_with (codes "(*") text then Some (cut (comment_or_rest (closing (drop 2 text)) (length text)) text) else None

-- the longest sign that a text begins with, as kind and bytes; none where it begins with no sign; of a text that begins with `(*` it is the `(`
abbrev pub sign_part : Bytes → Option Part
sign_part text = if longest_in signs text == 0 then None else Some (cut (front_is sign (longest_in signs text)) text)

-- the kind and the bytes of a lexeme of the code
abbrev pub part_of : Lexeme → Part
part_of (Name b) = record { kind = name; bytes = b.now }
part_of (Number b) = record { kind = number; bytes = b.now }
part_of (Sign b) = record { kind = sign; bytes = b.now }
part_of (Blank b) = record { kind = blank; bytes = b.now }
part_of (Comment b) = record { kind = comment; bytes = b.now }
part_of (Unknown b) = record { kind = unknown; bytes = b.now }
