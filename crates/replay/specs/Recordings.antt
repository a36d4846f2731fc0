-- What a recording says: its text and its rule names.
use Rattle.std.specs.Prelude.{◌≡◌, ℕ, ◌+◌, ◌<◌, ◌≤◌, Bool, if◌then◌else◌, List, [], ◌∷◌, ◌++◌, length, map, Some, None, Ok, Err, vec_items, Option, Result, IsOkAnd, IfErr, ok_or, ◌==◌, nat_lt}
use Rattle.std.specs.Borrow.{Bor}
use Rattle.std.specs.List.{list_all, onto_first, slice_split}
use Rattle.std.specs.Option.{unwrap_or}
use Rattle.replay.specs.declared.fault.Fault.{Fault}
use Rattle.replay.specs.declared.fault.Fault.TheVariants.{NotYet, EmptyName, UnknownEscape}
use Rattle.replay.specs.declared.fault.BadLine.{BadLine}
use Rattle.replay.specs.declared.fault.ReadError.{ReadError}
use Rattle.replay.specs.declared.fault.ReadError.TheVariants as read
use Rattle.replay.specs.declared.recording.Recording.{Recording}
use Rattle.replay.specs.Bytes.{Bytes, unescaped}
use Rattle.replay.specs.Lines.{Saying, nothing, some_text, some_rules, not_yet, wrong, says}

-- ── lines and words ──

-- the lines of an input: each ends before an LF (10), the last one there or where the input ends; behind an LF that is the last byte none begins, and an empty
-- input has none
abbrev pub lines : Bytes → List Bytes
lines [] = []
lines (b ∷ bs) = if b == 10 then [] ∷ lines bs else onto_first b (lines bs)

-- the pieces between spaces (32), one more than there are spaces, of which any may be empty
abbrev pub words : Bytes → List Bytes
words bytes = slice_split (λ b. b == 32) bytes

-- ── the names of rules, of which none may be empty ──

-- whether each of some names has a byte
abbrev pub none_empty : List Bytes → Bool
none_empty names = list_all (λ name. nat_lt 0 (length name)) names

-- the words of some bytes, which are one empty word if there are no bytes; no words of `None`
abbrev pub words_if_any : Option Bytes → List Bytes
words_if_any None = []
words_if_any (Some bytes) = words bytes

-- the words of some bytes as names, refused if any is empty, as where there are no bytes, two spaces together or a space at an end; of `None`, which is not
-- refused, no names
abbrev pub names : Option Bytes → Result (List Bytes) Fault
names bytes = if none_empty (words_if_any bytes) then Ok (words_if_any bytes) else Err EmptyName

-- ── line by line ──

-- what the lines so far say: the text, if there was a text line, and the names
pub record Said : Type 0 where
  pub text : Option Bytes
  pub rules : List Bytes

-- the text with one more text line: the first is the text, and a further one goes on after an LF (10)
abbrev pub continued : Option Bytes → Bytes → Bytes
continued None line = line
continued (Some text) line = text ++ (10 ∷ line)

-- what is said after one more text line, given its bytes with the escapes read: the text begins with them, or goes on with them, and the names stay; the fault
-- where there was one
abbrev pub with_text : Said → Result Bytes Fault → Result Said Fault
with_text s (Ok line) = Ok (record { text = Some (continued s.text line); rules = s.rules })
with_text s (Err fault) = Err fault

-- what is said after one more rules line, given its names: they replace earlier ones, and the text stays; the fault where there was one
abbrev pub with_rules : Said → Result (List Bytes) Fault → Result Said Fault
with_rules s (Ok names) = Ok (record { text = s.text; rules = names })
with_rules s (Err fault) = Err fault

-- what is said after one more line, given what that line says, or its fault: the same where it says nothing; a keyword that is not read yet is a fault, and so
-- are an unknown escape in a text and an empty name
abbrev pub with_line : Said → Saying → Result Said Fault
with_line s nothing = Ok s
with_line s (some_text bytes) = with_text s (ok_or (unescaped bytes) UnknownEscape)
with_line s (some_rules bytes) = with_rules s (names bytes)
with_line s (not_yet keyword) = Err (NotYet keyword)
with_line s (wrong fault) = Err fault

-- goes on to the other lines, or stops with the number of this one and its fault where it is wrong
abbrev pub go_on : ℕ → Result Said Fault → (Said → Result Said BadLine) → Result Said BadLine
go_on number (Ok s) others = others s
go_on number (Err fault) others = Err (record { number = number; fault = fault })

-- what is said after these lines, with what was said before them; or the number and the fault of the first wrong line among them, where the first line has
-- this number and each further line the next
abbrev pub with_lines : ℕ → Said → List Bytes → Result Said BadLine
with_lines number s [] = Ok s
with_lines number s (line ∷ more) = go_on number (with_line s (says line)) (λ t. with_lines (number + 1) t more)

-- what is said before the first line: nothing
abbrev pub nothing_said : Said
nothing_said = record { text = None; rules = [] }

-- what an input says, or its first wrong line; lines count from 1
abbrev pub recorded : Bytes → Result Said BadLine
recorded input = with_lines 1 nothing_said (lines input)

-- ── as the code has it ──

-- the bytes that each of some references lends
abbrev pub bytes_in : List (Bor Bytes) → List Bytes
bytes_in = map (λ r. r.now)

-- a recording has this text, empty if there was no text line, and these names
abbrev pub IsReadAs : Said → Recording → Type 0
IsReadAs s r = (vec_items r.text ≡ unwrap_or s.text []) × (bytes_in (vec_items r.rules) ≡ s.rules)

-- the number is that of a line of the input, counted from 1, and no line before it is wrong
abbrev pub Reached : Bytes → ℕ → Type 0
Reached input number = (0 < number) × (number ≤ length (lines input)) × IfErr (recorded input) (λ bad. number ≤ bad.number)

-- whether `Recording::read` may answer this: a recording only if no line is wrong and it is what the input says, a wrong line only if it is the first of the
-- wrong ones, and want of memory only at a line of the input before which none is wrong
abbrev pub Recorded : Bytes → Result Recording ReadError → Type 0
Recorded input (Ok r) = IsOkAnd (recorded input) (λ s. IsReadAs s r)
Recorded input (Err (read.BadLine bad)) = recorded input ≡ Err bad
Recorded input (Err (read.NoMemory n)) = Reached input n.line
