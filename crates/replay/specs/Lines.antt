-- What a line of a recording says.
use Rattle.std.specs.Prelude.{ℕ, Bool, false, if◌then◌else◌, ◌||◌, [], ◌∷◌, Some, None, Ok, Err, codes, Option, Result, ◌==◌}
use Rattle.std.specs.List.{list_all}
use Rattle.std.specs.Option.{option_map, unwrap_or}
use Rattle.std.specs.Str.{bytes_eq}
use Rattle.replay.specs.declared.keyword.Keyword.{Keyword}
use Rattle.replay.specs.declared.fault.Fault.{Fault}
use Rattle.replay.specs.declared.fault.Fault.TheVariants.{UnknownWord, NotYet, EmptyName, UnknownEscape}
use Rattle.replay.specs.declared.line.Line.{Line}
use Rattle.replay.specs.declared.line.Line.TheVariants.{Skipped, Text, Rules}
use Rattle.replay.specs.Bytes.{Bytes, up_to, behind}
use Rattle.replay.specs.Keywords.{name_of, keyword}

-- a space or a tab
abbrev pub is_space : ℕ → Bool
is_space b = b == 32 || b == 9

-- nothing but spaces and tabs, or nothing at all
abbrev pub is_blank : Bytes → Bool
is_blank line = list_all is_space line

-- a line that begins with a # (35)
abbrev pub is_comment : Bytes → Bool
is_comment [] = false
is_comment (b ∷ bs) = b == 35

-- what a line may say: nothing; text, with its escapes unread; rules, with what stands behind the space after the word, or `None` where there is no space; a
-- keyword that is not read yet; or a fault
pub data Saying : Type 0 where
  nothing : Saying
  some_text : Bytes → Saying
  some_rules : Option Bytes → Saying
  not_yet : Keyword → Saying
  wrong : Fault → Saying

-- what a line says, by the keyword that its first word is and by what stands behind the space (32) after it: with `text` that, escapes unread, and empty
-- without a space; with `rules` that, or `None` without a space; with another keyword, that it is not read yet; with no keyword, that the word is unknown
abbrev pub by_keyword : Option Keyword → Option Bytes → Saying
by_keyword None rest = wrong UnknownWord
by_keyword (Some k) rest =
    if bytes_eq (name_of k) (codes "text") then some_text (unwrap_or rest [])
    else (if bytes_eq (name_of k) (codes "rules") then some_rules rest
    else not_yet k)

-- what a line says: nothing if it is blank or a comment, else by its first word, which ends before the first space (a tab is part of it, and it is empty in a
-- line that begins with a space)
abbrev pub says : Bytes → Saying
says line = if is_blank line || is_comment line then nothing else by_keyword (keyword (up_to 32 line)) (behind 32 line)

-- what a line that the code has read says; a fault says that the keyword is not read yet, or that the line is wrong
abbrev pub meaning : Result Line Fault → Saying
meaning (Ok Skipped) = nothing
meaning (Ok (Text bytes)) = some_text bytes.now
meaning (Ok (Rules names)) = some_rules (option_map (λ bytes. bytes.now) names)
meaning (Err (NotYet k)) = not_yet k
meaning (Err UnknownWord) = wrong UnknownWord
meaning (Err EmptyName) = wrong EmptyName
meaning (Err UnknownEscape) = wrong UnknownEscape
