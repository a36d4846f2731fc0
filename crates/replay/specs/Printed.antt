-- What is printed of a text.
use Rattle.std.specs.Prelude.{◌+◌, ◌≤◌, Bool, if◌then◌else◌, not, List, [], ◌∷◌, ◌++◌, length, pos, codes, decimal, count_by, ◌==◌, nat_le}
use Rattle.std.specs.Fmt.{signed_decimal}
use Rattle.std.specs.List.{flat_map}
use Rattle.std.specs.Ordering.{int_eq}
use Rattle.input.specs.declared.token.Token.{Token}
use Rattle.input.specs.Law.{bytes_at}
use Rattle.input.specs.Scanned.{scanned, end_at}
use Rattle.replay.specs.declared.report.Tally.{Tally}
use Rattle.replay.specs.Bytes.{Bytes, escaped}

-- some bytes, and then an LF (10)
abbrev pub line_of : Bytes → Bytes
line_of text = text ++ 10 ∷ []

-- ── a token: INDEX TYPE CHANNEL OFFSET LENGTH 'BYTES' ──

-- a token's index, type, channel, offset and length in decimal, with a space behind each, and then a quote
abbrev pub numbers_of : Token → Bytes
numbers_of t =
    signed_decimal t.index ++ (codes " " ++ (signed_decimal t.ttype ++ (codes " " ++ (decimal t.channel ++ (codes " " ++ (decimal t.offset ++ (codes " " ++ (decimal t.len
    ++ codes " '"))))))))

-- a token's line: its numbers, then these bytes between quotes, with a tab, an LF and a CR as \t, \n and \r and all others as they are, and an LF
abbrev pub token_line : Token → Bytes → Bytes
token_line t part = numbers_of t ++ (escaped part ++ line_of (codes "'"))

-- a line for each token, with the part of the text that it has
abbrev pub token_lines : Bytes → List Token → Bytes
token_lines text = flat_map (λ t. token_line t (bytes_at text t))

-- ── how many tokens there are, without the end ──

-- whether a token is on channel 0
abbrev pub is_visible : Token → Bool
is_visible t = t.channel == 0

-- whether a token is on a channel other than 0
abbrev pub is_hidden : Token → Bool
is_hidden t = not (is_visible t)

-- whether a token is of type 0
abbrev pub is_unknown : Token → Bool
is_unknown t = int_eq t.ttype (pos 0)

-- how many of some tokens are visible, hidden and unknown
abbrev pub tally_of : List Token → Tally
tally_of ts = record { visible = count_by is_visible ts; hidden = count_by is_hidden ts; unknown = count_by is_unknown ts }

-- a tally after one more token was counted
abbrev pub counted : Tally → Token → Tally
counted n t = record { visible = n.visible + (if is_visible t then 1 else 0); hidden = n.hidden + (if is_hidden t then 1 else 0); unknown = n.unknown + (if is_unknown t then 1 else 0) }

-- each of a tally's three numbers is at most 65,536, so that one more can be counted
pub record Few (n : Tally) : Type 0 where
  pub visible : n.visible ≤ 65536
  pub hidden : n.hidden ≤ 65536
  pub unknown : n.unknown ≤ 65536

-- `N tokens, V on channel 0, H on channel 1, U unknown` without an LF, each number in decimal: V, H and U are the tally's, and N is V + H; a scanner's hidden
-- tokens are all on channel 1
abbrev pub tally_line : Tally → Bytes
tally_line t =
    decimal (t.visible + t.hidden) ++ (codes " tokens, " ++ (decimal t.visible ++ (codes " on channel 0, " ++ (decimal t.hidden ++ (codes " on channel 1, "
    ++ (decimal t.unknown ++ codes " unknown"))))))

-- ── a text: its tokens, the end, which has no bytes, and how many tokens there are ──

-- the end of a text: type −1, channel 0, length 0; its index is the number of the tokens, its offset the length of the text
abbrev pub end_of : Bytes → Token
end_of text = end_at (length (scanned text)) (length text)

-- a line for each token of a text, and then one for its end
abbrev pub listing : Bytes → Bytes
listing text = token_lines text (scanned text) ++ token_line (end_of text) []

-- all that is printed for a text: the line `tokens`, a line for each token and for the end, and the line of the tally
abbrev pub tokens_printed : Bytes → Bytes
tokens_printed text = line_of (codes "tokens") ++ (listing text ++ line_of (tally_line (tally_of (scanned text))))

-- what is printed for some bytes: the line `tokens`, a line for each token and for the end, and the line of the tally; or, where they are more than the 65,536
-- that a text may have, the line `text -> refused 3 (out of range)`
abbrev pub text_printed : Bytes → Bytes
text_printed text = if nat_le (length text) 65536 then tokens_printed text else line_of (codes "text -> refused 3 (out of range)")
