-- The tokens of a text, listed and counted one by one.
use Rattle.std.proofs.Common.{◌≡◌, ℕ, zero, suc, ◌+◌, ◌≤◌, List, [], ◌∷◌, ◌++◌, length, drop, count_by, ap, arith}
use Rattle.std.proofs.lemmas.List.Sums.{count_by-le-length}
use Rattle.input.specs.declared.token.Token.{Token}
use Rattle.input.specs.declared.text.Text.{Text}
use Rattle.input.specs.Lexemes.{front_of}
use Rattle.input.specs.Scanned.{scanned_within, scanned}
use Rattle.input.specs.Text.{bytes_of, short}
use Rattle.replay.specs.declared.report.Tally.{Tally}
use Rattle.replay.specs.Bytes.{Bytes}
use Rattle.replay.specs.Printed.{token_lines, is_visible, is_hidden, is_unknown, Few}

-- what is printed with the lines of the tokens ahead, and what is counted with them, is that of all
pub record Listing (text before out : Bytes) (all ahead : List Token) (tally : Tally) : Type 0 where
  pub lines : out ++ token_lines text ahead ≡ before ++ token_lines text all
  pub visible : tally.visible + count_by is_visible ahead ≡ count_by is_visible all
  pub hidden : tally.hidden + count_by is_hidden ahead ≡ count_by is_hidden all
  pub unknown : tally.unknown + count_by is_unknown ahead ≡ count_by is_unknown all

-- ── a text has at most as many tokens as bytes, so no count passes 65,536 ──

few_within : (m index offset : ℕ) (text : Bytes) → length (scanned_within m index offset text) ≤ m
few_within zero index offset text = omega arith
few_within (suc m) index offset [] = omega arith
few_within (suc m) index offset (b ∷ bs) = omega (arith, few_within m (suc index) (offset + (front_of b bs).len) (drop (front_of b bs).len (b ∷ bs)))

pub few_tokens : (t : Text) → length (scanned (bytes_of t)) ≤ 65536
few_tokens t = omega (arith, few_within (length (bytes_of t)) 0 0 (bytes_of t), short t)

pub few_if_short : (text before out : Bytes) (all ahead : List Token) (tally : Tally) → Listing text before out all ahead tally → length all ≤ 65536 → Few tally
few_if_short text before out all ahead tally l short = record {
  visible = omega (arith, count_by-le-length is_visible all, l.visible);
  hidden = omega (arith, count_by-le-length is_hidden all, l.hidden);
  unknown = omega (arith, count_by-le-length is_unknown all, l.unknown);
}

pub few : (t : Text) (text before out : Bytes) (all ahead : List Token) (tally : Tally) → all ≡ scanned (bytes_of t) → Listing text before out all ahead tally → Few tally
few t text before out all ahead tally is l = few_if_short text before out all ahead tally l (omega (arith, few_tokens t, ap length is))
