-- A recording, read line by line.
use Rattle.std.proofs.Common.{◌≡◌, ℕ, ◌+◌, ◌<◌, ◌≤◌, ◌==◌, Bool, true, false, cond, Option, option_map, List, [], ◌∷◌, length, IfSome, Some, None, unwrap_or, Ok, Err, Result, MatchResult, IsOkAnd, IfErr, refl, sym, ap, ◌∙◌, subst, arith, Bor}
use Rattle.std.proofs.lemmas.List.{nil_from_length}
use Rattle.std.specs.List.{onto_first}
use Rattle.replay.specs.declared.fault.Fault.{Fault}
use Rattle.replay.specs.declared.fault.LineError.{LineError}
use Rattle.replay.specs.declared.fault.LineError.TheVariants.{Wrong, Memory}
use Rattle.replay.specs.declared.fault.BadLine.{BadLine}
use Rattle.replay.specs.declared.fault.ReadError.{ReadError}
use Rattle.replay.specs.declared.recording.Recording.{Recording}
use Rattle.replay.specs.Bytes.{Bytes, up_to, behind}
use Rattle.replay.specs.Faults.{at_line, Gives}
use Rattle.replay.specs.Lines.{says}
use Rattle.replay.specs.Recordings.{lines, Said, with_line, go_on, with_lines, recorded, IsReadAs, Reached, Recorded}
use Rattle.replay.proofs.Splits.{up_to_step, behind_step}

-- the lines of one byte more, given those of the bytes behind it with that byte in front of the first
line_in_front : (b : ℕ) (bs : Bytes) → onto_first b (lines bs) ≡ (b ∷ up_to 10 bs) ∷ lines (unwrap_or (behind 10 bs) [])
    → lines (b ∷ bs) ≡ up_to 10 (b ∷ bs) ∷ lines (unwrap_or (behind 10 (b ∷ bs)) [])
line_in_front b bs rest = go (b == 10) refl
  where
    go : (t : Bool) → (b == 10) ≡ t → lines (b ∷ bs) ≡ up_to 10 (b ∷ bs) ∷ lines (unwrap_or (behind 10 (b ∷ bs)) [])
    go true e =
        ap (λ (x : Bool). cond x ([] ∷ lines bs) (onto_first b (lines bs))) e
        ∙ (λ i. sym (up_to_step 10 b bs true e) i ∷ lines (unwrap_or (sym (behind_step 10 b bs true e) i) []))
    go false e =
        ap (λ (x : Bool). cond x ([] ∷ lines bs) (onto_first b (lines bs))) e ∙ rest
        ∙ (λ i. sym (up_to_step 10 b bs false e) i ∷ lines (unwrap_or (sym (behind_step 10 b bs false e) i) []))

-- the lines of some bytes: those up to the first LF, and then the lines behind it
pub lines_cut : (bytes : Bytes) → 0 < length bytes → lines bytes ≡ up_to 10 bytes ∷ lines (unwrap_or (behind 10 bytes) [])
lines_cut [] some = absurd (omega arith)
lines_cut (b ∷ []) some = line_in_front b [] refl
lines_cut (b ∷ (a ∷ bs)) some = line_in_front b (a ∷ bs) (ap (onto_first b) (lines_cut (a ∷ bs) (omega arith)))

-- ── one line after another ──

-- what `unwrap_or` leaves to read: the bytes behind the LF, and none where there is no LF
pub rest_is : (o : Option (Bor Bytes)) (d r : Bor Bytes) → r ≡ unwrap_or o d → d.now ≡ [] → r.now ≡ unwrap_or (option_map (λ x. x.now) o) []
rest_is None d r is none = ap (λ (x : Bor Bytes). x.now) is ∙ none
rest_is (Some x) d r is none = ap (λ (x : Bor Bytes). x.now) is

-- it is shorter than what was there
pub rest_shorter : (o : Option (Bor Bytes)) (d r : Bor Bytes) (n : ℕ) → r ≡ unwrap_or o d → d.now ≡ [] → 0 < n → IfSome o (λ x. length x.now < n) → length r.now < n
rest_shorter None d r n is none some h = omega (arith, ap (λ (x : Bor Bytes). length x.now) is, ap length none)
rest_shorter (Some x) d r n is none some h = omega (arith, ap (λ (x : Bor Bytes). length x.now) is, h)

module _ (number : ℕ) (s : Said) (rest line after : Bytes) (some : 0 < length rest) (is : line ≡ up_to 10 rest) (then : after ≡ unwrap_or (behind 10 rest) []) where
  -- there is one line more in the rest than behind its first
  pub one_line_more : length (lines rest) ≡ 1 + length (lines after)
  one_line_more = omega (arith, ap length (lines_cut rest some), ap (λ (bs : Bytes). length (lines bs)) then)

  one_line : with_lines number s (lines rest) ≡ go_on number (with_line s (says line)) (λ t. with_lines (number + 1) t (lines after))
  one_line =
      ap (with_lines number s) (lines_cut rest some)
      ∙ ap (λ (bs : Bytes). go_on number (with_line s (says bs)) (λ t. with_lines (number + 1) t (lines (unwrap_or (behind 10 rest) [])))) (sym is)
      ∙ ap (λ (bs : Bytes). go_on number (with_line s (says line)) (λ t. with_lines (number + 1) t (lines bs))) (sym then)

  pub line_more : (t : Said) → with_line s (says line) ≡ Ok t → with_lines number s (lines rest) ≡ with_lines (number + 1) t (lines after)
  line_more t e = one_line ∙ ap (λ (w : Result Said Fault). go_on number w (λ u. with_lines (number + 1) u (lines after))) e

  pub wrong_line : (fault : Fault) → with_line s (says line) ≡ Err fault → with_lines number s (lines rest) ≡ Err (record { number = number; fault = fault })
  wrong_line fault e = one_line ∙ ap (λ (w : Result Said Fault). go_on number w (λ u. with_lines (number + 1) u (lines after))) e

-- where nothing is left, all lines are read
pub all_read : (meant : Result Said BadLine) (number : ℕ) (s : Said) (rest : Bytes) (r : Recording) → meant ≡ with_lines number s (lines rest) → length rest ≡ 0
    → IsReadAs s r → IsOkAnd meant (λ t. IsReadAs t r)
all_read meant number s rest r inv none done =
    subst (λ (m : Result Said BadLine). IsOkAnd m (λ t. IsReadAs t r)) (sym (inv ∙ ap (λ (bs : Bytes). with_lines number s (lines bs)) (nil_from_length rest none))) done

-- what is said of lines is wrong at none before the first
pub wrong_later : (number : ℕ) (s : Said) (ls : List Bytes) → IfErr (with_lines number s ls) (λ bad. number ≤ bad.number)
wrong_later number s [] = tt
wrong_later number s (l ∷ ls) = go (with_line s (says l)) (λ t. wrong_later (number + 1) t ls)
  where
    later : (r : Result Said BadLine) → IfErr r (λ bad. number + 1 ≤ bad.number) → IfErr r (λ bad. number ≤ bad.number)
    later (Ok t) h = tt
    later (Err bad) h = omega arith

    go : (w : Result Said Fault) → ((t : Said) → IfErr (with_lines (number + 1) t ls) (λ bad. number + 1 ≤ bad.number))
        → IfErr (go_on number w (λ t. with_lines (number + 1) t ls)) (λ bad. number ≤ bad.number)
    go (Ok t) ih = later (with_lines (number + 1) t ls) (ih t)
    go (Err fault) ih = omega arith

-- the answer to a line that was not read
refused_at : {H : Type 0} (value : H → Said) (input : Bytes) (w : Result Said Fault) (number : ℕ) (e : LineError) → Gives value w (Err e) → Reached input number
    → ((fault : Fault) → w ≡ Err fault → recorded input ≡ Err (record { number = number; fault = fault })) → Recorded input (Err (at_line number e))
refused_at value input w number (Wrong fault) is at then = then fault is
refused_at value input w number Memory is at then = at

pub line_refused : {H : Type 0} (value : H → Said) (input : Bytes) (w : Result Said Fault) (number : ℕ) (r : Result H LineError) (e : LineError)
    (out : Result Recording ReadError) → Gives value w r → r ≡ Err e → out ≡ Err (at_line number e) → Reached input number
    → ((fault : Fault) → w ≡ Err fault → recorded input ≡ Err (record { number = number; fault = fault })) → Recorded input out
line_refused value input w number r e out gave is goes reached then =
    subst (Recorded input) (sym goes) (refused_at value input w number e (subst (Gives value w) is gave) reached then)

-- what `map_err` kept, and what it turned into another error
pub kept : {H E : Type 0} (F : Type 0) (r : Result H E) (h : H) → MatchResult r (λ x. ◌≡◌ {A = Result H F} (Ok h) (Ok x)) (λ e. ⊥) → r ≡ Ok h
kept F (Ok x) h is = cc
kept F (Err e) h is = absurd is

pub turned : {H E F : Type 0} (r : Result H E) (f : F) (P : E → Type 0) → MatchResult r (λ x. ◌≡◌ {A = Result H F} (Err f) (Ok x)) P → (e : E) × (r ≡ Err e) × P e
turned (Ok x) f P is = absurd cc
turned (Err e) f P is = (e, refl, is)
