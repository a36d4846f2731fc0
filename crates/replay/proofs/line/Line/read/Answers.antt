-- Kept, since without it the check finds this goal only near its limits: not with half of its counts.
use Rattle.std.proofs.Common.{◌≡◌, Bool, false, cond, Some, Option, refl, sym, ap, ◌∙◌}
use Rattle.std.proofs.lemmas.Bool.{or_from}
use Rattle.replay.specs.declared.keyword.Keyword.{Keyword}
use Rattle.replay.specs.declared.keyword.Keyword.TheVariants.{Text, Rules}
use Rattle.replay.specs.Bytes.{Bytes, up_to, behind}
use Rattle.replay.specs.Keywords.{keyword}
use Rattle.replay.specs.Lines.{is_blank, is_comment, nothing, not_yet, by_keyword, says}
use Rattle.replay.proofs.line.Line.read.Goals as goal

-- a keyword that is not read yet
other_says : (k : Keyword) (rest : Option Bytes) → (k ≡ Text → ⊥) → (k ≡ Rules → ⊥) → by_keyword (Some k) rest ≡ not_yet k
other_says Text rest t r = absurd (t refl)
other_says Rules rest t r = absurd (r refl)
other_says _ rest t r = refl

says_not_yet : (line : Bytes) (k : Keyword) → is_blank line ≡ false → is_comment line ≡ false → keyword (up_to 32 line) ≡ Some k
    → (k ≡ Text → ⊥) → (k ≡ Rules → ⊥) → says line ≡ not_yet k
says_not_yet line k blank comment is t r =
    ap (λ (b : Bool). cond b nothing (by_keyword (keyword (up_to 32 line)) (behind 32 line))) (or_from (is_blank line) (is_comment line) blank comment)
    ∙ ap (λ (o : Option Keyword). by_keyword o (behind 32 line)) is
    ∙ other_says k (behind 32 line) t r

pub returns-in_default : goal.returns-in_default
returns-in_default c =
    sym (says_not_yet c.args.line.now c.in_ok-keyword.keyword (sym c.if-is_blank.ensures) (sym c.if-is_comment.ensures)
    (ap keyword (sym c.split_once.ensures.front) ∙ c.in_ok-keyword.ensures) c.in_default.not-Text c.in_default.not-Rules)
