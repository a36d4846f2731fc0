-- What stands at the front of a text, case by case.
use Rattle.std.proofs.Common.{◌≡◌, ℕ, zero, suc, ◌+◌, ◌-◌, ◌<◌, ◌≤◌, Bool, true, false, cond, ◌&&◌, eqb, List, [], ◌∷◌, length, get_or, take, drop, IfSome, Some, None, codes, Option, sym, refl, ap, ◌∙◌, subst, subst₂, arith}
use Rattle.std.proofs.lemmas.List.{take_rest, length-drop}
use Rattle.std.proofs.lemmas.List.Sums.{prefix_len_is, prefix_len-le-length}
use Rattle.std.proofs.lemmas.Bool.{cond-false, cond_both, and_parts, or_left, false≢true}
use Rattle.std.specs.List.{prefix_len}
use Rattle.input.specs.Bytes.{Bytes, begins_name, is_in_name, is_digit, is_blank, starts_with}
use Rattle.input.specs.Lexemes.{Front, Part, one_more, closing, comment_or_rest, sign_or_byte, longest_in, signs, front_of, cut, first_part, comment_part}

closed : (bs : Bytes) (o : Option ℕ) → o ≡ closing bs
    → Some (cut (comment_or_rest o (suc (suc (length bs)))) (40 ∷ (42 ∷ bs))) ≡ comment_part (40 ∷ (42 ∷ bs))
closed bs o e = ap (λ (x : Option ℕ). Some (cut (comment_or_rest x (suc (suc (length bs)))) (40 ∷ (42 ∷ bs)))) e

-- after `(*`, with what the rest of the text says of the first `*)`
pub comment_front : (text : Bytes) (o : Option ℕ) → 2 ≤ length text → get_or text 0 0 ≡ 40 → get_or text 1 0 ≡ 42
    → o ≡ closing (take (length text - 2) (drop 2 text)) → Some (cut (comment_or_rest o (length text)) text) ≡ comment_part text
comment_front [] o l p q e = absurd (omega arith)
comment_front (a ∷ []) o l p q e = absurd (omega arith)
comment_front (a ∷ b ∷ bs) o l p q e =
    subst₂ (λ (x y : ℕ). Some (cut (comment_or_rest o (suc (suc (length bs)))) (x ∷ (y ∷ bs))) ≡ comment_part (x ∷ (y ∷ bs))) (sym p) (sym q)
    (closed bs o (e ∙ ap closing (take_rest (a ∷ (b ∷ bs)) 2)))

none_else : (t : Bool) (x : Part) → None ≡ cond t (Some x) None → t ≡ false
none_else true x e = let z : ◌≡◌ {A = ℕ} 0 1 = cc in absurd (omega arith)
none_else false x e = refl

-- a part at the front whose bytes pass a test, as the byte behind them does not
pub run_is : (test : ℕ → Bool) (text part : Bytes) → (length part ≤ length text) × (part ≡ take (length part) text)
    → ((i : ℕ) → i < length part → test (get_or text i 0) ≡ true) → (length part < length text → test (get_or text (length part) 0) ≡ false)
    → part ≡ take (prefix_len test text) text
run_is test text part front passing stops = front.1 ∙ ap (λ (n : ℕ). take n text) (sym (prefix_len_is test text (length part) 0 front.0 passing stops))

-- neither a name nor a number, blanks or a comment: a sign or a byte
pub sign_front : (text : Bytes) → 1 ≤ length text
    → begins_name (get_or text 0 0) ≡ false → is_digit (get_or text 0 0) ≡ false → is_blank (get_or text 0 0) ≡ false → None ≡ comment_part text
    → Some (cut (sign_or_byte (longest_in signs text)) text) ≡ first_part text
sign_front [] l p q r e = absurd (omega arith)
sign_front (b ∷ bs) l p q r e =
    let text = b ∷ bs in
    sym (ap (λ (f : Front). Some (cut f text))
    (cond-false _ _ _ p ∙ cond-false _ _ _ q ∙ cond-false _ _ _ r ∙ cond-false _ _ _ (none_else _ _ e)))

-- ── it has a byte, and no more than the text ──

pub leading_some : (test : ℕ → Bool) (b : ℕ) (bs : Bytes) → test b ≡ true → 1 ≤ prefix_len test (b ∷ bs)
leading_some test b bs e = subst (λ (t : Bool). 1 ≤ cond t (1 + prefix_len test bs) 0) (sym e) (omega arith)

pub closing_within : (bs : Bytes) → IfSome (closing bs) (λ n. n ≤ length bs)
closing_within [] = tt
closing_within (b ∷ bs) = go (eqb 42 b) bs (closing_within bs)
  where
    more : (cs : Bytes) (o : Option ℕ) → IfSome o (λ n. n ≤ length cs) → IfSome (one_more o) (λ n. n ≤ suc (length cs))
    more cs None h = tt
    more cs (Some n) h = omega arith

    go : (t : Bool) (cs : Bytes) → IfSome (closing cs) (λ n. n ≤ length cs)
        → IfSome (cond (t && starts_with (41 ∷ []) cs) (Some 2) (one_more (closing cs))) (λ n. n ≤ suc (length cs))
    go false cs h = more cs (closing cs) h
    go true [] h = tt
    go true (c ∷ cs) h = pick (eqb 41 c)
      where
        pick : (u : Bool) → IfSome (cond (u && true) (Some 2) (one_more (closing (c ∷ cs)))) (λ n. n ≤ suc (suc (length cs)))
        pick true = omega arith
        pick false = more (c ∷ cs) (closing (c ∷ cs)) h

pub starts_within : (ws text : Bytes) → starts_with ws text ≡ true → length ws ≤ length text
starts_within [] text e = omega arith
starts_within (w ∷ ws) [] e = absurd (false≢true e)
starts_within (w ∷ ws) (b ∷ bs) e = let h = starts_within ws bs (and_parts (eqb w b) (starts_with ws bs) e).1 in omega arith

pub longest_within : (list : List (Bytes × ℕ)) (text : Bytes) → longest_in list text ≤ length text
longest_within [] text = omega arith
longest_within ((sign, k) ∷ more) text =
    let rest = longest_within more text in
    let this : cond (starts_with sign text) (length sign) 0 ≤ length text =
    cond_both (starts_with sign text) (length sign) 0 (λ n. n ≤ length text) (starts_within sign text) (λ e. omega arith) in
    omega arith

pub record Within (text : Bytes) (n : ℕ) : Type 0 where
  pub some : 1 ≤ n
  pub within : n ≤ length text

run_within : (test : ℕ → Bool) (b : ℕ) (bs : Bytes) → test b ≡ true → Within (b ∷ bs) (prefix_len test (b ∷ bs))
run_within test b bs e = record { some = leading_some test b bs e; within = prefix_len-le-length test (b ∷ bs) }

comment_within : (o : Option ℕ) (text : Bytes) → 2 ≤ length text → IfSome o (λ n. n ≤ length (drop 2 text)) → Within text (comment_or_rest o (length text)).len
comment_within None text l h = record { some = omega arith; within = omega arith }
comment_within (Some n) text l h = record { some = omega arith; within = omega (arith, length-drop 2 text) }

sign_within : (n : ℕ) (text : Bytes) → 1 ≤ length text → n ≤ length text → Within text (sign_or_byte n).len
sign_within zero text l h = record { some = omega arith; within = l }
sign_within (suc n) text l h = record { some = omega arith; within = h }

pub front_within : (b : ℕ) (bs : Bytes) → Within (b ∷ bs) (front_of b bs).len
front_within b bs =
    let text = b ∷ bs in
    let P : Front → Type 0 = λ f. Within text f.len in
    cond_both (begins_name b) _ _ P (λ e. run_within is_in_name b bs (or_left _ _ e))
    (λ _. cond_both (is_digit b) _ _ P (λ e. run_within is_digit b bs e)
    (λ _. cond_both (is_blank b) _ _ P (λ e. run_within is_blank b bs e)
    (λ _. cond_both (starts_with (codes "(*") text) _ _ P
    (λ e. comment_within (closing (drop 2 text)) text (starts_within (codes "(*") text e) (closing_within (drop 2 text)))
    (λ _. sign_within (longest_in signs text) text (omega arith) (longest_within signs text)))))
