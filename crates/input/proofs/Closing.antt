-- The first `*)` of a text.
use Rattle.std.proofs.Common.{◌≡◌, ℕ, zero, suc, add-one, MatchOption, option_map, ◌+◌, ◌<◌, ◌≤◌, Bool, true, false, cond, ◌&&◌, eqb, [], ◌∷◌, length, get_or, drop, Some, None, Option, sym, refl, ap, ◌∙◌, arith}
use Rattle.std.proofs.lemmas.List.{drop_more, length-drop}
use Rattle.input.specs.Bytes.{Bytes}
use Rattle.input.specs.Lexemes.{one_more, closing}

-- a place that is counted from n on
abbrev pub further : ℕ → Option ℕ → Option ℕ
further n None = None
further n (Some m) = Some (n + m)

pub further_none : (o : Option ℕ) → o ≡ further 0 o
further_none None = refl
further_none (Some m) = ap Some (omega arith)

further_more : (n : ℕ) (o : Option ℕ) → further n (one_more o) ≡ further (n + 1) o
further_more n None = refl
further_more n (Some m) = ap Some (omega arith)

-- whether `*)` stands at n
abbrev pub closes_at : Bytes → ℕ → Bool
closes_at text n = eqb 42 (get_or text n 0) && (eqb 41 (get_or text (n + 1) 0) && true)

module _ (text : Bytes) (n : ℕ) (within : n + 1 < length text) where
  two : drop n text ≡ get_or text n 0 ∷ (get_or text (n + 1) 0 ∷ drop (n + 1 + 1) text)
  two = drop_more text n 0 (omega arith) ∙ ap (λ (bs : Bytes). get_or text n 0 ∷ bs) (drop_more text (n + 1) 0 within)

  at_two : closing (drop n text) ≡ cond (closes_at text n) (Some 2) (one_more (closing (drop (n + 1) text)))
  at_two =
      ap closing two
      ∙ ap (λ (bs : Bytes). cond (closes_at text n) (Some 2) (one_more (closing bs))) (sym (drop_more text (n + 1) 0 within))

  pub closes : closes_at text n ≡ true → further n (closing (drop n text)) ≡ Some (n + 2)
  closes e = ap (further n) (at_two ∙ ap (λ (b : Bool). cond b (Some 2) (one_more (closing (drop (n + 1) text)))) e)

  pub goes_on : closes_at text n ≡ false → further n (closing (drop n text)) ≡ further (n + 1) (closing (drop (n + 1) text))
  goes_on e =
      ap (further n) (at_two ∙ ap (λ (b : Bool). cond b (Some 2) (one_more (closing (drop (n + 1) text)))) e)
      ∙ further_more n (closing (drop (n + 1) text))

closing_short : (bs : Bytes) → length bs ≤ 1 → closing bs ≡ None
closing_short [] l = refl
closing_short (b ∷ []) l = go (eqb 42 b)
  where
    go : (x : Bool) → cond {A = Option ℕ} (x && false) (Some 2) None ≡ None
    go true = refl
    go false = refl
closing_short (b ∷ a ∷ bs) l = absurd (omega arith)

pub never_closes : (text : Bytes) (n : ℕ) → length text ≤ n + 1 → further n (closing (drop n text)) ≡ None
never_closes text n l = ap (further n) (closing_short (drop n text) (omega (arith, length-drop n text)))

-- where no `*)` stands before n, the first one is that of the text from n on
first_from : (text : Bytes) (n : ℕ) → n < length text → ((k : ℕ) → k < n → closes_at text k ≡ false) → closing text ≡ further n (closing (drop n text))
first_from text zero l none = further_none (closing text)
first_from text (suc n) l none =
    first_from text n (omega arith) (λ k m. none k (omega arith)) ∙ goes_on text n (omega arith) (none n (omega arith))
    ∙ ap (λ (m : ℕ). further m (closing (drop m text))) (add-one n)

-- the first place where `*)` stands, found from the front on
pub first_is : (text : Bytes) (r : Option ℕ)
    → MatchOption r ((k : ℕ) → k + 1 < length text → closes_at text k ≡ false)
    (λ i. (i + 1 < length text) × (closes_at text i ≡ true) × ((k : ℕ) → k < i → closes_at text k ≡ false))
    → option_map (λ n. n + 2) r ≡ closing text
first_is text (Some i) h = sym (first_from text i (omega (arith, h.0)) h.2 ∙ closes text i h.0 h.1)
first_is [] None h = refl
first_is (b ∷ bs) None h =
    sym (first_from (b ∷ bs) (length bs) (omega arith) (λ k l. h k (omega arith)) ∙ never_closes (b ∷ bs) (length bs) (omega arith))
