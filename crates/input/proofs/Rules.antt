-- What stands at the front of a text obeys its rule.
use Rattle.std.proofs.Common.{◌≡◌, ℕ, zero, suc, ◌+◌, ◌<◌, ◌≤◌, max, Bool, true, false, cond, ◌&&◌, eqb, ltb, List, [], ◌∷◌, ◌++◌, length, take, drop, Some, None, codes, Option, sym, refl, ap, ◌∙◌, subst, inl, inr, ⊎_elim, append_assoc, one-add, arith, take-append-drop}
use Rattle.std.proofs.lemmas.List.{take_all, take_at, drop_all, length-take-le}
use Rattle.std.proofs.lemmas.Bool.{cond_both, and_parts, and_from, eqb-true, eq-eqb, false≢true, both_ways, cases_lt, ltb-true, or_left}
use Rattle.std.specs.List.{prefix_len, AllByRecursion}
use Rattle.std.proofs.lemmas.Slice.Eq.{bytes_eq-Decides}
use Rattle.std.specs.Str.{bytes_eq}
use Rattle.input.specs.Bytes.{Bytes, begins_name, is_in_name, is_digit, is_blank, starts_with}
use Rattle.input.specs.Lexemes.{Front, sign, signs, type_in, longest_in, one_more, closing, comment_or_rest, sign_or_byte, front_of}
use Rattle.input.proofs.Front.{longest_within, leading_some}
use Rattle.input.specs.Law.{Begins, Run, IsSign, FirstClosing, NoClosing, Reads}

-- ── runs ──

run : (test : ℕ → Bool) (text : Bytes) → Run test (take (prefix_len test text) text) (drop (prefix_len test text) text)
run test [] = (tt, tt)
run test (b ∷ bs) = go (test b) refl (run test bs)
  where
    go : (t : Bool) → test b ≡ t → Run test (take (prefix_len test bs) bs) (drop (prefix_len test bs) bs)
        → Run test (take (cond t (1 + prefix_len test bs) 0) (b ∷ bs)) (drop (cond t (1 + prefix_len test bs) 0) (b ∷ bs))
    go true e r =
        subst (λ (n : ℕ). Run test (take n (b ∷ bs)) (drop n (b ∷ bs))) (sym (one-add (prefix_len test bs))) ((e, r.0), r.1)
    go false e r = (tt, e)

begun : (test : ℕ → Bool) (b n : ℕ) (bs : Bytes) → test b ≡ true → 1 ≤ n → Begins test (take n (b ∷ bs))
begun test b zero bs e l = absurd (omega arith)
begun test b (suc n) bs e l = e

-- ── what a text begins with ──

pub starts : (ws text : Bytes) → starts_with ws text ≡ true → ws ++ drop (length ws) text ≡ text
starts [] text e = refl
starts (w ∷ ws) [] e = absurd (false≢true e)
starts (w ∷ ws) (b ∷ bs) e =
    let p = and_parts (eqb w b) (starts_with ws bs) e in
    let same = eqb-true w b p.0 in
    let more = starts ws bs p.1 in
    ap (λ (x : ℕ). x ∷ (ws ++ drop (length ws) bs)) same ∙ ap (λ (xs : Bytes). b ∷ xs) more

pub starts_front : (ws rest : Bytes) → starts_with ws (ws ++ rest) ≡ true
starts_front [] rest = refl
starts_front (w ∷ ws) rest = and_from _ _ (eq-eqb w w refl) (starts_front ws rest)

-- ── signs ──

-- the types of a list are above 0
abbrev pub Typed : List (Bytes × ℕ) → Type 0
Typed list = AllByRecursion (λ (e : Bytes × ℕ). 0 < e.1) list

take_starts : (ws text : Bytes) → starts_with ws text ≡ true → take (length ws) text ≡ ws
take_starts ws text e = ap (take (length ws)) (sym (starts ws text e)) ∙ take_at ws (drop (length ws) text) (length ws) refl

-- the longest sign is one of the list
pub longest_is : (list : List (Bytes × ℕ)) (text : Bytes) → Typed list → 0 < longest_in list text
    → 0 < type_in list (take (longest_in list text) text) 0
longest_is [] text t l = absurd (omega arith)
longest_is ((s, k) ∷ more) text t l =
    cond_both (bytes_eq s (take m text)) k (type_in more (take m text) 0) (λ x. 0 < x) (λ e. t.0)
    (λ e. other (starts_with s text) refl e (λ h. longest_is more text t.1 h))
  where
    m : ℕ
    m = longest_in ((s, k) ∷ more) text

    by_more : cond (starts_with s text) (length s) 0 ≤ longest_in more text
        → (0 < longest_in more text → 0 < type_in more (take (longest_in more text) text) 0) → 0 < type_in more (take m text) 0
    by_more h ih =
        let same : longest_in more text ≡ m = omega arith in
        subst (λ (n : ℕ). 0 < type_in more (take n text) 0) same (ih (omega arith))

    other : (b : Bool) → starts_with s text ≡ b → bytes_eq s (take m text) ≡ false
        → (0 < longest_in more text → 0 < type_in more (take (longest_in more text) text) 0) → 0 < type_in more (take m text) 0
    other true st e ih =
        let long : cond (starts_with s text) (length s) 0 ≡ length s = ap (λ (x : Bool). cond x (length s) 0) st in
        ⊎_elim
        (λ h. let same : m ≡ length s = omega arith in
        absurd (both_ways _ e (ap (λ (n : ℕ). bytes_eq s (take n text)) same ∙ ap (bytes_eq s) (take_starts s text st) ∙ (bytes_eq-Decides s s).1 refl)))
        (λ h. by_more h ih) (cases_lt (longest_in more text) (cond (starts_with s text) (length s) 0))
    other false st e ih =
        let none : cond (starts_with s text) (length s) 0 ≡ 0 = ap (λ (x : Bool). cond x (length s) 0) st in
        by_more (omega arith) ih

-- no entry that the text begins with is longer
pub longest_most : (list : List (Bytes × ℕ)) (part rest : Bytes) → 0 < type_in list part 0 → length part ≤ longest_in list (part ++ rest)
longest_most [] part rest l = absurd (omega arith)
longest_most ((s, k) ∷ more) part rest l = go (bytes_eq s part) refl (longest_most more part rest)
  where
    text : Bytes
    text = part ++ rest

    go : (b : Bool) → bytes_eq s part ≡ b → (0 < type_in more part 0 → length part ≤ longest_in more text)
        → length part ≤ max (cond (starts_with s text) (length s) 0) (longest_in more text)
    go true e ih =
        let same = (bytes_eq-Decides s part).0 e in
        let st : starts_with s text ≡ true = ap (λ (ws : Bytes). starts_with ws text) same ∙ starts_front part rest in
        let long : cond (starts_with s text) (length s) 0 ≡ length s = ap (λ (x : Bool). cond x (length s) 0) st in
        omega (arith, ap length same)
    go false e ih =
        let h = ih (subst (λ (x : Bool). 0 < cond x k (type_in more part 0)) e l) in
        omega arith

-- the list of signs, by a test that computes
all_typed : List (Bytes × ℕ) → Bool
all_typed [] = true
all_typed ((s, k) ∷ more) = ltb 0 k && all_typed more

typed : (list : List (Bytes × ℕ)) → all_typed list ≡ true → Typed list
unfolding all_typed
typed [] e = tt
typed ((s, k) ∷ more) e = let p = and_parts (ltb 0 k) (all_typed more) e in (ltb-true 0 k p.0, typed more p.1)

pub signs_typed : Typed signs
unfolding all_typed
signs_typed = typed signs refl

pub sign_reads : (n : ℕ) (text : Bytes) → longest_in signs text ≡ suc n → ((inside : Bytes) → text ≡ codes "(*" ++ inside → ⊥)
    → Reads sign (take (suc n) text) (drop (suc n) text)
sign_reads n text e c =
    let whole = take-append-drop (suc n) text in
    let long = length-take-le (suc n) text (subst (λ (m : ℕ). m ≤ length text) e (longest_within signs text)) in (
      subst (λ (m : ℕ). IsSign (take m text)) e (longest_is signs text signs_typed (subst (λ (m : ℕ). 0 < m) (sym e) (omega arith))),
      λ part rest is same.
          subst (λ (m : ℕ). length part ≤ m) (ap (longest_in signs) (same ∙ whole) ∙ e ∙ sym long) (longest_most signs part rest is),
      λ inside same. c inside (sym whole ∙ same),
    )

-- ── comments ──

-- where a `*)` stands, the first one is found there or before
pub found_by : (front rest : Bytes) → (n : ℕ) × (closing (front ++ (codes "*)" ++ rest)) ≡ Some n) × (n ≤ length front + 2)
found_by [] rest = (2, refl, omega arith)
found_by (f ∷ fs) rest = go (starts_with (codes "*)") (f ∷ more)) (found_by fs rest)
  where
    more : Bytes
    more = fs ++ (codes "*)" ++ rest)

    go : (t : Bool) → ((n : ℕ) × (closing more ≡ Some n) × (n ≤ length fs + 2))
        → (n : ℕ) × (cond t (Some 2) (one_more (closing more)) ≡ Some n) × (n ≤ suc (length fs) + 2)
    go true h = (2, refl, omega arith)
    go false h = (suc h.0, ap one_more h.1, omega (arith, h.2))

-- where the first `*)` ends, and what stands before it
pub record Closed (text : Bytes) (n : ℕ) : Type 0 where
  pub inside : Bytes
  pub ends : take n text ≡ inside ++ codes "*)"
  pub long : length inside + 2 ≡ n

pub closed_at : (text : Bytes) (n : ℕ) → closing text ≡ Some n → Closed text n
closed_at [] n e = let z : ◌≡◌ {A = ℕ} 0 1 = cc in absurd (omega arith)
closed_at (b ∷ bs) n e = go (starts_with (codes "*)") (b ∷ bs)) refl (closing bs) refl e (closed_at bs)
  where
    go : (t : Bool) → starts_with (codes "*)") (b ∷ bs) ≡ t → (o : Option ℕ) → closing bs ≡ o
        → cond t (Some 2) (one_more o) ≡ Some n → ((m : ℕ) → closing bs ≡ Some m → Closed bs m) → Closed (b ∷ bs) n
    go true st o c f ih =
        let two : 2 ≡ n = cc in
        record { inside = []; ends = ap (λ (k : ℕ). take k (b ∷ bs)) (sym two) ∙ take_starts (codes "*)") (b ∷ bs) st; long = two }
    go false st None c f ih = let z : ◌≡◌ {A = ℕ} 0 1 = cc in absurd (omega arith)
    go false st (Some m) c f ih =
        let next : suc m ≡ n = cc in
        let h = ih m c in
        record {
          inside = b ∷ h.inside;
          ends = ap (λ (k : ℕ). take k (b ∷ bs)) (sym next) ∙ ap (λ (xs : Bytes). b ∷ xs) h.ends;
          long = omega (arith, h.long);
        }

pub never : (text : Bytes) → closing text ≡ None → NoClosing text
never text e front rest same =
    let h = found_by front rest in
    let found = h.1 in
    let there = ap closing same in
    let z : ◌≡◌ {A = ℕ} 0 1 = cc in
    absurd (omega arith)

pub first_closing : (text : Bytes) (n m : ℕ) → closing text ≡ Some n → m + 2 ≡ n → FirstClosing m text
first_closing text n m e long front rest same =
    let h = found_by front rest in
    let found = h.1 in
    let there = ap closing same in
    let one : h.0 ≡ n = cc in
    omega (arith, h.2)

comment_reads : (o : Option ℕ) (text : Bytes) → starts_with (codes "(*") text ≡ true → closing (drop 2 text) ≡ o
    → Reads (comment_or_rest o (length text)).kind (take (comment_or_rest o (length text)).len text) (drop (comment_or_rest o (length text)).len text)
comment_reads None text st e =
    inl (record {
      inside = drop 2 text;
      opens = take_all (length text) text (omega arith) ∙ sym (starts (codes "(*") text st);
      unclosed = never (drop 2 text) e;
      last = drop_all (length text) text (omega arith);
    })
comment_reads (Some n) text st e =
    let more = drop 2 text in
    let c = closed_at more n e in
    let opens = starts (codes "(*") text st in
    let two : 2 + n ≡ suc (suc n) = omega arith in
    let front : take (2 + n) text ≡ codes "(*" ++ take n more = ap (take (2 + n)) (sym opens) ∙ ap (λ (k : ℕ). take k (codes "(*" ++ more)) two in
    let back : drop (2 + n) text ≡ drop n more = ap (drop (2 + n)) (sym opens) ∙ ap (λ (k : ℕ). drop k (codes "(*" ++ more)) two in
    let whole : more ≡ c.inside ++ (codes "*)" ++ drop (2 + n) text) =
    sym (take-append-drop n more) ∙ ap (λ (xs : Bytes). xs ++ drop n more) c.ends ∙ append_assoc c.inside (codes "*)") (drop n more)
    ∙ ap (λ (xs : Bytes). c.inside ++ (codes "*)" ++ xs)) (sym back) in
    record {
      inside = c.inside;
      opens = front ∙ ap (λ (xs : Bytes). codes "(*" ++ xs) c.ends;
      first = subst (FirstClosing (length c.inside)) whole (first_closing more n (length c.inside) e c.long);
    }

byte_reads : (n : ℕ) (b : ℕ) (bs : Bytes) → longest_in signs (b ∷ bs) ≡ n
    → begins_name b ≡ false → is_digit b ≡ false → is_blank b ≡ false → ((inside : Bytes) → b ∷ bs ≡ codes "(*" ++ inside → ⊥)
    → Reads (sign_or_byte n).kind (take (sign_or_byte n).len (b ∷ bs)) (drop (sign_or_byte n).len (b ∷ bs))
byte_reads zero b bs e p q r c =
    inr (record {
      byte = b;
      one = refl;
      no_name = p;
      no_digit = q;
      no_blank = r;
      no_sign = λ part rest is same. subst (λ (m : ℕ). length part ≤ m) (ap (longest_in signs) same ∙ e) (longest_most signs part rest is);
    })
byte_reads (suc n) b bs e p q r c = sign_reads n (b ∷ bs) e c

no_comment : (text : Bytes) → starts_with (codes "(*") text ≡ false → (inside : Bytes) → text ≡ codes "(*" ++ inside → ⊥
no_comment text e inside same =
    both_ways _ e (ap (starts_with (codes "(*")) same ∙ starts_front (codes "(*") inside)

-- whatever stands at the front obeys its rule
pub front_reads : (b : ℕ) (bs : Bytes)
    → Reads (front_of b bs).kind (take (front_of b bs).len (b ∷ bs)) (drop (front_of b bs).len (b ∷ bs))
front_reads b bs =
    let text = b ∷ bs in
    let P : Front → Type 0 = λ f. Reads f.kind (take f.len text) (drop f.len text) in
    cond_both (begins_name b) _ _ P (λ e. (begun begins_name b _ bs e (leading_some is_in_name b bs (or_left _ _ e)), run is_in_name text))
    (λ p. cond_both (is_digit b) _ _ P (λ e. run is_digit text)
    (λ q. cond_both (is_blank b) _ _ P (λ e. run is_blank text)
    (λ r. cond_both (starts_with (codes "(*") text) _ _ P
    (λ e. comment_reads (closing (drop 2 text)) text e refl)
    (λ c. byte_reads (longest_in signs text) b bs refl p q r (no_comment text c)))))
