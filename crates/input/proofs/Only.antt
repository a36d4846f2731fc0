-- A text has no other tokens that obey the law.
use Rattle.std.proofs.Common.{◌≡◌, ℕ, zero, suc, ◌+◌, ◌<◌, ◌≤◌, Bool, true, false, cond, not, ◌&&◌, List, [], ◌∷◌, ◌++◌, length, take, drop, pos, Some, None, codes, Option, sym, refl, ap, ◌∙◌, subst, subst₂, inl, inr, append_assoc, append-nil, le_antisymm, add-one, one-add, arith, lit<, take-append-drop}
use Rattle.std.proofs.lemmas.List.{append_cancel_left, take_at, length-append, length-take-le, length-drop, drop-drop}
use Rattle.std.proofs.lemmas.Bool.{cond-true, cond-false, and_parts, not-true}
use Rattle.std.proofs.lemmas.Bool.Decides.{nat_tests}
use Rattle.std.specs.List.{flat_map, prefix_len}
use Rattle.input.specs.declared.token.Token.{Token}
use Rattle.std.proofs.lemmas.Slice.Eq.{bytes_eq-Decides}
use Rattle.std.specs.Str.{bytes_eq}
use Rattle.input.specs.Bytes.{Bytes, begins_name, is_in_name, is_digit, is_blank, starts_with}
use Rattle.input.specs.Lexemes.{Kind, Front, Part, name, number, sign, blank, comment, unknown, front_is, signs, type_in, longest_in, closing, comment_or_rest, sign_or_byte, front_of, cut, first_part, type_of, channel_of}
use Rattle.input.specs.Scanned.{token_of, scanned_from, scanned}
use Rattle.input.specs.Law.{Run, IsSign, NoLongerSign, FirstClosing, NoClosing, Reads, bytes_at, behind, Scans}
use Rattle.input.proofs.Front.{longest_within}
use Rattle.input.proofs.Lawful.{ScansFrom}
use Rattle.input.proofs.Scanning.{reads_one}
use Rattle.input.proofs.Rules.{starts, longest_is, longest_most, signs_typed, found_by, Closed, closed_at}

-- ── the classes of bytes are apart ──

digit_no_name : (b : ℕ) → is_digit b ≡ true → begins_name b ≡ false
digit_no_name b e = grind (arith, nat_tests)

blank_no_name : (b : ℕ) → is_blank b ≡ true → begins_name b ≡ false
blank_no_name b e = grind (arith, nat_tests)

blank_no_digit : (b : ℕ) → is_blank b ≡ true → is_digit b ≡ false
blank_no_digit b e = grind (arith, nat_tests)

-- ── runs ──

run_length : (test : ℕ → Bool) (part rest : Bytes) → Run test part rest → prefix_len test (part ++ rest) ≡ length part
run_length test [] [] r = refl
run_length test [] (b ∷ bs) r = ap (λ (t : Bool). cond t (1 + prefix_len test bs) 0) r.1
run_length test (b ∷ bs) rest r =
    ap (λ (t : Bool). cond t (1 + prefix_len test (bs ++ rest)) 0) r.0.0 ∙ one-add _ ∙ ap suc (run_length test bs rest (r.0.1, r.1))

-- ── signs ──

-- the first byte begins no name, no number and no blanks
bare : Bytes → Bool
bare [] = false
bare (b ∷ bs) = not (begins_name b) && (not (is_digit b) && not (is_blank b))

all_bare : List (Bytes × ℕ) → Bool
all_bare [] = true
all_bare ((s, k) ∷ more) = bare s && all_bare more

entry_bare : (list : List (Bytes × ℕ)) (part : Bytes) → all_bare list ≡ true → 0 < type_in list part 0 → bare part ≡ true
unfolding all_bare
entry_bare [] part a l = absurd (omega arith)
entry_bare ((s, k) ∷ more) part a l = go (bytes_eq s part) refl (entry_bare more part a'.1)
  where
    a' : (bare s ≡ true) × (all_bare more ≡ true)
    a' = and_parts (bare s) (all_bare more) a

    go : (b : Bool) → bytes_eq s part ≡ b → (0 < type_in more part 0 → bare part ≡ true) → bare part ≡ true
    go true e ih = ap bare (sym ((bytes_eq-Decides s part).0 e)) ∙ a'.0
    go false e ih = ih (subst (λ (x : Bool). 0 < cond x k (type_in more part 0)) e l)

sign_bare : (part : Bytes) → IsSign part → bare part ≡ true
unfolding all_bare bare
sign_bare part is = entry_bare signs part refl is

bare_parts : (b : ℕ) (bs : Bytes) → bare (b ∷ bs) ≡ true → (begins_name b ≡ false) × (is_digit b ≡ false) × (is_blank b ≡ false)
unfolding bare
bare_parts b bs e =
    let p = and_parts (not (begins_name b)) (not (is_digit b) && not (is_blank b)) e in
    let q = and_parts (not (is_digit b)) (not (is_blank b)) p.1 in
    (not-true _ p.0, not-true _ q.0, not-true _ q.1)

-- where no sign is longer than n, the longest one is not
at_most : (n : ℕ) (text : Bytes) → NoLongerSign n text → longest_in signs text ≤ n
at_most n text most = go (longest_in signs text) refl
  where
    go : (m : ℕ) → longest_in signs text ≡ m → m ≤ n
    go zero e = omega arith
    go (suc m) e =
        let is = subst (λ (k : ℕ). IsSign (take k text)) e (longest_is signs text signs_typed (subst (λ (k : ℕ). 0 < k) (sym e) (omega arith))) in
        let long = length-take-le (suc m) text (subst (λ (k : ℕ). k ≤ length text) e (longest_within signs text)) in
        subst (λ (k : ℕ). k ≤ n) long (most (take (suc m) text) (drop (suc m) text) is (take-append-drop (suc m) text))

-- where no comment begins, the text does not start with `(*`
no_opening : (text : Bytes) → ((inside : Bytes) → text ≡ codes "(*" ++ inside → ⊥) → starts_with (codes "(*") text ≡ false
no_opening text c = go (starts_with (codes "(*") text) refl
  where
    go : (t : Bool) → starts_with (codes "(*") text ≡ t → t ≡ false
    go true e = absurd (c (drop 2 text) (sym (starts (codes "(*") text e)))
    go false e = refl

-- ── comments ──

split_at : (text : Bytes) (n : ℕ) (c : Closed text n) → c.inside ++ (codes "*)" ++ drop n text) ≡ text
split_at text n c =
    sym (append_assoc c.inside (codes "*)") (drop n text)) ∙ ap (λ (xs : Bytes). xs ++ drop n text) (sym c.ends) ∙ take-append-drop n text

closing_is : (inside rest : Bytes) → FirstClosing (length inside) (inside ++ (codes "*)" ++ rest))
    → closing (inside ++ (codes "*)" ++ rest)) ≡ Some (length inside + 2)
closing_is inside rest first =
    let text = inside ++ (codes "*)" ++ rest) in
    let h = found_by inside rest in
    let c = closed_at text h.0 h.1 in
    let least = first c.inside (drop h.0 text) (split_at text h.0 c) in
    let same : h.0 ≡ length inside + 2 = omega (arith, c.long, h.2) in
    h.1 ∙ ap Some same

closing_none : (text : Bytes) → NoClosing text → closing text ≡ None
closing_none text never = go (closing text) refl
  where
    go : (o : Option ℕ) → closing text ≡ o → o ≡ None
    go None e = refl
    go (Some n) e = let c = closed_at text n e in absurd (never c.inside (drop n text) (split_at text n c))

-- ── the rule that the bytes obey is the one that finds them ──

abbrev is_part : Kind → Bytes → Part
is_part k bytes = record { kind = k; bytes = bytes }

cut_front : (k : Kind) (n : ℕ) (part rest : Bytes) → length part ≡ n → cut (front_is k n) (part ++ rest) ≡ is_part k part
cut_front k n part rest long = ap (is_part k) (take_at part rest n long)

by_front : (k : Kind) (b : ℕ) (bs rest : Bytes) → front_of b (bs ++ rest) ≡ front_is k (suc (length bs))
    → first_part (b ∷ (bs ++ rest)) ≡ Some (is_part k (b ∷ bs))
by_front k b bs rest e =
    ap (λ (f : Front). Some (cut f (b ∷ (bs ++ rest)))) e ∙ ap (λ (p : Part). Some p) (cut_front k (suc (length bs)) (b ∷ bs) rest refl)

sign_front : (b : ℕ) (bs rest : Bytes) → Reads sign (b ∷ bs) rest → front_of b (bs ++ rest) ≡ front_is sign (suc (length bs))
sign_front b bs rest r =
    let text = b ∷ (bs ++ rest) in
    let c = bare_parts b bs (sign_bare (b ∷ bs) r.0) in
    let long : longest_in signs text ≡ suc (length bs) =
    le_antisymm (at_most (suc (length bs)) text r.1) (longest_most signs (b ∷ bs) rest r.0) in
    cond-false _ _ _ c.0 ∙ cond-false _ _ _ c.1 ∙ cond-false _ _ _ c.2 ∙ cond-false _ _ _ (no_opening text r.2) ∙ ap sign_or_byte long

lone_opening : (b : ℕ) (rest : Bytes) → NoLongerSign 0 (b ∷ rest) → (inside : Bytes) → b ∷ rest ≡ codes "(*" ++ inside → ⊥
lone_opening b rest most inside e = let h = most (codes "(") (codes "*" ++ inside) (lit< tt) (sym e) in omega arith

lone_front : (b : ℕ) (rest : Bytes) → begins_name b ≡ false → is_digit b ≡ false → is_blank b ≡ false → NoLongerSign 0 (b ∷ rest)
    → front_of b rest ≡ front_is unknown 1
lone_front b rest p q r most =
    let text = b ∷ rest in
    let none : longest_in signs text ≡ 0 = le_antisymm (at_most 0 text most) (omega arith) in
    cond-false _ _ _ p ∙ cond-false _ _ _ q ∙ cond-false _ _ _ r ∙ cond-false _ _ _ (no_opening text (lone_opening b rest most)) ∙ ap sign_or_byte none

commented : (inside rest : Bytes) → FirstClosing (length inside) (inside ++ (codes "*)" ++ rest))
    → first_part (codes "(*" ++ (inside ++ codes "*)") ++ rest) ≡ Some (is_part comment (codes "(*" ++ (inside ++ codes "*)")))
commented inside rest first =
    let part = codes "(*" ++ (inside ++ codes "*)") in
    let more = (inside ++ codes "*)") ++ rest in
    let closes : closing more ≡ Some (length inside + 2) = ap closing (append_assoc inside (codes "*)") rest) ∙ closing_is inside rest first in
    let long : length part ≡ 2 + (length inside + 2) = omega (arith, length-append inside (codes "*)")) in
    ap (λ (o : Option ℕ). Some (cut (comment_or_rest o (suc (suc (length more)))) (part ++ rest))) closes
    ∙ ap (λ (p : Part). Some p) (cut_front comment (2 + (length inside + 2)) part rest long)

unclosed : (inside : Bytes) → NoClosing inside → first_part (codes "(*" ++ inside ++ []) ≡ Some (is_part unknown (codes "(*" ++ inside))
unclosed inside never =
    let part = codes "(*" ++ inside in
    let more = inside ++ [] in
    let closes : closing more ≡ None = ap closing (append-nil inside) ∙ closing_none inside never in
    let long : length part ≡ suc (suc (length more)) = ap (λ (xs : Bytes). suc (suc (length xs))) (sym (append-nil inside)) in
    ap (λ (o : Option ℕ). Some (cut (comment_or_rest o (suc (suc (length more)))) (part ++ []))) closes
    ∙ ap (λ (p : Part). Some p) (cut_front unknown (suc (suc (length more))) part [] long)

pub reads_first : (k : Kind) (part rest : Bytes) → 1 ≤ length part → Reads k part rest → first_part (part ++ rest) ≡ Some (is_part k part)
reads_first k [] rest l r = absurd (omega arith)
reads_first name (b ∷ bs) rest l r =
    by_front name b bs rest (cond-true _ _ _ r.0 ∙ ap (front_is name) (run_length is_in_name (b ∷ bs) rest r.1))
reads_first number (b ∷ bs) rest l r =
    let d = r.0.0 in
    by_front number b bs rest (cond-false _ _ _ (digit_no_name b d) ∙ cond-true _ _ _ d ∙ ap (front_is number) (run_length is_digit (b ∷ bs) rest r))
reads_first sign (b ∷ bs) rest l r = by_front sign b bs rest (sign_front b bs rest r)
reads_first blank (b ∷ bs) rest l r =
    let d = r.0.0 in
    by_front blank b bs rest
    (cond-false _ _ _ (blank_no_name b d) ∙ cond-false _ _ _ (blank_no_digit b d) ∙ cond-true _ _ _ d ∙ ap (front_is blank) (run_length is_blank (b ∷ bs) rest r))
reads_first comment (b ∷ bs) rest l r =
    subst (λ (part : Bytes). first_part (part ++ rest) ≡ Some (is_part comment part)) (sym r.opens) (commented r.inside rest r.first)
reads_first unknown (b ∷ bs) rest l (inl r) =
    subst (λ (more : Bytes). first_part (b ∷ bs ++ more) ≡ Some (is_part unknown (b ∷ bs))) (sym r.last)
    (subst (λ (part : Bytes). first_part (part ++ []) ≡ Some (is_part unknown part)) (sym r.opens) (unclosed r.inside r.unclosed))
reads_first unknown (b ∷ bs) rest l (inr r) =
    subst (λ (part : Bytes). first_part (part ++ rest) ≡ Some (is_part unknown part)) (sym r.one)
    (by_front unknown r.byte [] rest (lone_front r.byte rest r.no_name r.no_digit r.no_blank
    (subst (λ (part : Bytes). NoLongerSign 0 (part ++ rest)) r.one r.no_sign)))

-- ── the tokens ──

-- what a token is, once its kind, its place and its index are known
token_is : (t : Token) (kind : Kind) (part : Bytes) (index offset : ℕ)
    → t.ttype ≡ pos (type_of kind part) → t.channel ≡ channel_of kind → t.index ≡ pos index → t.offset ≡ offset → length part ≡ t.len
    → t ≡ token_of kind part index offset (length part)
token_is t kind part index offset p q r s l = λ i. record { ttype = p i; channel = q i; index = r i; offset = s i; len = sym l i }

only_from : (ts : List Token) (index offset : ℕ) (text rest : Bytes) → drop offset text ≡ rest → ScansFrom text index offset ts
    → ts ≡ scanned_from index offset rest
only_from [] index offset text rest e s = ap (scanned_from index offset) (s.whole ∙ e)
only_from (t ∷ ts) index offset text rest e s =
    let rule = s.by_rule.0 in
    let at = s.placed.0 in
    let here : bytes_at text t ≡ take t.len rest = ap (λ (o : ℕ). take t.len (drop o text)) at ∙ ap (take t.len) e in
    let there : behind text t ≡ drop t.len rest =
    ap (λ (o : ℕ). drop (o + t.len) text) at ∙ sym (drop-drop t.len offset text) ∙ ap (drop t.len) e in
    let fits : t.len ≤ length rest = omega (arith, s.within.0, at, ap length e, length-drop offset text) in
    let part = take t.len rest in
    let long : length part ≡ t.len = length-take-le t.len rest fits in
    let reads : Reads rule.kind part (drop t.len rest) = subst₂ (Reads rule.kind) here there rule.reads in
    let first : Some (is_part rule.kind part) ≡ first_part rest =
    sym (reads_first rule.kind part (drop t.len rest) (omega (arith, s.some.0)) reads) ∙ ap first_part (take-append-drop t.len rest) in
    let one = reads_one rest (is_part rule.kind part) index offset first in
    let head = token_is t rule.kind part index offset (rule.typed ∙ ap (λ (bs : Bytes). pos (type_of rule.kind bs)) here)
    rule.on_channel s.counted.0 at long in
    let next : drop (offset + t.len) text ≡ drop t.len rest = sym (drop-drop t.len offset text) ∙ ap (drop t.len) e in
    let joins : part ++ flat_map (bytes_at text) ts ≡ part ++ drop t.len rest =
    ap (λ (bs : Bytes). bs ++ flat_map (bytes_at text) ts) (sym here) ∙ s.whole ∙ e ∙ sym (take-append-drop t.len rest) in
    let ih = only_from ts (suc index) (offset + t.len) text (drop t.len rest) next (record {
      whole = append_cancel_left part (flat_map (bytes_at text) ts) (drop t.len rest) joins ∙ sym next;
      some = s.some.1;
      within = s.within.1;
      placed = s.placed.1;
      counted = s.counted.1;
      by_rule = s.by_rule.1;
    }) in
    let tail : ts ≡ scanned_from (index + 1) (offset + length part) (drop (length part) rest) =
    ih ∙ ap (λ (i : ℕ). scanned_from i (offset + t.len) (drop t.len rest)) (sym (add-one index))
    ∙ ap (λ (n : ℕ). scanned_from (index + 1) (offset + n) (drop n rest)) (sym long) in
    (λ i. head i ∷ tail i) ∙ sym one.tokens

pub only : (text : Bytes) (ts : List Token) → Scans text ts → ts ≡ scanned text
only text ts s =
    only_from ts 0 0 text text refl
    (record { whole = s.whole; some = s.some; within = s.within; placed = s.placed; counted = s.counted; by_rule = s.by_rule })
