-- The tokens of a text obey the law of scanning.
use Rattle.std.proofs.Common.{◌≡◌, ℕ, zero, suc, ◌+◌, ◌<◌, ◌≤◌, List, [], ◌∷◌, ◌++◌, length, take, drop, pos, sym, refl, ap, ◌∙◌, subst, subst₂, arith, take-append-drop}
use Rattle.std.proofs.lemmas.List.{length-drop, drop-drop}
use Rattle.std.specs.List.{flat_map, AllByRecursion}
use Rattle.input.specs.declared.token.Token.{Token}
use Rattle.input.specs.Bytes.{Bytes}
use Rattle.input.specs.Lexemes.{front_of, type_of}
use Rattle.input.specs.Scanned.{token_of, scanned_within, scanned}
use Rattle.input.specs.Law.{Reads, bytes_at, behind, ByRule, Placed, Counted, Scans}
use Rattle.input.proofs.Front.{front_within}
use Rattle.input.proofs.Rules.{front_reads}

-- the law of the tokens from an index and an offset on
pub record ScansFrom (text : Bytes) (index offset : ℕ) (ts : List Token) : Type 0 where
  pub whole : flat_map (bytes_at text) ts ≡ drop offset text
  pub some : AllByRecursion (λ t. 0 < t.len) ts
  pub within : AllByRecursion (λ t. t.offset + t.len ≤ length text) ts
  pub placed : Placed offset ts
  pub counted : Counted index ts
  pub by_rule : AllByRecursion (ByRule text) ts

none : (text : Bytes) (index offset : ℕ) → drop offset text ≡ [] → ScansFrom text index offset []
none text index offset e = record { whole = sym e; some = tt; within = tt; placed = tt; counted = tt; by_rule = tt }

scans_within : (more index offset : ℕ) (text rest : Bytes) → drop offset text ≡ rest → offset + length rest ≡ length text → length rest ≤ more
    → ScansFrom text index offset (scanned_within more index offset rest)
scans_within zero index offset text [] e l m = none text index offset e
scans_within zero index offset text (b ∷ bs) e l m = absurd (omega arith)
scans_within (suc more) index offset text [] e l m = none text index offset e
scans_within (suc more) index offset text (b ∷ bs) e l m =
    let front = front_of b bs in
    let n = front.len in
    let w = front_within b bs in
    let left = length-drop n (b ∷ bs) in
    let t = token_of front.kind (take n (b ∷ bs)) index offset n in
    let here : bytes_at text t ≡ take n (b ∷ bs) = ap (take n) e in
    let there : behind text t ≡ drop n (b ∷ bs) = sym (drop-drop n offset text) ∙ ap (drop n) e in
    let ih = scans_within more (suc index) (offset + n) text (drop n (b ∷ bs)) there (omega (arith, w.within)) (omega (arith, w.some)) in
    record {
      whole =
          ap (λ (xs : Bytes). xs ++ flat_map (bytes_at text) (scanned_within more (suc index) (offset + n) (drop n (b ∷ bs)))) here
          ∙ ap (λ (xs : Bytes). take n (b ∷ bs) ++ xs) (ih.whole ∙ there) ∙ take-append-drop n (b ∷ bs) ∙ sym e;
      some = (omega (arith, w.some), ih.some);
      within = (omega (arith, w.within), ih.within);
      placed = (refl, ih.placed);
      counted = (refl, ih.counted);
      by_rule = (
        record {
          kind = front.kind;
          reads = subst₂ (Reads front.kind) (sym here) (sym there) (front_reads b bs);
          typed = ap (λ (part : Bytes). pos (type_of front.kind part)) (sym here);
          on_channel = refl;
        },
        ih.by_rule,
      );
    }

pub scans : (text : Bytes) (ts : List Token) → ts ≡ scanned text → Scans text ts
scans text ts is =
    let s = scans_within (length text) 0 0 text text refl (omega arith) (omega arith) in
    subst (Scans text) (sym is) (record { whole = s.whole; some = s.some; within = s.within; placed = s.placed; counted = s.counted; by_rule = s.by_rule })
