-- Lemmas over the places lent, xs, and the count, n: the contents are `reverse (take n xs)`.
use Rattle.std.proofs.Common.{◌≡◌, ℕ, suc, ◌+◌, ◌-◌, ◌<◌, min, List, [], ◌∷◌, ◌++◌, reverse, length, take, drop, set, Some, None, Option, sym, refl, ap, ◌∙◌, arith, Bor}
use Rattle.std.proofs.lemmas.List.{get_or-reverse, length-reverse, length-take, reverse-append, reverse-reverse, set_at, take-append-drop, take_at, take_more_set, take-take}
use Rattle.std.proofs.lemmas.Option.{slice_get-get_or, slice_get_past}
use Rattle.std.specs.List.{slice_get}
use Rattle.std.specs.Option.{option_map}
use Rattle.std.specs.Slice.{IsGetResult}
use lib.Seq.{take-set-lt}
use mathlib.Core.List.{reverse-cons, tail}
use native.Mathlib.Nat.{sub-zero}

-- a list with a first element is not empty
pub some_first : {X : Type 0} (xs : List X) (x : X) → Some x ≡ slice_get xs 0 → 0 < length xs
some_first [] x e = let z : ◌≡◌ {A = ℕ} 0 1 = cc in absurd (omega arith)
some_first (y ∷ ys) x e = omega arith

module _ {X : Type 0} (xs : List X) where
  -- what a slice's `get` and `last` lend, as a value
  pub item_at : (i : ℕ) (r : Option (Bor X)) → IsGetResult xs i i r → option_map (λ x. x.now) r ≡ slice_get xs i
  item_at i None h = sym (slice_get_past xs i h.3)
  item_at i (Some x) h = ap Some h.1 ∙ sym (slice_get-get_or xs i x.now h.3.0)

  pub item_last : (r : Option (Bor X)) → IsGetResult xs 0 (length xs - 1) r → option_map (λ x. x.now) r ≡ slice_get (reverse xs) 0
  item_last None h = sym (slice_get_past (reverse xs) 0 (simp length-reverse h.3))
  item_last (Some x) h =
      let some : 0 < length (reverse xs) = simp length-reverse h.3.0 in
      let mirrored = get_or-reverse xs 0 x.now h.3.0 in
      ap Some h.1 ∙ sym (slice_get-get_or (reverse xs) 0 x.now some ∙ ap Some (simp sub-zero at mirrored))

  pub length-contents : (n : ℕ) → length (reverse (take n xs)) ≡ min n (length xs)
  length-contents n = length-reverse (take n xs) ∙ length-take n xs

  -- the elements stand in the first places, in the order in which they were pushed
  pub contents_places : (n : ℕ) → take (length (reverse (take n xs))) xs ≡ reverse (reverse (take n xs))
  contents_places n =
      ap (λ (k : ℕ). take k xs) (length-reverse (take n xs)) ∙ ap (take (length (take n xs))) (sym (take-append-drop n xs))
      ∙ take_at (take n xs) (drop n xs) (length (take n xs)) refl
      ∙ sym (reverse-reverse (take n xs))

  pub contents-push : (n : ℕ) (x : X) → n < length xs → reverse (take (n + 1) (set xs n x)) ≡ x ∷ reverse (take n xs)
  contents-push n x l = ap reverse (take_more_set xs n x l) ∙ reverse-append (take n xs) (x ∷ [])

  -- where the contents are y and then ys: the places taken, and that y's is one of them
  last_stands : (n : ℕ) (y : X) (ys : List X) → reverse (take n xs) ≡ y ∷ ys → take n xs ≡ reverse ys ++ y ∷ []
  last_stands n y ys e = sym (reverse-reverse (take n xs)) ∙ ap reverse e ∙ reverse-cons y ys

  last_within : (n : ℕ) (y : X) (ys : List X) → reverse (take n xs) ≡ y ∷ ys → length ys < n
  last_within n y ys e = let l : suc (length ys) ≡ min n (length xs) = sym (ap length e) ∙ length-contents n in omega arith

  pub contents-pop : (n : ℕ) (ys : List X) → reverse (take n xs) ≡ ys → reverse (take (length ys - 1) xs) ≡ tail ys
  contents-pop n [] e = refl
  contents-pop n (y ∷ ys) e =
      let within = last_within n y ys e in
      let one_less : suc (length ys) - 1 ≡ length ys = omega arith in
      ap (λ (k : ℕ). reverse (take k xs)) one_less
      ∙ ap reverse (sym (take-take (length ys) n xs (omega arith)) ∙ ap (take (length ys)) (last_stands n y ys e) ∙ take_at (reverse ys) (y ∷ []) (length ys) (length-reverse ys))
      ∙ reverse-reverse ys

  pub contents-set : (n : ℕ) (x : X) (ys : List X) → reverse (take n xs) ≡ ys → 0 < length ys → reverse (take n (set xs (length ys - 1) x)) ≡ set ys 0 x
  contents-set n x [] e l = absurd (omega arith)
  contents-set n x (y ∷ ys) e l =
      let one_less : suc (length ys) - 1 ≡ length ys = omega arith in
      ap (λ (k : ℕ). reverse (take n (set xs k x))) one_less
      ∙ ap reverse (take-set-lt n xs (length ys) x (last_within n y ys e) ∙ ap (λ (zs : List X). set zs (length ys) x) (last_stands n y ys e) ∙ set_at (reverse ys) y [] x (length ys) (length-reverse ys))
      ∙ reverse-append (reverse ys) (x ∷ [])
      ∙ ap (λ (zs : List X). x ∷ zs) (reverse-reverse ys)
