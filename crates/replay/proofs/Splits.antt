-- The bytes up to the first mark and those behind it, found byte by byte.
use Rattle.std.proofs.Common.{◌≡◌, ℕ, ◌+◌, ◌<◌, ◌≤◌, ◌==◌, Bool, true, false, cond, suc, not, nat_lt, [], ◌∷◌, ◌++◌, length, get_or, take, drop, Some, None, Option, option_map, sym, refl, ap, ◌∙◌, arith}
use Rattle.std.proofs.lemmas.Grind.{common_steps}
use Rattle.std.proofs.lemmas.List.{append-nil, append_assoc, drop_more, take_more, take_all, drop_all}
use Rattle.std.specs.List.{position_or_len}
use Rattle.replay.specs.Bytes.{Bytes, up_to, behind}

-- one byte in front
pub up_to_step : (mark b : ℕ) (bs : Bytes) (t : Bool) → (b == mark) ≡ t → up_to mark (b ∷ bs) ≡ cond t [] (b ∷ up_to mark bs)
up_to_step mark b bs t e = ap (λ (x : Bool). take (cond (not x) (1 + position_or_len (λ c. c == mark) bs) 0) (b ∷ bs)) e ∙ go t
  where
    go : (x : Bool) → take (cond (not x) (1 + position_or_len (λ c. c == mark) bs) 0) (b ∷ bs) ≡ cond x [] (b ∷ up_to mark bs)
    go true = refl
    go false = let one : 1 + position_or_len (λ c. c == mark) bs ≡ suc (position_or_len (λ c. c == mark) bs) = omega arith in ap (λ (k : ℕ). take k (b ∷ bs)) one

-- what is behind place n, if there is such a place
abbrev behind_place : ℕ → Bytes → Option Bytes
behind_place n bytes = option_map (λ i. drop (i + 1) bytes) (cond (nat_lt n (length bytes)) (Some n) None)

place_one : (n b : ℕ) (bs : Bytes) → behind_place (1 + n) (b ∷ bs) ≡ behind_place n bs
place_one n b bs = grind (arith, common_steps)

pub behind_step : (mark b : ℕ) (bs : Bytes) (t : Bool) → (b == mark) ≡ t → behind mark (b ∷ bs) ≡ cond t (Some bs) (behind mark bs)
behind_step mark b bs t e = ap (λ (x : Bool). behind_place (cond (not x) (1 + position_or_len (λ c. c == mark) bs) 0) (b ∷ bs)) e ∙ go t
  where
    go : (x : Bool) → behind_place (cond (not x) (1 + position_or_len (λ c. c == mark) bs) 0) (b ∷ bs) ≡ cond x (Some bs) (behind mark bs)
    go true = grind (arith, common_steps)
    go false = place_one (position_or_len (λ c. c == mark) bs) b bs

-- the byte at i, which is the mark or is not
module _ (mark : ℕ) (bytes : Bytes) (i : ℕ) (within : i < length bytes) (test : Bool) (is : (get_or bytes i 0 == mark) ≡ test) where
  up_to_there : up_to mark (drop i bytes) ≡ cond test [] (get_or bytes i 0 ∷ up_to mark (drop (i + 1) bytes))
  up_to_there = ap (up_to mark) (drop_more bytes i 0 within) ∙ up_to_step mark (get_or bytes i 0) (drop (i + 1) bytes) test is

  pub behind_there : behind mark (drop i bytes) ≡ cond test (Some (drop (i + 1) bytes)) (behind mark (drop (i + 1) bytes))
  behind_there = ap (behind mark) (drop_more bytes i 0 within) ∙ behind_step mark (get_or bytes i 0) (drop (i + 1) bytes) test is

pub up_to_stops : (mark : ℕ) (bytes : Bytes) (i : ℕ) → i < length bytes → (get_or bytes i 0 == mark) ≡ true
    → take i bytes ++ up_to mark (drop i bytes) ≡ take i bytes
up_to_stops mark bytes i within is = ap (λ (bs : Bytes). take i bytes ++ bs) (up_to_there mark bytes i within true is) ∙ append-nil (take i bytes)

pub up_to_more : (mark : ℕ) (bytes : Bytes) (i : ℕ) → i < length bytes → (get_or bytes i 0 == mark) ≡ false
    → take i bytes ++ up_to mark (drop i bytes) ≡ take (i + 1) bytes ++ up_to mark (drop (i + 1) bytes)
up_to_more mark bytes i within is =
    let more = up_to mark (drop (i + 1) bytes) in
    ap (λ (bs : Bytes). take i bytes ++ bs) (up_to_there mark bytes i within false is)
    ∙ sym (append_assoc (take i bytes) (get_or bytes i 0 ∷ []) more)
    ∙ ap (λ (bs : Bytes). bs ++ more) (sym (take_more bytes i 0 within))

pub up_to_all : (mark : ℕ) (bytes : Bytes) (i : ℕ) → length bytes ≤ i → take i bytes ++ up_to mark (drop i bytes) ≡ bytes
up_to_all mark bytes i past =
    ap (λ (bs : Bytes). take i bytes ++ up_to mark bs) (drop_all i bytes past) ∙ append-nil (take i bytes) ∙ take_all i bytes past

pub behind_all : (mark : ℕ) (bytes : Bytes) (i : ℕ) → length bytes ≤ i → behind mark (drop i bytes) ≡ None
behind_all mark bytes i past = ap (behind mark) (drop_all i bytes past)
