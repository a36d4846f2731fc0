-- The tokens of a text, one by one.
use Rattle.std.proofs.Common.{◌≡◌, ℕ, zero, suc, ◌+◌, ◌≤◌, List, [], ◌∷◌, length, take, drop, Some, None, sym, refl, ap, ◌∙◌, subst, add-one, arith}
use Rattle.std.proofs.lemmas.List.{length-drop, length-take-le}
use Rattle.input.specs.declared.token.Token.{Token}
use Rattle.input.specs.Bytes.{Bytes}
use Rattle.input.specs.Streams.{first_of, rest_of}
use Rattle.input.specs.Lexemes.{Part, front_of, cut, first_part}
use Rattle.input.specs.Scanned.{token_of, scanned_within, scanned_from, end_at}
use Rattle.input.proofs.Front.{front_within}

abbrev pub end_from : ℕ → ℕ → Bytes → Token
end_from index offset text = end_at (index + length (scanned_from index offset text)) (offset + length text)

-- any number that is enough gives the same tokens
enough : (m n index offset : ℕ) (text : Bytes) → length text ≤ m → length text ≤ n → scanned_within m index offset text ≡ scanned_within n index offset text
enough zero zero index offset text l k = refl
enough zero (suc n) index offset [] l k = refl
enough zero (suc n) index offset (b ∷ bs) l k = absurd (omega arith)
enough (suc m) zero index offset [] l k = refl
enough (suc m) zero index offset (b ∷ bs) l k = absurd (omega arith)
enough (suc m) (suc n) index offset [] l k = refl
enough (suc m) (suc n) index offset (b ∷ bs) l k =
    let front = front_of b bs in
    let w = front_within b bs in
    ap (λ (ts : List Token). token_of front.kind (take front.len (b ∷ bs)) index offset front.len ∷ ts)
    (enough m n (suc index) (offset + front.len) (drop front.len (b ∷ bs))
    (omega (arith, length-drop front.len (b ∷ bs))) (omega (arith, length-drop front.len (b ∷ bs))))

-- the first token of a text, and what is left of the text behind it
pub record ReadsOne (text : Bytes) (p : Part) (index offset : ℕ) : Type 0 where
  pub some : 1 ≤ length p.bytes
  pub within : length p.bytes ≤ length text
  pub tokens : scanned_from index offset text
      ≡ token_of p.kind p.bytes index offset (length p.bytes)
      ∷ scanned_from (index + 1) (offset + length p.bytes) (drop (length p.bytes) text)

pub reads_one : (text : Bytes) (p : Part) (index offset : ℕ) → Some p ≡ first_part text → ReadsOne text p index offset
reads_one [] p index offset e = let z : ◌≡◌ {A = ℕ} 0 1 = cc in absurd (omega arith)
reads_one (b ∷ bs) p index offset e =
    let front = front_of b bs in
    let text = b ∷ bs in
    let rest = drop front.len text in
    let w = front_within b bs in
    let is : p ≡ cut front text = cc in
    let long : length (take front.len text) ≡ front.len = length-take-le front.len text w.within in
    subst (λ (q : Part). ReadsOne text q index offset) (sym is) (record {
      some = omega (arith, long);
      within = omega (arith, long);
      tokens = subst (λ (m : ℕ). scanned_from index offset text
          ≡ token_of front.kind (take front.len text) index offset m ∷ scanned_from (index + 1) (offset + m) (drop m text)) (sym long)
          (ap (λ (ts : List Token). token_of front.kind (take front.len text) index offset front.len ∷ ts)
          (enough (length bs) (length rest) (suc index) (offset + front.len) rest (omega (arith, length-drop front.len text)) (omega arith)
          ∙ ap (λ (k : ℕ). scanned_from k (offset + front.len) rest) (sym (add-one index))));
    })

-- what a source means after it, and where the end stays
pub record Steps (text : Bytes) (p : Part) (index offset : ℕ) : Type 0 where
  pub some : 1 ≤ length p.bytes
  pub within : length p.bytes ≤ length text
  pub given : token_of p.kind p.bytes index offset (length p.bytes) ≡ first_of (scanned_from index offset text) (end_from index offset text)
  pub left : scanned_from (index + 1) (offset + length p.bytes) (drop (length p.bytes) text) ≡ rest_of (scanned_from index offset text)
  pub same : end_from (index + 1) (offset + length p.bytes) (drop (length p.bytes) text) ≡ end_from index offset text

pub steps : (text : Bytes) (p : Part) (index offset : ℕ) → Some p ≡ first_part text → Steps text p index offset
steps text p index offset e =
    let one = reads_one text p index offset e in
    let n = length p.bytes in
    let more = scanned_from (index + 1) (offset + n) (drop n text) in
    let longer : length (scanned_from index offset text) ≡ suc (length more) = ap length one.tokens in
    let left = length-drop n text in
    let h = one.within in
    let indices : index + 1 + length more ≡ index + length (scanned_from index offset text) = omega arith in
    let offsets : offset + n + length (drop n text) ≡ offset + length text = omega arith in
    record {
      some = one.some;
      within = one.within;
      given = sym (ap (λ (ts : List Token). first_of ts (end_from index offset text)) one.tokens);
      left = sym (ap rest_of one.tokens);
      same = ap (λ (i : ℕ). end_at i (offset + n + length (drop n text))) indices ∙ ap (end_at (index + length (scanned_from index offset text))) offsets;
    }

-- a text without a first part is empty
pub reads_none : (text : Bytes) → None ≡ first_part text → text ≡ []
reads_none [] e = refl
reads_none (b ∷ bs) e = let z : ◌≡◌ {A = ℕ} 0 1 = cc in absurd (omega arith)
