-- A name is a word in some case just where its capitals are the word.
use Rattle.std.proofs.Common.{◌≡◌, ℕ, Bool, true, false, [], ◌∷◌, length, get_or, map, ◌↔◌, IsTrue, refl, sym, ap, ◌∙◌, arith}
use Rattle.std.proofs.lemmas.Bool.Decides.{nat_tests, same_from_decides}
use Rattle.std.proofs.lemmas.Slice.Eq.{bytes_eq-Decides}
use Rattle.std.proofs.lemmas.Str.Ascii.{lowercase-uppercase}
use Rattle.std.specs.Char.{to_ascii_uppercase, to_ascii_lowercase}
use Rattle.std.specs.Str.{bytes_eq}
use Rattle.input.specs.Bytes.{Bytes, capitals}
use Rattle.input.specs.Lexemes.{words, type_in}

uppercase-lowercase : (c : ℕ) → to_ascii_uppercase (to_ascii_lowercase c) ≡ to_ascii_uppercase c
uppercase-lowercase c = grind (arith, nat_tests)

map_both : (f g h : ℕ → ℕ) (xs : Bytes) → ((c : ℕ) → f (g c) ≡ h c) → map f (map g xs) ≡ map h xs
map_both f g h [] e = refl
map_both f g h (x ∷ xs) e = λ i. e x i ∷ map_both f g h xs e i

pub is_word : (name word : Bytes) (t : Bool) → (IsTrue t ↔ (map to_ascii_lowercase name ≡ map to_ascii_lowercase word)) → capitals word ≡ word
    → t ≡ bytes_eq word (capitals name)
is_word name word t is whole =
    let small : (bs : Bytes) → map to_ascii_lowercase (capitals bs) ≡ map to_ascii_lowercase bs = λ bs. map_both to_ascii_lowercase to_ascii_uppercase to_ascii_lowercase bs lowercase-uppercase in
    let large : (bs : Bytes) → capitals (map to_ascii_lowercase bs) ≡ capitals bs = λ bs. map_both to_ascii_uppercase to_ascii_lowercase to_ascii_uppercase bs uppercase-lowercase in
    same_from_decides t (bytes_eq word (capitals name))
    (λ e. sym whole ∙ sym (large word) ∙ ap capitals (sym (is.0 e)) ∙ large name, λ e. is.1 (sym (small name) ∙ ap (map to_ascii_lowercase) (sym e)))
    (bytes_eq-Decides word (capitals name))

-- ── only names of two or three bytes are words ──

pub capitals_two : (name : Bytes) (x y : ℕ) → length name ≡ 2
    → x ≡ to_ascii_uppercase (get_or name 0 0) → y ≡ to_ascii_uppercase (get_or name 1 0) → x ∷ (y ∷ []) ≡ capitals name
capitals_two [] x y l p q = absurd (omega arith)
capitals_two (a ∷ []) x y l p q = absurd (omega arith)
capitals_two (a ∷ b ∷ []) x y l p q = cc
capitals_two (a ∷ b ∷ c ∷ bs) x y l p q = absurd (omega arith)

pub capitals_three : (name : Bytes) (x y z : ℕ) → length name ≡ 3
    → x ≡ to_ascii_uppercase (get_or name 0 0) → y ≡ to_ascii_uppercase (get_or name 1 0) → z ≡ to_ascii_uppercase (get_or name 2 0) → x ∷ (y ∷ (z ∷ [])) ≡ capitals name
capitals_three [] x y z l p q r = absurd (omega arith)
capitals_three (a ∷ []) x y z l p q r = absurd (omega arith)
capitals_three (a ∷ b ∷ []) x y z l p q r = absurd (omega arith)
capitals_three (a ∷ b ∷ c ∷ []) x y z l p q r = cc
capitals_three (a ∷ b ∷ c ∷ d ∷ bs) x y z l p q r = absurd (omega arith)

-- bytes of another length are other bytes
unlike : (ws bs : Bytes) → (length ws ≡ length bs → ⊥) → bytes_eq ws bs ≡ false
unlike ws bs u = go (bytes_eq ws bs) refl
  where
    go : (t : Bool) → bytes_eq ws bs ≡ t → bytes_eq ws bs ≡ false
    go true e = absurd (u (ap length ((bytes_eq-Decides ws bs).0 e)))
    go false e = e

pub no_word : (bs : Bytes) → (length bs ≡ 2 → ⊥) → (length bs ≡ 3 → ⊥) → 1 ≡ type_in words bs 1
no_word bs two three =
    sym (simp (
      unlike (65 ∷ (78 ∷ (68 ∷ []))) bs (λ e. three (sym e)),
      unlike (79 ∷ (82 ∷ [])) bs (λ e. two (sym e)),
      unlike (88 ∷ (79 ∷ (82 ∷ []))) bs (λ e. three (sym e)),
      unlike (78 ∷ (79 ∷ (84 ∷ []))) bs (λ e. three (sym e)),
      unlike (77 ∷ (79 ∷ (68 ∷ []))) bs (λ e. three (sym e)),
    ))
