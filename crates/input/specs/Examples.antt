-- What some short texts are cut into, as the rules compute it: the types of the tokens, once their lengths.
use Rattle.std.specs.Prelude.{◌≡◌, ℕ, List, [], ◌∷◌, map, ℤ, pos, codes}
use Rattle.input.specs.declared.token.Token.{Token}
use Rattle.input.specs.Scanned.{scanned, scanner}
use Rattle.input.specs.Filter.{filtered}

-- the type of each of some tokens, in their order
abbrev pub types : List Token → List ℤ
types ts = map (λ t. t.ttype) ts

-- the length of each of some tokens, in their order
abbrev pub lengths : List Token → List ℕ
lengths ts = map (λ t. t.len) ts

-- what the rules give for each text, by computation
pub record Examples : Type 0 where
  pub power : types (scanned (codes "a**b")) ≡ pos 1 ∷ pos 11 ∷ pos 1 ∷ []
  pub unclosed : types (scanned (codes "(*x")) ≡ pos 0 ∷ []
  -- the `*` of `(*` does not close it
  pub shortest_opening : types (scanned (codes "(*)")) ≡ pos 0 ∷ []
  pub shortest_comment : types (scanned (codes "(**)")) ≡ pos 26 ∷ []
  -- a comment ends at the first `*)`, and comments do not nest
  pub first_closing : lengths (scanned (codes "(*(*a*)b*)")) ≡ 7 ∷ 1 ∷ 1 ∷ 1 ∷ []
  pub closing_alone : types (scanned (codes "*)")) ≡ pos 9 ∷ pos 6 ∷ []
  pub assignment : types (scanned (codes "a:=b")) ≡ pos 1 ∷ pos 3 ∷ pos 1 ∷ []
  pub colon_alone : types (scanned (codes "a:b")) ≡ pos 1 ∷ pos 0 ∷ pos 1 ∷ []
  pub word_in_a_name : types (scanned (codes "ANDx")) ≡ pos 1 ∷ []
  pub words_in_either_case : types (scanned (codes "and Or xOR noT mod")) ≡ pos 20 ∷ pos 25 ∷ pos 21 ∷ pos 25 ∷ pos 22 ∷ pos 25 ∷ pos 23 ∷ pos 25 ∷ pos 24 ∷ []
  pub number_and_name : types (scanned (codes "1a")) ≡ pos 2 ∷ pos 1 ∷ []
  pub underscore : types (scanned (codes "1_000")) ≡ pos 2 ∷ pos 1 ∷ []
  pub longest_signs : types (scanned (codes "<>=<=>=***")) ≡ pos 13 ∷ pos 12 ∷ pos 15 ∷ pos 17 ∷ pos 11 ∷ pos 9 ∷ []
  pub empty : types (scanned (codes "")) ≡ []
  pub seen_by_a_parser : types (filtered (scanner (codes "a + 2"))).ahead ≡ pos 1 ∷ pos 7 ∷ pos 2 ∷ []
