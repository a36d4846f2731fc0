-- What is held of the first two tokens of a formed supply is formed.
use Rattle.std.proofs.Common.{◌≡◌, Bool, true, false, ◌||◌, List, [], ◌∷◌, ℤ, pos, negsuc, refl}
use Rattle.std.proofs.lemmas.Bool.{and_parts, both_ways, false≢true, or_left}
use Rattle.input.specs.declared.token.Token.{Token}
use Rattle.input.specs.Tokens.{minus_one, is_end, is_type, is_input, is_input_end, has_place}
use Rattle.input.specs.Streams.{first_of, rest_of, Inputs}
use Rattle.input.specs.Held.{HeldFormed}

type_not_end : (z : ℤ) → is_type z ≡ true → minus_one z ≡ false
type_not_end (pos n) h = refl
type_not_end (negsuc n) h = absurd (false≢true h)

pub input_not_end : (t : Token) → is_input t ≡ true → is_end t ≡ false
input_not_end t h = type_not_end t.ttype (and_parts _ _ h).0

-- a token of the input, and an end of one, has a place
input_placed : (t : Token) → is_input t ≡ true → has_place t ≡ true
input_placed t h = or_left _ _ h

end_placed : (t : Token) → is_input_end t ≡ true → has_place t ≡ true
end_placed t h = go (is_input t) (is_input_end t) h
  where
    go : (a b : Bool) → b ≡ true → (a || b) ≡ true
    go true b e = refl
    go false b e = e

pub holds_first : (ts : List Token) (end : Token) → Inputs ts → is_input_end end ≡ true → HeldFormed (first_of ts end) (first_of (rest_of ts) end)
holds_first [] end ins e = record { first = end_placed end e; behind = end_placed end e; stays = λ _. refl }
holds_first (t ∷ []) end ins e =
    record { first = input_placed t ins.0; behind = end_placed end e; stays = λ x. absurd (both_ways (is_end t) (input_not_end t ins.0) x) }
holds_first (t ∷ u ∷ ts) end ins e =
    record { first = input_placed t ins.0; behind = input_placed u ins.1.0; stays = λ x. absurd (both_ways (is_end t) (input_not_end t ins.0) x) }
