-- What is held ready of a stream: the current token and the second, with the end in the place of each that is missing.
use Rattle.std.specs.Prelude.{◌≡◌, true, if◌then◌else◌, List, [], ◌∷◌}
use Rattle.input.specs.declared.token.Token.{Token}
use Rattle.input.specs.Tokens.{is_end, has_place}
use Rattle.input.specs.Streams.{Supply}

-- each of the two is a token of the input or the end of one, and where the current token is the end, the second is the same
pub record HeldFormed (current second : Token) : Type 0 where
  pub first : has_place current ≡ true
  pub behind : has_place second ≡ true
  pub stays : is_end current ≡ true → second ≡ current

-- the tokens ahead: none if the current token is an end; else it, and, unless the second is an end, the second and then those that the source has
abbrev pub held_tokens : Token → Token → Supply → List Token
held_tokens current second s = if is_end current then [] else (current ∷ (if is_end second then [] else (second ∷ s.tokens)))

-- the end: the first of the two that is an end, or else the source's
abbrev pub held_end : Token → Token → Supply → Token
held_end current second s = if is_end current then current else (if is_end second then second else s.end)
