-- What a stream of tokens means, and what its calls do to that.
use Rattle.std.specs.Prelude.{◌≡◌, Bool, true, List, [], ◌∷◌, Some, None, Option}
use Rattle.std.specs.List.{AllByRecursion}
use Rattle.input.specs.declared.token.Token.{Token}
use Rattle.input.specs.Tokens.{is_input, is_input_end, has_place}

-- the previous token or none, the tokens ahead, and the end
pub record Stream : Type 0 where
  pub previous : Option Token
  pub ahead : List Token
  pub end : Token

-- the first of some tokens, or the end where there is none
abbrev pub first_of : List Token → Token → Token
first_of [] end = end
first_of (t ∷ ts) end = t

-- the tokens behind the first; none where there are none
abbrev pub rest_of : List Token → List Token
rest_of [] = []
rest_of (t ∷ ts) = ts

-- the current token: the first ahead, or the end
abbrev pub current_token : Stream → Token
current_token s = first_of s.ahead s.end

-- the second token: the one behind the current token, or the end
abbrev pub second_token : Stream → Token
second_token s = first_of (rest_of s.ahead) s.end

-- given tokens in the place of those ahead in the stream, which are not looked at: the first becomes the previous one, the others are ahead, and the end
-- stays; the same stream where none are given
abbrev pub moved_past : List Token → Stream → Stream
moved_past [] s = s
moved_past (t ∷ ts) s = record { previous = Some t; ahead = ts; end = s.end }

-- the stream after one step, which is what consume does: the first token ahead becomes the previous one; with none ahead nothing changes
abbrev pub moved : Stream → Stream
moved s = moved_past s.ahead s

-- ── well formed: the tokens ahead are of the input, the end is its end, and a previous token has a place in it ──

-- each of some tokens is a token of the input
abbrev pub Inputs : List Token → Type 0
Inputs ts = AllByRecursion (λ t. is_input t ≡ true) ts

-- whether there is no token, or one with the type and the index of a token of the input or of its end: type −1 to 65,535, index 0 or more
abbrev pub has_place_if_any : Option Token → Bool
has_place_if_any None = true
has_place_if_any (Some t) = has_place t

-- the previous token, if there is one, is of the input or the end of one; the tokens ahead are tokens of the input; the end has type −1 and an index
-- of 0 or more
pub record WellFormed (s : Stream) : Type 0 where
  pub before : has_place_if_any s.previous ≡ true
  pub inputs : Inputs s.ahead
  pub ends : is_input_end s.end ≡ true

-- ── what a source has still to give: tokens, and then the end, again and again ──

-- the tokens that a source has still to give, and the end behind them
pub record Supply : Type 0 where
  pub tokens : List Token
  pub end : Token

-- the tokens that a source has still to give are tokens of the input, and its end has type −1 and an index of 0 or more
pub record SupplyFormed (s : Supply) : Type 0 where
  pub inputs : Inputs s.tokens
  pub ends : is_input_end s.end ≡ true
