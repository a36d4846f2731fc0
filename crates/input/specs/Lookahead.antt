-- The stream over a source of tokens, two of which are held ready.
use Rattle.std.specs.Prelude.{None}
use Rattle.input.specs.declared.lookahead.Lookahead.{Lookahead}
use Rattle.input.specs.Streams.{Stream, Supply}
use Rattle.input.specs.Held.{held_tokens, held_end}

-- a stream just opened over a source with this still to give: nothing is previous, and its tokens are ahead, and its end behind them
abbrev pub opened : Supply → Stream
opened s = record { previous = None; ahead = s.tokens; end = s.end }

-- the stream over a source, given what each source has still to give: previous is the token that the stream keeps as previous, or none; ahead is nothing if
-- the current token is an end, or else that token, and, unless the second is an end, the second and the tokens that the source has still to give; the end is
-- the first of the two that is an end, or else the source's
abbrev pub stream : {S : Type 0} → (S → Supply) → Lookahead S → Stream
stream supply s = record { previous = s.previous; ahead = held_tokens s.current s.second (supply s.source); end = held_end s.current s.second (supply s.source) }
