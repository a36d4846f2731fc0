-- The channel filter: of a stream, the tokens on channel 0.
use Rattle.std.specs.Prelude.{if◌then◌else◌, List, [], ◌∷◌, None, ◌==◌}
use Rattle.input.specs.declared.token.Token.{Token}
use Rattle.input.specs.declared.channel_filter.Visible.{Visible}
use Rattle.input.specs.declared.channel_filter.ChannelFilter.{ChannelFilter}
use Rattle.input.specs.Streams.{Stream, Supply}
use Rattle.input.specs.Lookahead.{stream}

-- the tokens on channel 0, in their order
abbrev pub on_channel_0 : List Token → List Token
on_channel_0 [] = []
on_channel_0 (t ∷ ts) = if t.channel == 0 then t ∷ on_channel_0 ts else on_channel_0 ts

-- what a filter means when it is opened over a stream: no previous token, ahead the stream's tokens ahead on channel 0, and the stream's end
abbrev pub filtered : Stream → Stream
filtered s = record { previous = None; ahead = on_channel_0 s.ahead; end = s.end }

-- the tokens ahead in a stream that are on channel 0, and the stream's end
abbrev pub visible : Stream → Supply
visible s = record { tokens = on_channel_0 s.ahead; end = s.end }

-- what a filter means, given what each stream means: previous is the token that it keeps as previous, or none; ahead is nothing if its current token is an
-- end, or else that token, and, unless its second is an end, the second and those on channel 0 that are still ahead in its stream; the end is the first of the
-- two that is an end, or else its stream's
abbrev pub filter_stream : {S : Type 0} → (S → Stream) → ChannelFilter S → Stream
filter_stream meaning f = stream (λ (v : Visible _). visible (meaning v.stream)) f.tokens
