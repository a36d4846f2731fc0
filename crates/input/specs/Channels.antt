-- The number of each channel of the tokens that a scanner gives.
use Rattle.std.specs.Prelude.{ℕ}
use Rattle.input.specs.declared.channel.Channel.{Channel}
use Rattle.input.specs.declared.channel.Channel.TheVariants.{Default, Hidden}

-- the number that a token on this channel has
abbrev pub channel_number : Channel → ℕ
channel_number Default = 0
channel_number Hidden = 1
