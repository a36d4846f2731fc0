use Rattle.std.proofs.Common.{◌≡◌, length}
use Rattle.input.specs.Filter.{on_channel_0}
use Rattle.input.proofs.channel_filter.VisibleTokenSource.next_token.Given as goal

-- what is left to find stays the same while hidden tokens are passed
abbrev pub invariant-loop-token : goal.invariant-loop-token
invariant-loop-token g l =
    let now = g.S.TokenStream.meaning l.self.stream in
    let before = g.S.TokenStream.meaning l.initial.self.stream in
    (on_channel_0 now.ahead ≡ on_channel_0 before.ahead) × (now.end ≡ before.end)

abbrev pub decreases-loop-token : goal.decreases-loop-token
decreases-loop-token g l = length (g.S.TokenStream.meaning l.self.stream).ahead
