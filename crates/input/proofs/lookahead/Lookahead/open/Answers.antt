use Rattle.std.proofs.Common.{◌≡◌, refl, sym, ◌∙◌, subst₂}
use Rattle.input.specs.Held.{HeldFormed}
use Rattle.input.specs.Streams.{first_of, rest_of}
use Rattle.input.proofs.Formed.{holds_first}
use Rattle.input.proofs.lookahead.Lookahead.open.Goals as goal

pub invariant_of-result : goal.invariant_of-result
invariant_of-result g c =
    let s = g.S.TokenSource.supply c.args.source in
    let law = g.S.TokenSource.formed c.args.source in
    let one = c.next_token-current.ensures in
    let second : c.next_token-second.result ≡ first_of (rest_of s.tokens) s.end = c.next_token-second.ensures.given ∙ (λ i. first_of (one.left i) (one.same i)) in
    record { before = refl; formed = subst₂ HeldFormed (sym one.given) (sym second) (holds_first s.tokens s.end law.inputs law.ends) }
