use Rattle.std.proofs.Common.{◌≡◌, ℕ, ◌+◌, ◌<◌, true, false, length, rules, MatchOption}
use Rattle.std.proofs.iter.runs.Made.{chains}
use Rattle.input.proofs.Closing.{closes_at, first_is}
use Rattle.input.proofs.lexeme.find_closing.Goals as goal

facts : (c : goal.After-map) → MatchOption c.position.result ((k : ℕ) → k + 1 < length c.args.text.now → closes_at c.args.text.now k ≡ false)
    (λ i. (i + 1 < length c.args.text.now) × (closes_at c.args.text.now i ≡ true) × ((k : ℕ) → k < i → closes_at c.args.text.now k ≡ false))
facts c = search (rules, chains)

pub returns-clause-found : goal.returns-clause-found
returns-clause-found c = search (rules, first_is c.args.text.now c.position.result (facts c))
