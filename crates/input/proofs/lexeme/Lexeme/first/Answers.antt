use Rattle.std.proofs.Common.{rules}
use Rattle.input.specs.Bytes.{is_digit, is_in_name, is_blank}
use Rattle.input.proofs.Front.{run_is}
use Rattle.input.proofs.lexeme.Lexeme.first.Goals as goal

pub returns-then-begins_name : goal.returns-then-begins_name
returns-then-begins_name c =
    let is = run_is is_in_name c.args.text.now c.run.result.now c.run.ensures.front (λ i l. search (rules, c.run.ensures.passing i l)) (λ l. search (rules, c.run.ensures.stops l)) in
    search (rules, is)

pub returns-then-is_ascii_digit : goal.returns-then-is_ascii_digit
returns-then-is_ascii_digit c =
    let run = c.run-then-is_ascii_digit in
    let is = run_is is_digit c.args.text.now run.result.now run.ensures.front (λ i l. search (rules, run.ensures.passing i l)) (λ l. search (rules, run.ensures.stops l)) in
    search (rules, is)

pub returns-then-is_blank : goal.returns-then-is_blank
returns-then-is_blank c =
    let run = c.run-then-is_blank in
    let is = run_is is_blank c.args.text.now run.result.now run.ensures.front (λ i l. search (rules, run.ensures.passing i l)) (λ l. search (rules, run.ensures.stops l)) in
    search (rules, is)
