use Rattle.std.proofs.Common.{◌≡◌, ℕ, ◌+◌, length, drop, Some, ap, ◌∙◌, arith, rules}
use Rattle.std.proofs.lemmas.List.{length-drop, take_rest}
use Rattle.input.specs.declared.lexeme.Lexeme.{Lexeme}
use Rattle.input.specs.declared.scanner.Cursor.{Cursor}
use Rattle.input.specs.Lexemes.{part_of, first_part}
use Rattle.input.specs.Scanned.{token_of, scanned_from}
use Rattle.input.proofs.Scanning.{end_from, Steps, steps}
use Rattle.input.proofs.scanner.CursorTokenSource.next_token.Goals as goal

-- what the lexeme that was found says of the rest
found : (self : Cursor) (l : Lexeme) → Some (part_of l) ≡ first_part self.rest.now → Steps self.rest.now (part_of l) self.index self.offset
found self l e = steps self.rest.now (part_of l) self.index self.offset e

pub invariant_of-self : goal.invariant_of-self
invariant_of-self c =
    let self = c.args.self.now in
    let s = found self c.in-Some.lexeme c.in-Some.ensures in
    let n = length c.bytes-len.result.now in
    let same = ap length c.bytes-len.ensures in
    let left = ap length (take_rest self.rest.now n) ∙ length-drop n self.rest.now in
    record { short = omega (arith, s.within, same, left, self.short); counted = omega (arith, s.some, same, self.counted) }

pub returns : goal.returns
returns c =
    let self = c.args.self.now in
    let text = self.rest.now in
    let i = self.index + 1 in
    let s = found self c.in-Some.lexeme c.in-Some.ensures in
    let n = length c.bytes-len.result.now in
    let same = ap length c.bytes-len.ensures in
    let p = part_of c.in-Some.lexeme in
    let is : c.token-token.result ≡ token_of p.kind p.bytes self.index self.offset (length p.bytes) = search (rules, same) in
    record {
      given = is ∙ s.given;
      left = ap (scanned_from i (self.offset + n)) (take_rest text n)
          ∙ ap (λ (m : ℕ). scanned_from i (self.offset + m) (drop m text)) same ∙ s.left;
      same = ap (end_from i (self.offset + n)) (take_rest text n)
          ∙ ap (λ (m : ℕ). end_from i (self.offset + m) (drop m text)) same ∙ s.same;
    }
