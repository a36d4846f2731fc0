use Rattle.std.proofs.Common.{◌≡◌, ◌+◌, ◌<◌, ◌≤◌, IfErr, Result, subst, arith, [], length, Option, unwrap_or, Err, rules, tests, sym, refl, ap, ◌∙◌}
use Rattle.std.proofs.lemmas.Bool.{eqb-true, eqb-false}
use Rattle.std.proofs.lemmas.Result.{err_from_is_err_and}
use Rattle.replay.specs.declared.fault.BadLine.{BadLine}
use Rattle.replay.specs.declared.fault.ReadError.{ReadError}
use Rattle.replay.specs.Bytes.{Bytes, behind}
use Rattle.replay.specs.Faults.{at_line}
use Rattle.replay.specs.Lines.{says}
use Rattle.replay.specs.Recordings.{Said, lines, with_line, recorded}
use Rattle.replay.proofs.Reading.{rest_is, rest_shorter, one_line_more, line_more, wrong_line, wrong_later, all_read, line_refused, kept, turned}
use Rattle.replay.proofs.recording.Recording.read.Goals as goal

pub returns-in_err-map_err : goal.returns-in_err-map_err
returns-in_err-map_err c =
    let n = c.loop-rest.number + 1 in
    let rest = c.loop-rest.rest.now in
    let line = c.split_once.result.0.now in
    let before = c.loop-rest.head in
    let input = c.args.input.now in
    let full = eqb-false _ _ (sym c.loop-rest-test.ensures) in
    let some : 0 < length rest = omega arith in
    let r = turned c.add_line.result _ _ c.in_err-map_err.ensures.cases in
    let at : c.in_err-map_err.field-0.0 ≡ at_line n r.0 = let e = r.2 in search (rules, tests) in
    let p = err_from_is_err_and c.from_residual.result c.from_residual.ensures.1 in
    let within : n ≤ length (lines input) = omega (arith, c.loop-rest.invariant.1, one_line_more n before rest line _ some c.split_once.ensures.front refl) in
    let later : IfErr (recorded input) (λ bad. n ≤ bad.number) =
    subst (λ (m : Result Said BadLine). IfErr m (λ bad. n ≤ bad.number)) (sym c.loop-rest.invariant.2) (wrong_later n before (lines rest)) in
    line_refused (λ _. c.add_line.new.self) input (with_line before (says line)) n c.add_line.result r.0 c.from_residual.result c.add_line.ensures r.1
    (p.1 ∙ ap (λ (e : ReadError). Err e) (p.2 ∙ at)) (omega arith, within, later)
    (λ fault is. c.loop-rest.invariant.2 ∙ wrong_line n before rest line _ some c.split_once.ensures.front refl fault is)

pub loop-rest-preserved : goal.loop-rest-preserved
loop-rest-preserved c =
    let n = c.loop-rest.number + 1 in
    let rest = c.loop-rest.rest.now in
    let line = c.split_once.result.0.now in
    let after = c.unwrap_or-rest.result.now in
    let before = c.loop-rest.head in
    let full = eqb-false _ _ (sym c.loop-rest-test.ensures) in
    let some : 0 < length rest = omega arith in
    let front = c.split_once.ensures.front in
    let shorter : length after < length rest =
    rest_shorter c.split_once.result.1 _ c.unwrap_or-rest.result (length rest) c.unwrap_or-rest.ensures refl some c.split_once.ensures.shorter in
    let then : after ≡ unwrap_or (behind 10 rest) [] =
    rest_is c.split_once.result.1 _ c.unwrap_or-rest.result c.unwrap_or-rest.ensures refl ∙ ap (λ (o : Option Bytes). unwrap_or o []) c.split_once.ensures.rest in
    let r = kept _ c.add_line.result c.in_ok-map_err.field-0 c.in_ok-map_err.ensures.cases in (
      omega (arith, c.loop-rest.invariant.0),
      omega (arith, c.loop-rest.invariant.1, one_line_more n before rest line after some front then),
      c.loop-rest.invariant.2 ∙ line_more n before rest line after some front then c.add_line.new.self (rw r at c.add_line.ensures),
    )

pub returns : goal.returns
returns c =
    all_read (recorded c.args.input.now) (c.loop-rest.number + 1) c.loop-rest.head c.loop-rest.rest.now c.recording.result c.loop-rest.invariant.2
    (eqb-true _ _ (sym c.loop-rest-test.ensures)) c.recording.ensures
