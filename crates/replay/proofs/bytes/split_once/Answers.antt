use Rattle.std.proofs.Common.{◌+◌, length, Some, sym, ap, ◌∙◌, arith}
use Rattle.std.proofs.lemmas.List.{take_rest, length-drop}
use Rattle.std.proofs.lemmas.Bool.{eq-eqb, ne_eqb}
use Rattle.replay.specs.Bytes.{Bytes}
use Rattle.replay.proofs.Splits.{behind_there, up_to_stops, up_to_more, up_to_all, behind_all}
use Rattle.replay.proofs.bytes.split_once.Goals as goal

pub returns-then-b-mark : goal.returns-then-b-mark
returns-then-b-mark c =
    let bytes = c.args.bytes.now in
    let i = c.loop-i.i in
    let is = eq-eqb _ _ c.if-b-mark.true in
    let within = c.loop-i-test.true in
    let rest = take_rest bytes (i + 1) in
    record {
      front = sym (c.loop-i.invariant.0 ∙ up_to_stops c.args.mark bytes i within is);
      rest = ap (λ (bs : Bytes). Some bs) rest ∙ sym (c.loop-i.invariant.1 ∙ behind_there c.args.mark bytes i within _ is);
      shorter = omega (arith, ap length rest, length-drop (i + 1) bytes);
    }

pub loop-i-preserved : goal.loop-i-preserved
loop-i-preserved c =
    let bytes = c.args.bytes.now in
    let is = ne_eqb _ _ c.if-b-mark.false in (
      c.loop-i.invariant.0 ∙ up_to_more c.args.mark bytes c.loop-i.i c.loop-i-test.true is,
      c.loop-i.invariant.1 ∙ behind_there c.args.mark bytes c.loop-i.i c.loop-i-test.true _ is,
    )

pub returns : goal.returns
returns c =
    record {
      front = sym (c.loop-i.invariant.0 ∙ up_to_all c.args.mark c.args.bytes.now c.loop-i.i c.loop-i-test.false);
      rest = sym (c.loop-i.invariant.1 ∙ behind_all c.args.mark c.args.bytes.now c.loop-i.i c.loop-i-test.false);
      shorter = tt;
    }
