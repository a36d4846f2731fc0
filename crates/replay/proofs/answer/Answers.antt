use Rattle.std.proofs.Common.{◌≡◌, Ok, Err, IsOkAnd, vec_items, Result, sym, ap, ◌∙◌}
use Rattle.replay.specs.declared.fault.BadLine.{BadLine}
use Rattle.replay.specs.declared.recording.Recording.{Recording}
use Rattle.replay.specs.Answers.{answer}
use Rattle.replay.specs.Bytes.{Bytes}
use Rattle.replay.specs.Faults.{bad_line}
use Rattle.replay.specs.Printed.{line_of, text_printed}
use Rattle.replay.specs.Recordings.{Said, recorded, IsReadAs}
use Rattle.replay.proofs.Prints.{from_nothing}
use Rattle.replay.proofs.answer.Goals as goal
use Rattle.replay.proofs.answer.Goals.{in-Ok+in_ok-recording-in-Ok, in-Err-BadLine+in_ok-line-in-Err-BadLine}

-- what is printed where a recording was read, and where a line is wrong
read_well : (meant : Result Said BadLine) (r : Recording) (out : Bytes) → IsOkAnd meant (λ s. IsReadAs s r) → out ≡ text_printed (vec_items r.text) → out ≡ answer meant
read_well (Ok s) r out done is = is ∙ ap text_printed done.0
read_well (Err bad) r out done is = absurd done

refused_well : (meant : Result Said BadLine) (bad : BadLine) (out : Bytes) → meant ≡ Err bad → out ≡ line_of (bad_line bad) → out ≡ answer meant
refused_well meant bad out is printed = printed ∙ sym (ap answer is)

pub returns-clause-report : goal.returns-clause-report
returns-clause-report c =
    elim c.match-read.branch [
      | in-Ok+in_ok-recording-in-Ok w ↦
          read_well (recorded c.args.input.now) w.in-Ok.recording _ w.in-Ok.ensures
          (w.report-is ∙ from_nothing _ _ _ w.in_ok-recording-in-Ok.ensures c.new-report.ensures)
      | in-Err-BadLine+in_ok-line-in-Err-BadLine w ↦
          refused_well (recorded c.args.input.now) w.in-Err-BadLine.bad _ (rw w.in-Err-BadLine.field-0-is at w.in-Err-BadLine.ensures)
          (w.report-is ∙ from_nothing _ _ _ w.in_ok-line-in-Err-BadLine.ensures c.new-report.ensures)
    ]
