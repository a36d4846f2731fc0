-- What the program prints, by what it reads.
use Rattle.std.specs.Prelude.{◌≡◌, ℕ, ◌⊎◌, [], Ok, Err, Result}
use Rattle.std.specs.Option.{unwrap_or}
use Rattle.replay.specs.declared.OutOfMemory.{OutOfMemory}
use Rattle.replay.specs.declared.OutOfMemory.TheVariants.{AtLine, ForReport}
use Rattle.replay.specs.declared.fault.BadLine.{BadLine}
use Rattle.replay.specs.Bytes.{Bytes}
use Rattle.replay.specs.Faults.{bad_line, short_at}
use Rattle.replay.specs.Recordings.{Said, recorded, Reached}
use Rattle.replay.specs.Printed.{line_of, text_printed}

-- what is printed for a recording: the tokens of its text (an empty one if there is no text line), with the end and the tally, or the refusal of a text over
-- 65,536 bytes, or the number of its first wrong line and what is wrong with it
abbrev pub answer : Result Said BadLine → Bytes
answer (Ok s) = text_printed (unwrap_or s.text [])
answer (Err bad) = line_of (bad_line bad)

-- what is printed where memory is short while the line of this number is read: `line NUMBER: there is no memory left` and an LF (10)
abbrev pub no_memory : ℕ → Bytes
no_memory number = line_of (short_at (record { line = number }))

-- whether this may be answered in place of a report: want of memory for the report always, and want of memory at a line only if it is one of the input and no
-- line before it is wrong; any allocation may fail, so nothing here says that one did
abbrev pub ShortAt : Bytes → OutOfMemory → Type 0
ShortAt input (AtLine n) = Reached input n.line
ShortAt input (ForReport e) = Unit {0}

-- what is printed is the answer, or that there was no memory at a line of the input before which none is wrong: any allocation may fail, so nothing here says
-- when that is so
abbrev pub Answers : Bytes → Bytes → Type 0
Answers input out = (out ≡ answer (recorded input)) ⊎ ((number : ℕ) × Reached input number × (out ≡ no_memory number))
