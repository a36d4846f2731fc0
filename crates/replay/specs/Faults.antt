-- Why a line was not read, and what is printed of that.
use Rattle.std.specs.Prelude.{◌≡◌, ℕ, ◌++◌, Ok, Err, codes, decimal, Result}
use Rattle.replay.specs.declared.fault.Fault.{Fault}
use Rattle.replay.specs.declared.fault.Fault.TheVariants.{UnknownWord, NotYet, EmptyName, UnknownEscape}
use Rattle.replay.specs.declared.fault.LineError.{LineError}
use Rattle.replay.specs.declared.fault.LineError.TheVariants.{Wrong, Memory}
use Rattle.replay.specs.declared.fault.BadLine.{BadLine}
use Rattle.replay.specs.declared.fault.NoMemory.{NoMemory}
use Rattle.replay.specs.declared.fault.ReadError.{ReadError}
use Rattle.replay.specs.declared.fault.ReadError.TheVariants as read
use Rattle.replay.specs.Bytes.{Bytes}
use Rattle.replay.specs.Keywords.{name_of}

-- the words that are printed for each fault
abbrev pub message : Fault → Bytes
message UnknownWord = codes "its first word is unknown"
message (NotYet k) = codes "\"" ++ (name_of k ++ codes "\" is not read yet")
message EmptyName = codes "rule names are separated by one space"
message UnknownEscape = codes "a \"\\\" is not followed by n, t, r or \"\\\""

-- what is printed for a wrong line, without an LF: `line NUMBER: MESSAGE`
abbrev pub bad_line : BadLine → Bytes
bad_line b = codes "line " ++ (decimal b.number ++ (codes ": " ++ message b.fault))

-- what is printed where memory was short at a line, without an LF: `line NUMBER: there is no memory left`
abbrev pub short_at : NoMemory → Bytes
short_at n = codes "line " ++ (decimal n.line ++ codes ": there is no memory left")

-- the error of the line of this number: a fault makes it a `BadLine`, and want of memory a `NoMemory`
abbrev pub at_line : ℕ → LineError → ReadError
at_line number (Wrong fault) = read.BadLine (record { number = number; fault = fault })
at_line number Memory = read.NoMemory (record { line = number })

-- whether a result fits what is meant: `Ok y` only if `value y` is meant, a fault only if that fault is, and want of memory always
abbrev pub Gives : {X Y : Type 0} → (Y → X) → Result X Fault → Result Y LineError → Type 0
Gives value meant (Ok y) = meant ≡ Ok (value y)
Gives value meant (Err (Wrong fault)) = meant ≡ Err fault
Gives value meant (Err Memory) = Unit {0}
