-- The listing of a schedule's bytes.
use Rattle.std.specs.Prelude.{ℕ, ◌+◌, List, [], ◌∷◌, ◌++◌, length, Some, None, Ok, Err, codes, Option, Result}
use Rattle.values.specs.declared.kind.Kind.{Kind}
use Rattle.schedule.specs.Steps.{PlainStep}
use Rattle.schedule.specs.Whole.{PlainSchedule, schedule_of}
use Rattle.schedule.specs.declared.faults.RunFault.{RunFault}
use Rattle.listing.specs.Lines.{bad_line, end_line, header_line, step_line}

-- A line with its line feed.
abbrev pub line : List ℕ → List ℕ
line text = text ++ codes "\n"

-- The lines of steps, of which the first has this number.
unfoldable pub step_lines : Kind → ℕ → List PlainStep → List ℕ
step_lines kind number [] = []
step_lines kind number (step ∷ steps) = line (step_line kind number step) ++ step_lines kind (number + 1) steps

-- The last line: how much was read where all is well, and else the fault.
abbrev pub last_line : Option RunFault → ℕ → ℕ → List ℕ
last_line None steps bytes = end_line steps bytes
last_line (Some fault) steps bytes = bad_line fault

-- The lines of what was read of an input with so many bytes.
abbrev pub schedule_lines : PlainSchedule → ℕ → List ℕ
schedule_lines schedule bytes =
    line (header_line schedule.header)
    ++ (step_lines schedule.header.kind 1 schedule.steps ++ line (last_line schedule.fault (length schedule.steps) bytes))

-- The same, or the fault alone where not even the header could be read.
abbrev pub lines : Result PlainSchedule RunFault → ℕ → List ℕ
lines (Ok schedule) bytes = schedule_lines schedule bytes
lines (Err fault) bytes = line (bad_line fault)

-- The listing of an input.
abbrev pub listing_of : List ℕ → List ℕ
listing_of input = lines (schedule_of input) (length input)
