-- What a whole input reads as: its header, its steps up to the first fault, and that fault.
use Rattle.std.specs.Prelude.{◌≡◌, ℕ, zero, suc, ◌+◌, cond, List, [], ◌∷◌, map, length, Some, None, Ok, Err, vec_items, Option, Result, nat_le}
use Rattle.values.specs.declared.kind.Kind.{Kind}
use Rattle.schedule.specs.declared.faults.StepFault.{StepFault}
use Rattle.schedule.specs.declared.faults.RunFault.{RunFault}
use Rattle.schedule.specs.declared.faults.RunFault.TheVariants.{TooLong, Step}
use Rattle.schedule.specs.declared.headers.WiringKind.{WiringKind}
use Rattle.schedule.specs.declared.whole.Schedule.{Schedule}
use Rattle.schedule.specs.declared.whole.ReadError.{ReadError}
use Rattle.schedule.specs.declared.whole.ReadError.TheVariants.{Fault, NoMemory}
use Rattle.schedule.specs.Faults.{numbered}
use Rattle.schedule.specs.Headers.{PlainHeader, plain_header}
use Rattle.schedule.specs.Reading.{header_of, step_of}
use Rattle.schedule.specs.Steps.{PlainStep, plain_step}

-- An input of more bytes is no schedule.
abbrev pub most_bytes : ℕ
most_bytes = 65536

-- Steps in their order, and the fault behind them, if there is one.
abbrev pub StepsRead : Type 0
StepsRead = List PlainStep × Option RunFault

-- One step and then the steps from what is left; none at the end, and the first fault ends them.
abbrev pub step_then : Result (Option PlainStep × List ℕ) StepFault → ℕ → (List ℕ → StepsRead) → StepsRead
step_then (Ok (None, rest)) number more = ([], None)
step_then (Ok (Some step, rest)) number more = (step ∷ (more rest).0, (more rest).1)
step_then (Err fault) number more = ([], Some (Step (numbered number fault)))

-- The steps that bytes read as, the first of them with this number, in so many turns at most.
unfoldable pub steps_within : ℕ → ℕ → Kind → WiringKind → ℕ → List ℕ → StepsRead
steps_within zero total kind wiring number bytes = ([], None)
steps_within (suc turns) total kind wiring number bytes =
    step_then (step_of total kind wiring bytes) number (steps_within turns total kind wiring (number + 1))

-- The steps that bytes read as: each takes a byte at least, so as many turns as there are bytes are enough.
unfoldable pub steps_of : ℕ → Kind → WiringKind → ℕ → List ℕ → StepsRead
steps_of total kind wiring number bytes = steps_within (length bytes) total kind wiring number bytes

-- What a schedule says: its header, its steps, and the fault that ended the reading, if one did.
pub record PlainSchedule : Type 0 where
  pub header : PlainHeader
  pub steps : List PlainStep
  pub fault : Option RunFault

-- What a schedule says, wherever the bytes of its values stand.
abbrev pub plain_schedule : Schedule → PlainSchedule
plain_schedule s = record { header = plain_header s.header; steps = map plain_step (vec_items s.steps); fault = s.fault }

-- A schedule of a header and of what was read behind it.
abbrev pub with_header : PlainHeader → StepsRead → PlainSchedule
with_header h read = record { header = h; steps = read.0; fault = read.1 }

-- A header that was read, or its fault, which is one of step 0.
abbrev pub header_numbered : Result (PlainHeader × List ℕ) StepFault → Result (PlainHeader × List ℕ) RunFault
header_numbered (Ok x) = Ok x
header_numbered (Err fault) = Err (Step (numbered 0 fault))

-- The steps behind a header.
abbrev pub header_then : ℕ → Result (PlainHeader × List ℕ) RunFault → Result PlainSchedule RunFault
header_then total (Ok (h, rest)) = Ok (with_header h (steps_of total h.kind h.wiring 1 rest))
header_then total (Err fault) = Err fault

-- What an input reads as: a schedule, or the fault of its header or of its length.
abbrev pub schedule_of : List ℕ → Result PlainSchedule RunFault
schedule_of bytes = cond (nat_le (length bytes) most_bytes) (header_then (length bytes) (header_numbered (header_of (length bytes) bytes))) (Err TooLong)

-- What reading an input answers, unless memory is wanting.
abbrev pub ReadsSchedule : Result Schedule ReadError → List ℕ → Type 0
ReadsSchedule (Ok schedule) bytes = schedule_of bytes ≡ Ok (plain_schedule schedule)
ReadsSchedule (Err (Fault fault)) bytes = schedule_of bytes ≡ Err fault
ReadsSchedule (Err (NoMemory error)) bytes = Unit {0}
