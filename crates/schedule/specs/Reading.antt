-- What the bytes of a header and of a step read as. `total` is the length of the whole input, so places are told by how much is left.
use Rattle.std.specs.Prelude.{◌≡◌, ℕ, List, [], ◌∷◌, take, drop, Some, None, Ok, Err, Option, Result}
use Rattle.numbers.specs.Cursors.{ReadsOn, left, number_in, place_of}
use Rattle.numbers.specs.declared.cursor.Cursor.{Cursor}
use Rattle.numbers.specs.declared.faults.NumberFault.{NumberFault}
use Rattle.values.specs.declared.kind.Kind.{Kind}
use Rattle.values.specs.declared.fault.ValueFault.{ValueFault}
use Rattle.values.specs.Kinds.{kind_of, value_fault, value_length}
use Rattle.schedule.specs.declared.faults.BadValue.{BadValue}
use Rattle.schedule.specs.declared.faults.StepFault.{StepFault}
use Rattle.schedule.specs.declared.faults.StepFault.TheVariants.{Number, UnknownCode, OutOfRange, Value}
use Rattle.schedule.specs.declared.headers.WiringKind.{WiringKind}
use Rattle.schedule.specs.declared.steps.Code.{Code}
use Rattle.schedule.specs.declared.steps.Code.TheVariants.{Write, Read, GiveUp, Turn, Deliver, Crash, Notice, Pick}
use Rattle.schedule.specs.Headers.{PlainHeader, servers_of, wiring_of}
use Rattle.schedule.specs.declared.steps.Step.{Step}
use Rattle.schedule.specs.Steps.{PlainStep, plain_step, code_under, write, read, give_up, turn, deliver, crash, notice, pick}

-- One part, and then the next from what is left; the first fault ends it.
abbrev pub and_then : {A B : Type 0} → Result (A × List ℕ) StepFault → (A → List ℕ → Result (B × List ℕ) StepFault) → Result (B × List ℕ) StepFault
and_then (Ok p) next = next p.0 p.1
and_then (Err fault) next = Err fault

-- A number's fault inside a step's.
abbrev pub in_number : {A : Type 0} → Result A NumberFault → Result A StepFault
in_number (Ok x) = Ok x
in_number (Err fault) = Err (Number fault)

-- A value's fault inside a step's.
abbrev pub in_value : {A : Type 0} → Result A BadValue → Result A StepFault
in_value (Ok x) = Ok x
in_value (Err bad) = Err (Value bad)

-- The number at the front of what is left.
abbrev pub number_of : ℕ → List ℕ → Result (ℕ × List ℕ) StepFault
number_of total bytes = in_number (number_in total bytes)

-- A value, or what is wrong with it; its place is that of its first byte.
abbrev pub value_or_fault : Option ValueFault → ℕ → ℕ → List ℕ → Result (List ℕ × List ℕ) BadValue
value_or_fault None place size bytes = Ok (take size bytes, drop size bytes)
value_or_fault (Some fault) place size bytes = Err (record { fault = fault; place = place })

-- The value of a kind at the front of what is left.
abbrev pub value_of : ℕ → Kind → List ℕ → Result (List ℕ × List ℕ) BadValue
value_of total kind bytes = value_or_fault (value_fault kind bytes) (place_of total bytes) (value_length kind) bytes

-- A number's meaning, if it has one.
abbrev pub in_range : {A : Type 0} → Option A → ℕ → List ℕ → Result (A × List ℕ) StepFault
in_range (Some x) place rest = Ok (x, rest)
in_range None place rest = Err (OutOfRange place)

-- A number of the header, whose meaning is looked up as soon as it is read.
abbrev pub header_number : {A : Type 0} → (ℕ → Option A) → ℕ → List ℕ → Result (A × List ℕ) StepFault
header_number meaning total bytes = and_then (number_of total bytes) (λ n rest. in_range (meaning n) (place_of total bytes) rest)

-- What a call that reads a number of the header answers and leaves, under whatever meaning its look-up always gives.
abbrev pub ReadsMeaning : {A : Type 0} → (ℕ → Option A → Type 0) → Result A StepFault → Cursor → Cursor → Type 0
ReadsMeaning {A = A} gives result before after =
    (meaning : ℕ → Option A) → ((n : ℕ) (found : Option A) → gives n found → found ≡ meaning n)
    → ReadsOn (λ (x : A). x) result (header_number meaning before.total (left before)) before after

-- The header: how many servers, the kind of value, the wiring and the first value.
abbrev pub header_of : ℕ → List ℕ → Result (PlainHeader × List ℕ) StepFault
header_of total bytes =
    and_then (header_number servers_of total bytes) (λ servers bytes₁.
    and_then (header_number kind_of total bytes₁) (λ kind bytes₂.
    and_then (header_number wiring_of total bytes₂) (λ wiring bytes₃.
    and_then (in_value (value_of total kind bytes₃)) (λ first rest.
    Ok (record { servers = servers; kind = kind; wiring = wiring; first = first }, rest)))))

-- A step of one number.
abbrev pub one_number : (ℕ → PlainStep) → ℕ → List ℕ → Result (PlainStep × List ℕ) StepFault
one_number step total bytes = and_then (number_of total bytes) (λ n rest. Ok (step n, rest))

-- A step of two numbers.
abbrev pub two_numbers : (ℕ → ℕ → PlainStep) → ℕ → List ℕ → Result (PlainStep × List ℕ) StepFault
two_numbers step total bytes = and_then (number_of total bytes) (λ m bytes₁. one_number (step m) total bytes₁)

-- A write: client, server and value.
abbrev pub write_of : ℕ → Kind → List ℕ → Result (PlainStep × List ℕ) StepFault
write_of total kind bytes =
    and_then (number_of total bytes) (λ client bytes₁.
    and_then (number_of total bytes₁) (λ server bytes₂.
    and_then (in_value (value_of total kind bytes₂)) (λ value rest.
    Ok (write client server value, rest))))

-- What follows a step's code.
abbrev pub body_of : ℕ → Kind → Code → List ℕ → Result (PlainStep × List ℕ) StepFault
body_of total kind Write bytes = write_of total kind bytes
body_of total kind Read bytes = two_numbers read total bytes
body_of total kind GiveUp bytes = one_number give_up total bytes
body_of total kind Turn bytes = one_number turn total bytes
body_of total kind Deliver bytes = one_number deliver total bytes
body_of total kind Crash bytes = one_number crash total bytes
body_of total kind Notice bytes = two_numbers notice total bytes
body_of total kind Pick bytes = one_number pick total bytes

-- A step, if its code is known; the place is that of the code.
abbrev pub coded_step : ℕ → Kind → ℕ → Option Code → List ℕ → Result (PlainStep × List ℕ) StepFault
coded_step total kind place (Some code) bytes = body_of total kind code bytes
coded_step total kind place None bytes = Err (UnknownCode place)

-- What the next step says, if there is one.
abbrev pub plain_next : Option Step → Option PlainStep
plain_next None = None
plain_next (Some step) = Some (plain_step step)

-- The next step; there is none where nothing is left.
abbrev pub step_of : ℕ → Kind → WiringKind → List ℕ → Result (Option PlainStep × List ℕ) StepFault
step_of total kind wiring [] = Ok (None, [])
step_of total kind wiring (b ∷ bs) =
    and_then (coded_step total kind (place_of total (b ∷ bs)) (code_under wiring b) bs) (λ step rest. Ok (Some step, rest))
