-- Every part that is read takes bytes away: a number and a step at least one. Each part of a row leaves at most what it found.
use Rattle.std.proofs.Common.{◌≡◌, ℕ, ◌<◌, ◌≤◌, Bool, true, false, cond, eqb, ltb, List, [], ◌∷◌, length, Some, None, Ok, Err, Option, Result, ap, arith}
use Rattle.std.proofs.lemmas.List.{length-drop}
use Rattle.numbers.specs.Numbers.{number_at, second_byte, third_byte}
use Rattle.numbers.specs.declared.faults.NumberFault.{NumberFault}
use Rattle.values.specs.declared.kind.Kind.{Kind}
use Rattle.values.specs.declared.fault.ValueFault.{ValueFault}
use Rattle.values.specs.Kinds.{kind_of, value_fault}
use Rattle.schedule.specs.declared.faults.BadValue.{BadValue}
use Rattle.schedule.specs.declared.faults.StepFault.{StepFault}
use Rattle.schedule.specs.declared.headers.WiringKind.{WiringKind}
use Rattle.schedule.specs.declared.steps.Code.{Code}
use Rattle.schedule.specs.declared.steps.Code.TheVariants.{Write, Read, GiveUp, Turn, Deliver, Crash, Notice, Pick}
use Rattle.schedule.specs.Reading.{and_then, body_of, coded_step, header_number, header_of, in_number, in_range, in_value, number_of, one_number, step_of, two_numbers, value_of, value_or_fault, write_of}
use Rattle.schedule.specs.Headers.{PlainHeader, servers_of, wiring_of}
use Rattle.schedule.specs.Whole.{header_numbered}
use Rattle.schedule.specs.Steps.{PlainStep, code_under, read, give_up, turn, deliver, crash, notice, pick}

-- What was read leaves at most so many bytes.
abbrev Leaves : {A E : Type 0} → Result (A × List ℕ) E → ℕ → Type 0
Leaves (Ok p) n = length p.1 ≤ n
Leaves (Err fault) n = Unit {0}

-- Whichever way a test comes out.
either_leaves : {A E : Type 0} (b : Bool) (x y : Result (A × List ℕ) E) (n : ℕ) → Leaves x n → Leaves y n → Leaves (cond b x y) n
either_leaves true x y n p q = p
either_leaves false x y n p q = q

-- A third byte leaves no more.
third_leaves : (place low : ℕ) (bs : List ℕ) → Leaves (third_byte place low bs) (length bs)
third_leaves place low [] = tt
third_leaves place low (b ∷ bs) = either_leaves (ltb b 128) _ _ _ (either_leaves (eqb b 0) _ _ _ tt (omega arith)) tt

-- What leaves at most so many leaves at most more.
leaves_at_most_more : {A E : Type 0} (r : Result (A × List ℕ) E) (m n : ℕ) → m ≤ n → Leaves r m → Leaves r n
leaves_at_most_more (Ok p) m n h l = omega arith
leaves_at_most_more (Err fault) m n h l = tt

-- A second byte leaves no more.
second_leaves : (place low : ℕ) (bs : List ℕ) → Leaves (second_byte place low bs) (length bs)
second_leaves place low [] = tt
second_leaves place low (b ∷ bs) =
    either_leaves (ltb b 128) _ _ _ (either_leaves (eqb b 0) _ _ _ tt (omega arith))
    (leaves_at_most_more (third_byte place _ bs) (length bs) _ (omega arith) (third_leaves place _ bs))

-- A number leaves no more.
number_leaves : (place : ℕ) (bs : List ℕ) → Leaves (number_at place bs) (length bs)
number_leaves place [] = tt
number_leaves place (b ∷ bs) =
    either_leaves (ltb b 128) _ _ _ (omega arith) (leaves_at_most_more (second_byte place _ bs) (length bs) _ (omega arith) (second_leaves place _ bs))

-- The same under the faults of steps.
in_number_leaves : {A : Type 0} (r : Result (A × List ℕ) NumberFault) (n : ℕ) → Leaves r n → Leaves (in_number r) n
in_number_leaves (Ok p) n l = l
in_number_leaves (Err fault) n l = tt

-- The same of a value under the faults of steps.
in_value_leaves : {A : Type 0} (r : Result (A × List ℕ) BadValue) (n : ℕ) → Leaves r n → Leaves (in_value r) n
in_value_leaves (Ok p) n l = l
in_value_leaves (Err fault) n l = tt

-- The same with the number of the step.
numbered_leaves : (r : Result (PlainHeader × List ℕ) StepFault) (n : ℕ) → Leaves r n → Leaves (header_numbered r) n
numbered_leaves (Ok p) n l = l
numbered_leaves (Err fault) n l = tt

-- One part and then the next.
row_leaves : {A B : Type 0} (r : Result (A × List ℕ) StepFault) (next : A → List ℕ → Result (B × List ℕ) StepFault) (n : ℕ)
    → Leaves r n → ((x : A) (rest : List ℕ) → Leaves (next x rest) (length rest)) → Leaves (and_then r next) n
row_leaves (Ok p) next n l each = leaves_at_most_more (next p.0 p.1) (length p.1) n l (each p.0 p.1)
row_leaves (Err fault) next n l each = tt

-- A number of a step leaves no more.
any_number_leaves : (total : ℕ) (bs : List ℕ) → Leaves (number_of total bs) (length bs)
any_number_leaves total bs = in_number_leaves _ _ (number_leaves _ bs)

-- A value that was checked leaves no more.
checked_value_leaves : (fault : Option ValueFault) (place size : ℕ) (bs : List ℕ) → Leaves (value_or_fault fault place size bs) (length bs)
checked_value_leaves None place size bs = omega (arith, length-drop size bs)
checked_value_leaves (Some fault) place size bs = tt

-- A value leaves no more.
value_leaves : (total : ℕ) (kind : Kind) (bs : List ℕ) → Leaves (in_value (value_of total kind bs)) (length bs)
value_leaves total kind bs = in_value_leaves _ _ (checked_value_leaves (value_fault kind bs) _ _ bs)

-- A step of one number leaves no more.
one_leaves : (step : ℕ → PlainStep) (total : ℕ) (bs : List ℕ) → Leaves (one_number step total bs) (length bs)
one_leaves step total bs = row_leaves (number_of total bs) _ _ (any_number_leaves total bs) (λ n rest. omega arith)

-- A step of two numbers leaves no more.
two_leaves : (step : ℕ → ℕ → PlainStep) (total : ℕ) (bs : List ℕ) → Leaves (two_numbers step total bs) (length bs)
two_leaves step total bs = row_leaves (number_of total bs) _ _ (any_number_leaves total bs) (λ m rest. one_leaves (step m) total rest)

-- A write leaves no more.
write_leaves : (total : ℕ) (kind : Kind) (bs : List ℕ) → Leaves (write_of total kind bs) (length bs)
write_leaves total kind bs =
    row_leaves (number_of total bs) _ _ (any_number_leaves total bs) (λ client bs₁.
    row_leaves (number_of total bs₁) _ _ (any_number_leaves total bs₁) (λ server bs₂.
    row_leaves (in_value (value_of total kind bs₂)) _ _ (value_leaves total kind bs₂) (λ value rest. omega arith)))

-- What follows a code leaves no more.
body_leaves : (total : ℕ) (kind : Kind) (code : Code) (bs : List ℕ) → Leaves (body_of total kind code bs) (length bs)
body_leaves total kind Write bs = write_leaves total kind bs
body_leaves total kind Read bs = two_leaves read total bs
body_leaves total kind GiveUp bs = one_leaves give_up total bs
body_leaves total kind Turn bs = one_leaves turn total bs
body_leaves total kind Deliver bs = one_leaves deliver total bs
body_leaves total kind Crash bs = one_leaves crash total bs
body_leaves total kind Notice bs = two_leaves notice total bs
body_leaves total kind Pick bs = one_leaves pick total bs

-- A step behind its code leaves no more.
coded_leaves : (total : ℕ) (kind : Kind) (place : ℕ) (code : Option Code) (bs : List ℕ) → Leaves (coded_step total kind place code bs) (length bs)
coded_leaves total kind place (Some code) bs = body_leaves total kind code bs
coded_leaves total kind place None bs = tt

-- A step leaves no more than what stands behind its code.
step_leaves : (total : ℕ) (kind : Kind) (wiring : WiringKind) (b : ℕ) (bs : List ℕ) → Leaves (step_of total kind wiring (b ∷ bs)) (length bs)
step_leaves total kind wiring b bs =
    row_leaves (coded_step total kind _ (code_under wiring b) bs) _ _ (coded_leaves total kind _ (code_under wiring b) bs) (λ step rest. omega arith)

-- What is left is at most so long.
from_leaves : {A E : Type 0} (r : Result (A × List ℕ) E) (x : A) (rest : List ℕ) (n : ℕ) → Leaves r n → r ≡ Ok (x, rest) → length rest ≤ n
from_leaves (Ok p) x rest n l e = let same : length p.1 ≡ length rest = cc in omega arith
from_leaves (Err fault) x rest n l e = let z : ◌≡◌ {A = ℕ} 0 1 = cc in absurd (omega arith)

-- A step takes a byte at least.
pub a_step_takes_a_byte : (total : ℕ) (kind : Kind) (wiring : WiringKind) (bs : List ℕ) (step : PlainStep) (rest : List ℕ)
    → step_of total kind wiring bs ≡ Ok (Some step, rest) → length rest < length bs
a_step_takes_a_byte total kind wiring [] step rest e =
    let both : ◌≡◌ {A = Option PlainStep × List ℕ} (None, []) (Some step, rest) = cc in
    let first = ap (λ (p : Option PlainStep × List ℕ). p.0) both in
    let z : ◌≡◌ {A = ℕ} 0 1 = cc in absurd (omega arith)
a_step_takes_a_byte total kind wiring (b ∷ bs) step rest e =
    let l = from_leaves (step_of total kind wiring (b ∷ bs)) (Some step) rest (length bs) (step_leaves total kind wiring b bs) e in omega arith

-- Looking up a meaning leaves all.
in_range_leaves : {A : Type 0} (meaning : Option A) (place : ℕ) (rest : List ℕ) → Leaves (in_range meaning place rest) (length rest)
in_range_leaves (Some x) place rest = omega arith
in_range_leaves None place rest = tt

-- A number of the header leaves no more.
header_number_leaves : {A : Type 0} (meaning : ℕ → Option A) (total : ℕ) (bs : List ℕ) → Leaves (header_number meaning total bs) (length bs)
header_number_leaves meaning total bs =
    row_leaves (number_of total bs) _ _ (any_number_leaves total bs) (λ n rest. in_range_leaves (meaning n) _ rest)

-- A header leaves no more.
header_leaves : (total : ℕ) (bs : List ℕ) → Leaves (header_of total bs) (length bs)
header_leaves total bs =
    row_leaves (header_number servers_of total bs) _ _ (header_number_leaves servers_of total bs) (λ servers bs₁.
    row_leaves (header_number kind_of total bs₁) _ _ (header_number_leaves kind_of total bs₁) (λ kind bs₂.
    row_leaves (header_number wiring_of total bs₂) _ _ (header_number_leaves wiring_of total bs₂) (λ wiring bs₃.
    row_leaves (in_value (value_of total kind bs₃)) _ _ (value_leaves total kind bs₃) (λ first rest. omega arith))))

-- A header leaves no more bytes than there were.
pub a_header_adds_no_bytes : (total : ℕ) (bs : List ℕ) (h : PlainHeader) (rest : List ℕ)
    → header_numbered (header_of total bs) ≡ Ok (h, rest) → length rest ≤ length bs
a_header_adds_no_bytes total bs h rest e =
    from_leaves (header_numbered (header_of total bs)) h rest (length bs) (numbered_leaves (header_of total bs) (length bs) (header_leaves total bs)) e
