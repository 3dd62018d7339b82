-- How the steps of bytes go on: none where nothing is left, one more behind a step, and the fault. More turns than bytes change nothing.
use Rattle.std.proofs.Common.{◌≡◌, ℕ, zero, suc, ◌+◌, ◌≤◌, List, [], ◌∷◌, ◌++◌, length, Some, None, Ok, Err, Option, Result, refl, ap, ◌∙◌, arith}
use Rattle.values.specs.declared.kind.Kind.{Kind}
use Rattle.schedule.specs.declared.faults.StepFault.{StepFault}
use Rattle.schedule.specs.declared.faults.RunFault.TheVariants.{Step}
use Rattle.schedule.specs.declared.headers.WiringKind.{WiringKind}
use Rattle.schedule.specs.Faults.{numbered}
use Rattle.schedule.specs.Reading.{step_of}
use Rattle.schedule.specs.Steps.{PlainStep}
use Rattle.schedule.specs.Whole.{StepsRead, step_then, steps_of, steps_within}
use Rattle.schedule.proofs.Shrinking.{a_step_takes_a_byte}

-- One step in front of others.
abbrev pub step_before : PlainStep → StepsRead → StepsRead
step_before step more = (step ∷ more.0, more.1)

-- Steps in front of others.
abbrev pub steps_before : List PlainStep → StepsRead → StepsRead
steps_before steps more = (steps ++ more.0, more.1)

-- Only what follows a step that was read matters.
same_behind : (r : Result (Option PlainStep × List ℕ) StepFault) (number : ℕ) (f g : List ℕ → StepsRead)
    → ((step : PlainStep) (rest : List ℕ) → r ≡ Ok (Some step, rest) → f rest ≡ g rest) → step_then r number f ≡ step_then r number g
same_behind (Ok (None, rest)) number f g same = refl
same_behind (Ok (Some step, rest)) number f g same = ap (step_before step) (same step rest refl)
same_behind (Err fault) number f g same = refl

-- Any two counts of turns that are enough give the same steps.
enough_turns : (j k total : ℕ) (kind : Kind) (wiring : WiringKind) (number : ℕ) (bs : List ℕ) → length bs ≤ j → length bs ≤ k
    → steps_within j total kind wiring number bs ≡ steps_within k total kind wiring number bs
unfolding steps_within
enough_turns zero zero total kind wiring number bs h l = refl
enough_turns zero (suc k) total kind wiring number [] h l = refl
enough_turns zero (suc k) total kind wiring number (b ∷ bs) h l = absurd (omega arith)
enough_turns (suc j) zero total kind wiring number [] h l = refl
enough_turns (suc j) zero total kind wiring number (b ∷ bs) h l = absurd (omega arith)
enough_turns (suc j) (suc k) total kind wiring number bs h l =
    same_behind (step_of total kind wiring bs) number (steps_within j total kind wiring (number + 1)) (steps_within k total kind wiring (number + 1))
    (λ step rest e.
    let fewer = a_step_takes_a_byte total kind wiring bs step rest e in
    enough_turns j k total kind wiring (number + 1) rest (omega arith) (omega arith))

-- One turn of reading.
one_turn : (total : ℕ) (kind : Kind) (wiring : WiringKind) (number : ℕ) (bs : List ℕ)
    → steps_of total kind wiring number bs ≡ step_then (step_of total kind wiring bs) number (steps_of total kind wiring (number + 1))
unfolding steps_of steps_within
one_turn total kind wiring number [] = refl
one_turn total kind wiring number (b ∷ bs) =
    same_behind (step_of total kind wiring (b ∷ bs)) number (steps_within (length bs) total kind wiring (number + 1)) (steps_of total kind wiring (number + 1))
    (λ step rest e.
    let fewer = a_step_takes_a_byte total kind wiring (b ∷ bs) step rest e in
    enough_turns (length bs) (length rest) total kind wiring (number + 1) rest (omega arith) (omega arith))

-- At the end there are no steps.
pub no_step_more : (total : ℕ) (kind : Kind) (wiring : WiringKind) (number : ℕ) (bs rest : List ℕ)
    → step_of total kind wiring bs ≡ Ok (None, rest) → steps_of total kind wiring number bs ≡ ([], None)
no_step_more total kind wiring number bs rest e =
    one_turn total kind wiring number bs
    ∙ ap (λ (r : Result (Option PlainStep × List ℕ) StepFault). step_then r number (steps_of total kind wiring (number + 1))) e

-- Behind a step come the steps of what is left.
pub one_step_more : (total : ℕ) (kind : Kind) (wiring : WiringKind) (number : ℕ) (bs : List ℕ) (step : PlainStep) (rest : List ℕ)
    → step_of total kind wiring bs ≡ Ok (Some step, rest)
    → steps_of total kind wiring number bs ≡ step_before step (steps_of total kind wiring (number + 1) rest)
one_step_more total kind wiring number bs step rest e =
    one_turn total kind wiring number bs
    ∙ ap (λ (r : Result (Option PlainStep × List ℕ) StepFault). step_then r number (steps_of total kind wiring (number + 1))) e

-- A fault ends the steps.
pub a_fault_ends_the_steps : (total : ℕ) (kind : Kind) (wiring : WiringKind) (number : ℕ) (bs : List ℕ) (fault : StepFault)
    → step_of total kind wiring bs ≡ Err fault → steps_of total kind wiring number bs ≡ ([], Some (Step (numbered number fault)))
a_fault_ends_the_steps total kind wiring number bs fault e =
    one_turn total kind wiring number bs
    ∙ ap (λ (r : Result (Option PlainStep × List ℕ) StepFault). step_then r number (steps_of total kind wiring (number + 1))) e
