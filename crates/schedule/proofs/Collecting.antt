-- Collecting steps one by one gives the steps of all bytes: what was collected stands in front of the steps of what is left.
use Rattle.std.proofs.Common.{◌≡◌, ℕ, ◌+◌, List, [], ◌∷◌, ◌++◌, map, Some, None, Ok, Err, Option, sym, ap, ◌∙◌, append_assoc}
use Rattle.std.proofs.lemmas.List.{append-nil, map-append}
use Rattle.values.specs.declared.kind.Kind.{Kind}
use Rattle.schedule.specs.declared.faults.RunFault.{RunFault}
use Rattle.schedule.specs.declared.faults.RunFault.TheVariants as run
use Rattle.schedule.specs.declared.faults.StepFault.{StepFault}
use Rattle.schedule.specs.declared.headers.WiringKind.{WiringKind}
use Rattle.schedule.specs.declared.steps.Step.{Step}
use Rattle.schedule.specs.Faults.{numbered}
use Rattle.schedule.specs.Reading.{step_of}
use Rattle.schedule.specs.Steps.{PlainStep, plain_step}
use Rattle.schedule.specs.Whole.{StepsRead, steps_of}
use Rattle.schedule.proofs.StepsOf.{a_fault_ends_the_steps, no_step_more, one_step_more, step_before, steps_before}

-- Nothing behind the steps.
nothing_behind : (steps : List PlainStep) (fault : Option RunFault) → steps_before steps ([], fault) ≡ (steps, fault)
nothing_behind steps fault = ap (λ (ss : List PlainStep). (ss, fault)) (append-nil steps)

-- One step between the steps and others.
one_between : (steps : List PlainStep) (step : PlainStep) (more : StepsRead)
    → steps_before steps (step_before step more) ≡ steps_before (steps ++ (step ∷ [])) more
one_between steps step more = ap (λ (ss : List PlainStep). (ss, more.1)) (sym (append_assoc steps (step ∷ []) more.0))

-- At the end what was collected is all.
pub all_collected : (total : ℕ) (kind : Kind) (wiring : WiringKind) (number : ℕ) (all rest behind : List ℕ) (steps : List PlainStep)
    → steps_of total kind wiring 1 all ≡ steps_before steps (steps_of total kind wiring number rest)
    → step_of total kind wiring rest ≡ Ok (None, behind) → steps_of total kind wiring 1 all ≡ (steps, None)
all_collected total kind wiring number all rest behind steps so_far e =
    so_far ∙ (ap (steps_before steps) (no_step_more total kind wiring number rest behind e) ∙ nothing_behind steps None)

-- At a fault what was collected and the fault are all.
pub collected_up_to_a_fault : (total : ℕ) (kind : Kind) (wiring : WiringKind) (number : ℕ) (all rest : List ℕ) (steps : List PlainStep) (fault : StepFault)
    → steps_of total kind wiring 1 all ≡ steps_before steps (steps_of total kind wiring number rest)
    → step_of total kind wiring rest ≡ Err fault → steps_of total kind wiring 1 all ≡ (steps, Some (run.Step (numbered number fault)))
collected_up_to_a_fault total kind wiring number all rest steps fault so_far e =
    so_far ∙ (ap (steps_before steps) (a_fault_ends_the_steps total kind wiring number rest fault e) ∙ nothing_behind steps (Some (run.Step (numbered number fault))))

-- A step more is collected.
pub one_more_collected : (total : ℕ) (kind : Kind) (wiring : WiringKind) (number : ℕ) (all rest behind : List ℕ) (steps : List Step) (step : Step)
    → steps_of total kind wiring 1 all ≡ steps_before (map plain_step steps) (steps_of total kind wiring number rest)
    → step_of total kind wiring rest ≡ Ok (Some (plain_step step), behind)
    → steps_of total kind wiring 1 all ≡ steps_before (map plain_step (steps ++ (step ∷ []))) (steps_of total kind wiring (number + 1) behind)
one_more_collected total kind wiring number all rest behind steps step so_far e =
    so_far
    ∙ (ap (steps_before (map plain_step steps)) (one_step_more total kind wiring number rest (plain_step step) behind e)
    ∙ (one_between (map plain_step steps) (plain_step step) (steps_of total kind wiring (number + 1) behind)
    ∙ ap (λ (ss : List PlainStep). steps_before ss (steps_of total kind wiring (number + 1) behind)) (sym (map-append plain_step steps (step ∷ [])))))
