-- The loop over steps collects the steps of all bytes: each turn moves one step from what is left to what was collected.
use Rattle.std.proofs.Common.{rules, ◌≡◌, ℕ, ◌<◌, List, length, Option, Some, None, Ok, Result, ap, ◌∙◌}
use Rattle.numbers.specs.Cursors.{left}
use Rattle.schedule.proofs.Collecting.{all_collected, collected_up_to_a_fault, one_more_collected}
use Rattle.schedule.proofs.Shrinking.{a_step_takes_a_byte}
use Rattle.schedule.specs.declared.faults.StepFault.{StepFault}
use Rattle.schedule.specs.declared.steps.Step.{Step}
use Rattle.schedule.specs.Reading.{plain_next, step_of}
use Rattle.schedule.specs.Steps.{PlainStep, plain_step}
use Rattle.schedule.proofs.whole.all_steps.Goals as goal

-- What a call that found the next step, or none, says of the bytes.
answered : {rest : List ℕ} {found : Result (Option PlainStep × List ℕ) StepFault} (next known : Option Step)
    → found ≡ Ok (plain_next next, rest) → next ≡ known → found ≡ Ok (plain_next known, rest)
answered {rest = rest} next known e is = e ∙ ap (λ (o : Option Step). Ok (plain_next o, rest)) is

-- What the step that was read says of the bytes.
read_one : (c : goal.In_ok-push-in-Ok-Some)
    → step_of c.loop-step.reader.cursor.total c.args.format.kind c.args.format.wiring (left c.loop-step.reader.cursor)
    ≡ Ok (Some (plain_step c.in-Ok-Some.step), left c.step.new.self.cursor)
read_one c = answered c.in-Ok-Some.field-0 (Some c.in-Ok-Some.step) c.in-Ok-Some.ensures.0 c.in-Ok-Some.field-0-is

-- It took a byte at least.
fewer_left : (c : goal.In_ok-push-in-Ok-Some) → length (left c.step.new.self.cursor) < length (left c.loop-step.reader.cursor)
fewer_left c = a_step_takes_a_byte _ _ _ _ _ _ (read_one c)

pub loop-step-smaller : goal.loop-step-smaller
loop-step-smaller c = fewer_left c

pub loop-step-preserved : goal.loop-step-preserved
loop-step-preserved c =
    let fewer = fewer_left c in
    let more = one_more_collected _ _ _ _ _ _ _ _ _ c.loop-step.invariant.2 (read_one c) in
    search (rules, fewer, more)

pub returns-in-Ok-None : goal.returns-in-Ok-None
returns-in-Ok-None c =
    let all = all_collected _ _ _ _ _ _ _ _ c.loop-step.invariant.2 (answered c.in-Ok-None.field-0 None c.in-Ok-None.ensures.0 c.in-Ok-None.field-0-is) in
    search (rules, all)

pub returns-in-Err : goal.returns-in-Err
returns-in-Err c =
    let all = collected_up_to_a_fault _ _ _ _ _ _ _ _ c.loop-step.invariant.2 c.in-Err.ensures.0 in
    search (rules, all)
