-- What the loop over steps keeps, and what falls: the bytes that are left.
use Rattle.std.proofs.Common.{◌≡◌, ◌+◌, ◌≤◌, map, length, vec_items, vec_len}
use Rattle.numbers.specs.Cursors.{left}
use Rattle.schedule.specs.Steps.{plain_step}
use Rattle.schedule.specs.Whole.{steps_of}
use Rattle.schedule.proofs.StepsOf.{steps_before}
use Rattle.schedule.proofs.whole.all_steps.Given as goal

-- The steps so far and those of what is left are the steps of all.
abbrev pub invariant-loop-step : goal.invariant-loop-step
invariant-loop-step l =
    (l.reader.cursor.total ≡ l.initial.reader.cursor.total)
    × (vec_len l.steps + length (left l.reader.cursor) ≤ length (left l.initial.reader.cursor))
    × (steps_of l.reader.cursor.total l.format.kind l.format.wiring 1 (left l.initial.reader.cursor)
    ≡ steps_before (map plain_step (vec_items l.steps)) (steps_of l.reader.cursor.total l.format.kind l.format.wiring (vec_len l.steps + 1) (left l.reader.cursor)))

abbrev pub decreases-loop-step : goal.decreases-loop-step
decreases-loop-step l = length (left l.reader.cursor)
