-- The text so far and the lines still to come make the whole.
use Rattle.std.proofs.Common.{◌≡◌, ◌+◌, ◌++◌, map, drop, string_bytes}
use Rattle.schedule.specs.Steps.{plain_step}
use Rattle.listing.specs.Listing.{step_lines}
use Rattle.listing.proofs.whole.write_steps.Given as goal

abbrev pub invariant-loop-i : goal.invariant-loop-i
invariant-loop-i l =
    string_bytes l.text ++ step_lines l.kind (l.i + 1) (map plain_step (drop l.i l.steps))
    ≡ string_bytes l.initial.text ++ step_lines l.kind 1 (map plain_step l.steps)
