-- Which message of a server a number picks.
use Rattle.std.specs.Prelude.{◌≡◌, ℕ, ◌%◌, Some, None, Option}
use Rattle.masks.specs.Listed.{rows_hold}
use Rattle.masks.specs.Table.{Masks}
use Rattle.messages.specs.declared.Message.{Message}
use Rattle.messages.specs.Phases.{phase_number}
use Rattle.pick_wiring.specs.Order.{masks_before}

-- of what waits for one server: the message before which, by row, then phase, exactly (number mod count) messages wait; none exactly where none waits
abbrev pub Picks : Masks → ℕ → Option Message → Type 0
Picks masks number None = rows_hold masks 256 ≡ 0
Picks masks number (Some m) = masks_before masks m.row.0 (phase_number m.phase) ≡ number % rows_hold masks 256
