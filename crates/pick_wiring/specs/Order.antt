-- How many messages or places come before one, in the order by row, then phase.
use Rattle.std.specs.Prelude.{ℕ, ◌+◌, cond, List, [], ◌∷◌, ◌==◌}
use Rattle.masks.specs.Listed.{rows_hold}
use Rattle.masks.specs.Table.{Masks}
use Rattle.messages.specs.declared.Place.{Place}
use Rattle.messages.specs.Places.{is_before}
use Rattle.messages.specs.Waiting.{entry}

-- how many places of a list come before that of a row and phase
abbrev pub places_before : List Place → ℕ → ℕ → ℕ
places_before [] row phase = 0
places_before (x ∷ xs) row phase = cond (is_before x row phase) 1 0 + places_before xs row phase

-- how many messages wait before a row and phase: those of the rows before it, and for a write the pre-write of its own row
abbrev pub masks_before : Masks → ℕ → ℕ → ℕ
masks_before masks row phase = rows_hold masks row + cond (phase == 2) (entry (masks row 1)) 0
