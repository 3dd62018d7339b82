-- What it means that a list names the places where messages wait, and how many there are.
use Rattle.std.specs.Prelude.{◌≡◌, ℕ, ◌+◌, Bool, cond, ◌&&◌, List, [], ◌∷◌, Some, None, Option, ◌==◌}
use Rattle.counting.specs.Below.{sum}
use Rattle.messages.specs.declared.Phase.TheVariants.{PreWrite}
use Rattle.messages.specs.declared.Place.{Place}
use Rattle.messages.specs.Phases.{phase_number}
use Rattle.messages.specs.Waiting.{entry}
use Rattle.masks.specs.Table.{Masks}

-- what fills a list of places behind its last one
abbrev pub no_place : Place
no_place = record { row = record { 0 = 0 }; phase = PreWrite }

-- the place has this row and phase number
abbrev pub is_named : Place → ℕ → ℕ → Bool
is_named place row phase = place.row.0 == row && phase_number place.phase == phase

-- how often the place of a row and phase stands in a list
abbrev pub times : List Place → ℕ → ℕ → ℕ
times [] row phase = 0
times (x ∷ xs) row phase = cond (is_named x row phase) 1 0 + times xs row phase

-- each place whose mask is not empty stands in the list once, and no other place does
abbrev pub Names : List Place → Masks → Type 0
Names places masks = (row phase : ℕ) → times places row phase ≡ entry (masks row phase)

-- how many messages wait in the rows below n
abbrev pub rows_hold : Masks → ℕ → ℕ
rows_hold masks n = sum (λ row. entry (masks row 1) + entry (masks row 2)) n

-- one place less
abbrev pub Without : List Place → Place → List Place → Type 0
Without xs x ys = (row phase : ℕ) → times xs row phase ≡ cond (is_named x row phase) 1 0 + times ys row phase

-- one place of a list goes out; none does exactly where there is none
abbrev pub Leaves : List Place → Option Place → List Place → Type 0
Leaves xs None ys = (xs ≡ []) × (ys ≡ xs)
Leaves xs (Some x) ys = Without xs x ys
