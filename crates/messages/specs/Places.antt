-- Rows and places by their numbers, and the order of places: by row, then phase.
use Rattle.std.specs.Prelude.{◌≡◌, ℕ, Bool, true, false, cond, ◌&&◌, ◌||◌, Some, None, Option, ◌==◌, nat_lt, Result, IfErr}
use Rattle.std.specs.Option.{ok_or}
use Rattle.std.specs.Result.{result_ok}
use Rattle.messages.specs.declared.NoPlace.{NoPlace}
use Rattle.messages.specs.declared.NoPlace.TheVariants as no_place
use Rattle.messages.specs.declared.Row.{Row}
use Rattle.messages.specs.declared.Place.{Place}
use Rattle.messages.specs.Phases.{phase_number}

-- the row of a number, none above 255
abbrev pub row_of : ℕ → Option Row
row_of number = cond (nat_lt number 256) (Some (record { 0 = number })) None

-- the row of a number, or the error with a number that no row has
abbrev pub RowNamed : ℕ → Result Row NoPlace → Type 0
RowNamed number r = r ≡ ok_or (row_of number) (no_place.Row number)

-- row 0 to 255 and phase 1 or 2
abbrev pub names_a_place : ℕ → ℕ → Bool
names_a_place row phase = nat_lt row 256 && (phase == 1 || phase == 2)

-- the place of two numbers: none exactly where they name none, else the one with these numbers
abbrev pub PlaceOf : ℕ → ℕ → Option Place → Type 0
PlaceOf row phase None = names_a_place row phase ≡ false
PlaceOf row phase (Some place) = (names_a_place row phase ≡ true) × (place.row.0 ≡ row) × (phase_number place.phase ≡ phase)

-- the place of two numbers, or the error with the number at fault, the row's where both are
abbrev pub PlaceNamed : ℕ → ℕ → Result Place NoPlace → Type 0
PlaceNamed row phase r = PlaceOf row phase (result_ok r) × IfErr r (λ e. e ≡ cond (nat_lt row 256) (no_place.Phase phase) (no_place.Row row))

-- one row and phase comes before another
abbrev pub before : ℕ → ℕ → ℕ → ℕ → Bool
before row phase row' phase' = cond (row == row') (nat_lt phase phase') (nat_lt row row')

-- a place comes before that of a row and phase
abbrev pub is_before : Place → ℕ → ℕ → Bool
is_before place row phase = before place.row.0 (phase_number place.phase) row phase

-- one place comes before another
abbrev pub place_below : Place → Place → Bool
place_below a b = is_before a b.row.0 (phase_number b.phase)
