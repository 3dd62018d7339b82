-- The numbers of the phases.
use Rattle.std.specs.Prelude.{◌≡◌, ℕ, cond, Some, None, Option, ◌==◌, Result}
use Rattle.std.specs.Option.{ok_or}
use Rattle.messages.specs.declared.NoPlace.{NoPlace}
use Rattle.messages.specs.declared.NoPlace.TheVariants as no_place
use Rattle.messages.specs.declared.Phase.{Phase}
use Rattle.messages.specs.declared.Phase.TheVariants.{PreWrite, Write}

-- 1 pre-write, 2 write
abbrev pub phase_number : Phase → ℕ
phase_number PreWrite = 1
phase_number Write = 2

-- the phase of a number, none of any other than 1 and 2
abbrev pub phase_of : ℕ → Option Phase
phase_of number = cond (number == 1) (Some PreWrite) (cond (number == 2) (Some Write) None)

-- the phase of a number, or the error with a number that no phase has
abbrev pub PhaseNamed : ℕ → Result Phase NoPlace → Type 0
PhaseNamed number r = r ≡ ok_or (phase_of number) (no_place.Phase number)
