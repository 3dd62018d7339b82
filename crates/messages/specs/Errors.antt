-- What is printed of a number that names no row, or no phase.
use Rattle.std.specs.Prelude.{ℕ, List, ◌++◌, codes, decimal}
use Rattle.messages.specs.declared.NoPlace.{NoPlace}
use Rattle.messages.specs.declared.NoPlace.TheVariants.{Row, Phase}

-- the number, and what it ought to be
abbrev pub no_place_text : NoPlace → List ℕ
no_place_text (Row number) = codes "row " ++ (decimal number ++ codes " is above 255")
no_place_text (Phase number) = codes "phase " ++ (decimal number ++ codes " is neither 1 nor 2")
