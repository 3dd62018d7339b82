-- The bytes of a level, and how it is printed.
use Rattle.std.specs.Prelude.{ℕ, ◌+◌, ◌*◌, ◌/◌, ◌%◌, ◌^◌, Bool, List, [], ◌∷◌, decimal, nat_lt, slice_index}
use Rattle.values.specs.declared.level.Level.{Level}

-- A level is below 2^32, as each of its type is.
abbrev pub level_fits : Level → Bool
level_fits v = nat_lt v.height (2 ^ 32)

-- Four bytes, the lowest first.
abbrev pub level_bytes : Level → List ℕ
level_bytes v = (v.height % 256) ∷ (v.height / 256 % 256) ∷ (v.height / 65536 % 256) ∷ (v.height / 16777216 % 256) ∷ []

-- The level that the first four bytes make.
abbrev pub level_value : List ℕ → Level
level_value bs = record { height = slice_index bs 0 + slice_index bs 1 * 256 + slice_index bs 2 * 65536 + slice_index bs 3 * 16777216 }

-- A level is printed in decimal, as `7`.
abbrev pub level_text : Level → List ℕ
level_text v = decimal v.height
