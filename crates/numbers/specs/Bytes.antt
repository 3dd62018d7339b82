-- Lists of bytes.
use Rattle.std.specs.Prelude.{ℕ, ◌<◌, List, slice_index}

-- Every element is a byte.
abbrev pub AllBytes : List ℕ → Type 0
AllBytes bs = (k : ℕ) → slice_index bs k < 256
