-- The bytes of a mark, and how it is printed.
use Rattle.std.specs.Prelude.{ℕ, ◌+◌, ◌*◌, ◌/◌, ◌%◌, ◌^◌, Bool, ◌&&◌, List, ◌∷◌, ◌++◌, length, codes, decimal, ◌==◌, nat_lt, slice_index}
use Rattle.values.specs.Kinds.{all_allowed, name_part}
use Rattle.values.specs.declared.mark.Mark.{Mark}

-- A mark's trace number is below 2^16 and its name six long, as its type has it, and each byte of the name is allowed.
abbrev pub mark_fits : Mark → Bool
mark_fits v = nat_lt v.trace (2 ^ 16) && (length v.name == 6 && all_allowed v.name)

-- Two bytes of trace number, the lowest first, and then the name.
abbrev pub mark_bytes : Mark → List ℕ
mark_bytes v = (v.trace % 256) ∷ (v.trace / 256 % 256) ∷ v.name

-- The mark that the first eight bytes make.
abbrev pub mark_value : List ℕ → Mark
mark_value bs = record { trace = slice_index bs 0 + slice_index bs 1 * 256; name = name_part bs }

-- A mark is printed as its trace number, a hyphen and its name, as `258-PSU04A`.
abbrev pub mark_text : Mark → List ℕ
mark_text v = decimal v.trace ++ (codes "-" ++ v.name)
