-- What a cursor has left to read, and what a call that reads leaves.
use Rattle.std.specs.Prelude.{◌≡◌, ℕ, ◌-◌, ◌<◌, ◌≤◌, List, [], ◌∷◌, length, take, drop, Some, None, Ok, Err, Option, Result}
use Rattle.std.specs.Borrow.{Bor}
use Rattle.numbers.specs.declared.cursor.Cursor.{Cursor}
use Rattle.numbers.specs.declared.faults.NumberFault.{NumberFault}
use Rattle.numbers.specs.declared.faults.NumberFault.TheVariants.{Cut}
use Rattle.numbers.specs.Numbers.{number_at}

-- The bytes that are left.
abbrev pub left : Cursor → List ℕ
left cursor = cursor.rest.now

-- The place of the first of the bytes that are left, counted from 0 in an input of `total` bytes.
abbrev pub place_of : ℕ → List ℕ → ℕ
place_of total bytes = total - length bytes

-- The number at the front of what is left of an input.
abbrev pub number_in : ℕ → List ℕ → Result (ℕ × List ℕ) NumberFault
number_in total bytes = number_at (place_of total bytes) bytes

-- What a call that reads one thing answers and leaves, by what the bytes read as. A refusal leaves the cursor where it was.
abbrev pub Reads : {A B E : Type 0} → (A → B) → Result A E → Result (B × List ℕ) E → Cursor → Cursor → Type 0
Reads plain (Ok value) meant before after = (meant ≡ Ok (plain value, left after)) × (after.total ≡ before.total)
Reads plain (Err fault) meant before after = (meant ≡ Err fault) × (left after ≡ left before) × (after.total ≡ before.total)

-- The same of a call on a cursor that is given up after a refusal, so nothing is said of it then.
abbrev pub ReadsOn : {A B E : Type 0} → (A → B) → Result A E → Result (B × List ℕ) E → Cursor → Cursor → Type 0
ReadsOn plain (Ok value) meant before after = (meant ≡ Ok (plain value, left after)) × (after.total ≡ before.total)
ReadsOn plain (Err fault) meant before after = meant ≡ Err fault

-- The next byte of a number that begins at the place.
abbrev pub group_of : ℕ → List ℕ → Result (ℕ × List ℕ) NumberFault
group_of place [] = Err (Cut place)
group_of place (b ∷ bs) = Ok (b, bs)

-- The next byte is taken, or there is none and the cursor stays.
abbrev pub TakesByte : Option ℕ → Cursor → Cursor → Type 0
TakesByte None before after = (left before ≡ []) × (left after ≡ []) × (after.total ≡ before.total)
TakesByte (Some byte) before after = (left before ≡ byte ∷ left after) × (after.total ≡ before.total)

-- So many bytes are taken from the front, or there are fewer and the cursor stays.
abbrev pub TakesBytes : ℕ → Option (Bor (List ℕ)) → Cursor → Cursor → Type 0
TakesBytes count None before after = (length (left before) < count) × (left after ≡ left before) × (after.total ≡ before.total)
TakesBytes count (Some bytes) before after =
    (count ≤ length (left before)) × (bytes.now ≡ take count (left before)) × (left after ≡ drop count (left before)) × (after.total ≡ before.total)
