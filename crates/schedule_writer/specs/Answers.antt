-- What writing answers.
use Rattle.std.specs.Prelude.{ℕ, Bool, true, false, cond, Ok, Err, Result, nat_le}
use Rattle.numbers.specs.declared.faults.WriteRefusal.{WriteRefusal}
use Rattle.numbers.specs.declared.faults.WriteRefusal.TheVariants.{NotWritable, NoRoom}

-- How many bytes what may be written takes.
abbrev pub sized : Bool → ℕ → Result ℕ WriteRefusal
sized true size = Ok size
sized false size = Err NotWritable

-- A size, if there is room for it.
abbrev pub fitted_answer : Result ℕ WriteRefusal → ℕ → Result ℕ WriteRefusal
fitted_answer (Ok size) room = cond (nat_le size room) (Ok size) (Err NoRoom)
fitted_answer (Err refusal) room = Err refusal

-- What writing answers: the size, or that it may not be written, or else that there is less room.
abbrev pub write_answer : Bool → ℕ → ℕ → Result ℕ WriteRefusal
write_answer writable size room = fitted_answer (sized writable size) room
