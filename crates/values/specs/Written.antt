-- What reading and writing a value answer, and what a buffer holds afterwards.
use Rattle.std.specs.Prelude.{ℕ, Bool, cond, List, ◌++◌, length, drop, Some, None, Ok, Err, Option, Result, nat_le}
use Rattle.values.specs.declared.fault.ValueFault.{ValueFault}
use Rattle.values.specs.declared.fault.Unwritten.{Unwritten}
use Rattle.values.specs.declared.fault.Unwritten.TheVariants.{NotAllowed, Short}

-- Reading answers the value, or what is wrong with its bytes.
abbrev pub read_as : {V : Type 0} → Option ValueFault → V → Result V ValueFault
read_as None v = Ok v
read_as (Some f) v = Err f

-- Writing is refused where the value does not fit its kind, and then where the room is less than the need.
abbrev pub write_answer : Bool → ℕ → ℕ → Result (Unit {0}) Unwritten
write_answer fits need room = cond fits (cond (nat_le need room) (Ok tt) (Err Short)) (Err NotAllowed)

-- What holds after a call: the new where it was accepted, the old where it was refused.
abbrev pub kept_unless : {A E X : Type 0} → Result A E → X → X → X
kept_unless (Ok a) new old = new
kept_unless (Err e) new old = old

-- Bytes at the front of a buffer, and behind them what stood there.
abbrev pub over : List ℕ → List ℕ → List ℕ
over bs buffer = bs ++ drop (length bs) buffer
