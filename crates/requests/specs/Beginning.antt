-- What write and read refuse alike.
use Rattle.std.specs.Prelude.{ℕ, Option, nat_le, nat_lt}
use Rattle.counting.specs.Below.{any}
use Rattle.model.specs.declared.Refusal.{Refusal}
use Rattle.model.specs.declared.Refusal.TheVariants.{NoClient, Busy, Full}
use Rattle.model.specs.State.{State, is_open_of}
use Rattle.model.specs.Refusals.{refuse, refuse_server}

-- no such client; no such server; crashed; the client has an open operation; all rows used; then what comes after
abbrev pub refuse_begin : State → ℕ → ℕ → Option Refusal → Option Refusal
refuse_begin s c p later = refuse (nat_lt 15 c) NoClient (refuse_server s p (refuse (any (is_open_of s.journal c) 256) Busy (refuse (nat_le 256 s.journal.used) Full later)))
