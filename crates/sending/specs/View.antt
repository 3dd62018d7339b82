-- What the ring's memory and its wiring stand for, and what a test for a refusal tells, in the words of the rules.
use Rattle.std.specs.Prelude.{List, length, Some, Ok, Err, Option, Result, slice_index_or}
use Rattle.messages.specs.Waiting.{Waiting}
use Rattle.journal.specs.declared.journal.Journal.{Journal}
use Rattle.journal.specs.View.{view}
use Rattle.fleet.specs.declared.fleet.Fleet.{Fleet}
use Rattle.fleet.specs.View.{servers}
use Rattle.model.specs.declared.Refusal.{Refusal}
use Rattle.model.specs.State.{State, Shelf}
use Rattle.sending.specs.declared.memory.Memory.{Memory}

-- the state of a ring, from its journal, its fleet and what waits on its wiring
abbrev pub state : Journal → Fleet → Waiting → State
state j f w = record { size = f.size; journal = view j; servers = servers f; waiting = w }

-- the same, from its memory
abbrev pub memory_state : Memory → Waiting → State
memory_state m w = state m.journal m.fleet w

-- refused for the reason that a test found, else for what comes after it
abbrev pub refused_or : Result (Unit {0}) Refusal → Option Refusal → Option Refusal
refused_or (Ok nothing) later = later
refused_or (Err reason) later = Some reason

module _ {V : Type 0} where
  -- the shelf: the ring and its value rows; past their end the value is d, any value, and no rule looks there
  abbrev pub shelf : V → Journal → Fleet → Waiting → List V → Shelf V
  shelf d j f w values = record { state = state j f w; rows = length values; values = λ k. slice_index_or values k d }

  -- the same, from its memory
  abbrev pub memory_shelf : V → Memory → Waiting → List V → Shelf V
  memory_shelf d m w values = shelf d m.journal m.fleet w values
