-- What a ring stands for, with what waits on its wiring and with its value rows, in the words of the rules.
use Rattle.std.specs.Prelude.{List}
use Rattle.messages.specs.Waiting.{Waiting}
use Rattle.model.specs.State.{State, Shelf}
use Rattle.sending.specs.View.{memory_state, memory_shelf}
use Rattle.ring.specs.declared.ring.Ring.{Ring}

-- the state of a ring and of what waits on its wiring
abbrev pub ring_state : Ring → Waiting → State
ring_state r w = memory_state r.memory w

module _ {V : Type 0} where
  -- the shelf of a ring, its wiring and its value rows; past their end the value is d, any value, and no rule looks there
  abbrev pub ring_shelf : V → Ring → Waiting → List V → Shelf V
  ring_shelf d r w values = memory_shelf d r.memory w values
