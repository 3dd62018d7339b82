-- What waits once the pre-writes of pending rows were put.
use Rattle.std.specs.Prelude.{ℕ, cond, ◌&&◌, ◌==◌, nat_lt}
use Rattle.messages.specs.Waiting.{Waiting}
use Rattle.messages.specs.declared.Phase.TheVariants.{PreWrite}
use Rattle.messages.specs.Phases.{phase_number}
use Rattle.servers.specs.Sets.{join}

-- of each row below the bound the pending mask has joined the pre-write that waits for q
abbrev pub pending_put : (ℕ → ℕ) → ℕ → ℕ → Waiting → Waiting
pending_put pending q bound w x k f = cond (x == q && (f == phase_number PreWrite && nat_lt k bound)) (join (w x k f) (pending k)) (w x k f)
