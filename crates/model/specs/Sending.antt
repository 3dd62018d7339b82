-- Sending: the next server, and what a message that is sent leaves on the wiring.
use Rattle.std.specs.Prelude.{ℕ, zero, suc, Bool, cond, ◌&&◌}
use Rattle.messages.specs.Waiting.{Waiting, is_at, joined_at, taken_out}
use Rattle.servers.specs.Sets.{join}
use Rattle.circle.specs.Circle.{next}
use Rattle.model.specs.State.{State, with_waiting}

-- the next of p: the first server after p that p has not noticed as crashed, or p itself if there is none
abbrev pub next_of : State → ℕ → ℕ
next_of s p = next s.size (s.servers.noticed p) p

-- if q stands, a message of row r is put to wait for q, joining one of its row and phase; else it is lost.
-- This is what `put` of a wiring does (`put_in`) at a place where messages can wait: lemma put_where_a_message_can_wait in proofs/Posting.
abbrev pub posted_if : Bool → State → ℕ → ℕ → ℕ → ℕ → State
posted_if stands s q r phase mask = with_waiting s (λ x k f. cond (stands && is_at q r phase x k f) (join (s.waiting x k f) mask) (s.waiting x k f))

-- messages of rows 0 to n - 1, with these masks, are put to wait for q one after the other
unfoldable pub rows_joined : Waiting → ℕ → ℕ → (ℕ → ℕ) → ℕ → Waiting
rows_joined w q phase masks zero = w
rows_joined w q phase masks (suc n) = joined_at (rows_joined w q phase masks n) q n phase (masks n)

-- a message of row r is put to wait for q, and is lost if q has crashed
abbrev pub posted : State → ℕ → ℕ → ℕ → ℕ → State
posted s q r phase mask = posted_if (s.servers.standing q) s q r phase mask

-- p sends a message to its next
abbrev pub sent : State → ℕ → ℕ → ℕ → ℕ → State
sent s p r phase mask = posted s (next_of s p) r phase mask

-- the message of row r that waits for p has left the wiring
abbrev pub gone : State → ℕ → ℕ → ℕ → State
gone s p r phase = with_waiting s (taken_out s.waiting p r phase)
