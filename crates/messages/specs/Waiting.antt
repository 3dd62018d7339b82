-- What waits on a wiring, and what putting, taking, counting and clearing do to it.
use Rattle.std.specs.Prelude.{◌≡◌, ℕ, ◌+◌, ◌<◌, Bool, cond, ◌&&◌, ◌||◌, Some, None, Option, ◌==◌, nat_lt}
use Rattle.counting.specs.Below.{sum}
use Rattle.servers.specs.Sets.{join}
use Rattle.messages.specs.declared.Message.{Message}
use Rattle.messages.specs.Phases.{phase_number}

-- for each server, row and phase number the mask of the message that waits, 0 where none does
abbrev pub Waiting : Type 0
Waiting = ℕ → ℕ → ℕ → ℕ

-- a new wiring holds nothing
abbrev pub nothing : Waiting
nothing server row phase = 0

-- the place of one row and phase at one server
abbrev pub is_at : ℕ → ℕ → ℕ → ℕ → ℕ → ℕ → Bool
is_at server row phase x k f = x == server && (k == row && f == phase)

-- a message can wait there: server 0 to 7, row 0 to 255, phase 1 or 2
abbrev pub is_place : ℕ → ℕ → ℕ → Bool
is_place server row phase = nat_lt server 8 && (nat_lt row 256 && (phase == 1 || phase == 2))

-- the mask joins what waits at one place; every other place stays
abbrev pub joined_at : Waiting → ℕ → ℕ → ℕ → ℕ → Waiting
joined_at w server row phase mask x k f = cond (is_at server row phase x k f) (join (w x k f) mask) (w x k f)

-- put: the message waits, joined with one of its row and phase; where no message can wait nothing is put, and an empty mask adds nothing
abbrev pub put_in : Waiting → ℕ → ℕ → ℕ → ℕ → Waiting
put_in w server row phase mask x k f = cond (is_place server row phase && is_at server row phase x k f) (join (w x k f) mask) (w x k f)

-- the message of one row and phase leaves
abbrev pub taken_out : Waiting → ℕ → ℕ → ℕ → Waiting
taken_out w server row phase x k f = cond (is_at server row phase x k f) 0 (w x k f)

-- clear: nothing waits for the server any more
abbrev pub cleared : Waiting → ℕ → Waiting
cleared w server x k f = cond (x == server) 0 (w x k f)

-- nothing waits for the server
abbrev pub NothingWaits : Waiting → ℕ → Type 0
NothingWaits w server = (row phase : ℕ) → w server row phase ≡ 0

-- the message waits for the server, with the whole of its mask
pub record Waits (w : Waiting) (server : ℕ) (m : Message) : Type 0 where
  pub some : 0 < m.mask.bits
  pub whole : m.mask.bits ≡ w server m.row.0 (phase_number m.phase)

-- take: none exactly where none waits; else a message that waits, the wiring's choice, and it alone leaves
abbrev pub Taken : Waiting → ℕ → Option Message → Waiting → Type 0
Taken w server None after = NothingWaits w server × (after ≡ w)
Taken w server (Some m) after = Waits w server m × (after ≡ taken_out w server m.row.0 (phase_number m.phase))

-- 1 of a mask that is not empty
abbrev pub entry : ℕ → ℕ
entry mask = cond (nat_lt 0 mask) 1 0

-- count: how many messages wait for the server, by row and phase
abbrev pub waiting_count : Waiting → ℕ → ℕ
waiting_count w server = sum (λ row. entry (w server row 1) + entry (w server row 2)) 256
