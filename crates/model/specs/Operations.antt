-- Make, write, read and give up.
use Rattle.std.specs.Prelude.{ℕ, Bool, true, false, not, ◌&&◌, Some, None, Option, ◌==◌, nat_le, nat_lt}
use Rattle.messages.specs.Waiting.{Waiting}
use Rattle.counting.specs.Below.{any, least}
use Rattle.model.specs.declared.Refusal.{Refusal}
use Rattle.model.specs.declared.Refusal.TheVariants.{BadSize, NoClient, Busy, Full, WrongRowCount, NothingOpen}
use Rattle.model.specs.declared.Outcome.{Outcome}
use Rattle.model.specs.declared.Outcome.TheVariants.{Row, Done}
use Rattle.model.specs.State.{set_at, Journal, State, Shelf, with_journal, is_open_of, some_pending, highest_pending}
use Rattle.model.specs.JournalChanges.{new_journal, journal_begun, journal_answered, journal_given_up}
use Rattle.model.specs.ServerChanges.{new_servers}
use Rattle.model.specs.Refusals.{refuse, refuse_server, unless_found, Told}

-- MAKE

-- not 2 to 8 servers; not 256 value rows
abbrev pub refuse_make : ℕ → ℕ → Option Refusal
refuse_make rows n = refuse (not (nat_le 2 n && nat_le n 8)) BadSize (refuse (not (rows == 256)) WrongRowCount None)

-- a new ring of n servers; the wiring is left as it is
abbrev pub made : ℕ → Waiting → State
made n w = record { size = n; journal = new_journal; servers = new_servers n; waiting = w }

-- OPERATIONS BEGIN AND ARE ANSWERED

-- an operation by client c at server p begins
abbrev pub begun : State → Bool → ℕ → ℕ → ℕ → State
begun s write c p t = with_journal s (journal_begun s.journal write c p t)

-- the operations that are due are answered; a read gives row r
abbrev pub answered : State → (ℕ → Bool) → ℕ → State
answered s due r = with_journal s (journal_answered s.journal due r)

-- WRITE

-- no such client; no such server; crashed; the client has an open operation; all rows used; not 256 value rows
abbrev pub refuse_write : State → ℕ → ℕ → ℕ → Option Refusal
refuse_write s rows c p =
    refuse (nat_lt 15 c) NoClient (refuse_server s p (refuse (any (is_open_of s.journal c) 256) Busy (refuse (nat_le 256 s.journal.used) Full (refuse (not (rows == 256)) WrongRowCount None))))

-- the write is queued
abbrev pub wrote : State → ℕ → ℕ → State
wrote s c p = begun s true c p 0

-- READ

-- as for a write, but for the value rows: nothing is stored
abbrev pub refuse_read : State → ℕ → ℕ → Option Refusal
refuse_read s c p = refuse (nat_lt 15 c) NoClient (refuse_server s p (refuse (any (is_open_of s.journal c) 256) Busy (refuse (nat_le 256 s.journal.used) Full None)))

-- the read waits for the highest pending tag
abbrev pub asked : State → ℕ → ℕ → State
asked s c p = begun s false c p (highest_pending s p)

-- it is answered straight away with the held row if nothing is pending
abbrev pub read : State → ℕ → ℕ → State
read s c p = answered (asked s c p) (λ k. (k == s.journal.used) && not (some_pending s.servers p)) (s.servers.held p)

-- read: it gives its row
abbrev pub ReadStep : State → ℕ → ℕ → Outcome → State → Type 0
ReadStep s c p = Told (refuse_read s c p) s (Row s.journal.used) (read s c p)

-- GIVE UP

-- the open row of client c
abbrev pub open_row : Journal → ℕ → Option ℕ
open_row j c = least (is_open_of j c) (λ k. k) 256

-- no such client; no open operation
abbrev pub refuse_give_up : State → ℕ → Option Refusal
refuse_give_up s c = refuse (nat_lt 15 c) NoClient (unless_found NothingOpen (open_row s.journal c))

-- row r is given up
abbrev pub given_up : State → ℕ → State
given_up s r = with_journal s (journal_given_up s.journal r)

-- the row that was found is given up
abbrev pub gives_up : State → Option ℕ → State
gives_up s None = s
gives_up s (Some r) = given_up s r

-- give up: the client's open operation ends without an answer
abbrev pub GiveUpStep : State → ℕ → Outcome → State → Type 0
GiveUpStep s c = Told (refuse_give_up s c) s Done (gives_up s (open_row s.journal c))

module _ {V : Type 0} where
  -- make stores the first value in value row 0
  abbrev pub makes : Shelf V → ℕ → V → Shelf V
  makes s n first = record { state = made n s.state.waiting; rows = s.rows; values = set_at s.values 0 first }

  -- make: a new ring, with the first value stored
  abbrev pub MakeStep : Shelf V → ℕ → V → Outcome → Shelf V → Type 0
  MakeStep s n first = Told (refuse_make s.rows n) s Done (makes s n first)

  -- a write stores its value in the new row
  abbrev pub writes : Shelf V → ℕ → ℕ → V → Shelf V
  writes s c p v = record { state = wrote s.state c p; rows = s.rows; values = set_at s.values s.state.journal.used v }

  -- write: it gives its row
  abbrev pub WriteStep : Shelf V → ℕ → ℕ → V → Outcome → Shelf V → Type 0
  WriteStep s c p v = Told (refuse_write s.state s.rows c p) s (Row s.state.journal.used) (writes s c p v)
