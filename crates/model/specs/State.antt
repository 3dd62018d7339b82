-- The state of a shelf, as functions of rows (0 to 255) and servers (0 to 7), and the questions that the rules ask of it.
use Rattle.std.specs.Prelude.{ℕ, ◌+◌, ◌*◌, ◌/◌, ◌%◌, Bool, cond, not, ◌&&◌, ◌||◌, ◌==◌, nat_lt}
use Rattle.messages.specs.Waiting.{Waiting}
use Rattle.counting.specs.Below.{any, top}

-- f with v at i
abbrev pub set_at : {A : Type 0} → (ℕ → A) → ℕ → A → ℕ → A
set_at f i v j = cond (j == i) v (f j)

-- f with v at i and j
abbrev pub set_at2 : {A : Type 0} → (ℕ → ℕ → A) → ℕ → ℕ → A → ℕ → ℕ → A
set_at2 f i j v x y = cond (x == i && y == j) v (f x y)

-- A tag is a number and a server, kept here as one number. A server's number is a byte, so below 256: tags compare as numbers just as they do by number and then by server.
abbrev pub tag_of : ℕ → ℕ → ℕ
tag_of number server = number * 256 + server

-- the number in a tag
abbrev pub tag_number : ℕ → ℕ
tag_number t = t / 256

-- the server that a tag names
abbrev pub tag_server : ℕ → ℕ
tag_server t = t % 256

-- the journal: the operations, each in its row
pub record Journal : Type 0 where
  -- rows 0 to used - 1 are used
  pub used : ℕ
  -- the last mark given
  pub mark : ℕ
  -- whether the operation is a write, not a read
  pub is_write : ℕ → Bool
  -- who asked for it, and at which server
  pub client : ℕ → ℕ
  pub server : ℕ → ℕ
  -- the mark of its beginning
  pub begin_mark : ℕ → ℕ
  -- whether it is answered, and the mark of its answer
  pub answered : ℕ → Bool
  pub answer_mark : ℕ → ℕ
  -- whether its client gave it up
  pub given_up : ℕ → Bool
  -- the tag of a started write; 0, the tag (0, 0), of row 0 and of whatever is no started write
  pub tag : ℕ → ℕ
  -- the tag that a read waits for
  pub threshold : ℕ → ℕ
  -- the row that a read gave
  pub gave : ℕ → ℕ

-- what the servers keep, each its own
pub record Servers : Type 0 where
  -- whether it stands: it has not crashed
  pub standing : ℕ → Bool
  -- its held row
  pub held : ℕ → ℕ
  -- its returned tag
  pub returned : ℕ → ℕ
  -- the crashes that it has noticed
  pub noticed : ℕ → ℕ → Bool
  -- its turn counts, one for each server
  pub turn_count : ℕ → ℕ → ℕ
  -- of each row three masks: pending, pre-write to forward, write to forward; an empty mask, 0, means absent
  pub pending : ℕ → ℕ → ℕ
  pub forward_prewrite : ℕ → ℕ → ℕ
  pub forward_write : ℕ → ℕ → ℕ

-- the ring, and what waits on its wiring
pub record State : Type 0 where
  -- how many servers there are, 0 if the ring was never made
  pub size : ℕ
  pub journal : Journal
  pub servers : Servers
  pub waiting : Waiting

-- a shelf: the ring, its wiring and the value rows
pub record Shelf (V : Type 0) : Type 0 where
  pub state : State
  -- how many value rows there are, and what they hold
  pub rows : ℕ
  pub values : ℕ → V

-- the state with another journal
abbrev pub with_journal : State → Journal → State
with_journal s j = record { size = s.size; journal = j; servers = s.servers; waiting = s.waiting }

-- the state with the servers changed
abbrev pub with_servers : State → Servers → State
with_servers s v = record { size = s.size; journal = s.journal; servers = v; waiting = s.waiting }

-- the state with other messages waiting
abbrev pub with_waiting : State → Waiting → State
with_waiting s w = record { size = s.size; journal = s.journal; servers = s.servers; waiting = w }

-- the row is no started write: a message that names it is stray
abbrev pub is_stray : Journal → ℕ → Bool
is_stray j r = r == 0 || j.tag r == 0

-- the operation is open: neither answered nor given up
abbrev pub is_open : Journal → ℕ → Bool
is_open j r = nat_lt r j.used && (not (j.answered r) && not (j.given_up r))

-- it is open and of client c
abbrev pub is_open_of : Journal → ℕ → ℕ → Bool
is_open_of j c r = is_open j r && j.client r == c

-- a write is queued at server p, given up or not: it has no tag yet
abbrev pub is_queued : Journal → ℕ → ℕ → Bool
is_queued j p r = nat_lt r j.used && (j.is_write r && (not (j.answered r) && (j.tag r == 0 && j.server r == p)))

-- the row is pending at p
abbrev pub is_pending : Servers → ℕ → ℕ → Bool
is_pending v p r = nat_lt 0 (v.pending p r)

-- something is pending at p
abbrev pub some_pending : Servers → ℕ → Bool
some_pending v p = any (is_pending v p) 256

-- the highest pending tag at p, 0 if nothing is pending
abbrev pub highest_pending : State → ℕ → ℕ
highest_pending s p = top (is_pending s.servers p) s.journal.tag 256

-- the row's tag is above that of the row that p holds
abbrev pub is_news : State → ℕ → ℕ → Bool
is_news s p r = nat_lt (s.journal.tag (s.servers.held p)) (s.journal.tag r)
