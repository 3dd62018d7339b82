-- Taking a row, and deliver.
use Rattle.std.specs.Prelude.{◌≡◌, ℕ, Bool, cond, not, ◌&&◌, ◌⊎◌, Some, None, Option, ◌==◌, nat_le, nat_lt}
use Rattle.messages.specs.declared.Message.{Message}
use Rattle.messages.specs.declared.Phase.TheVariants.{PreWrite, Write}
use Rattle.messages.specs.Phases.{phase_number}
use Rattle.messages.specs.Waiting.{NothingWaits, Waits}
use Rattle.servers.specs.Sets.{one}
use Rattle.circle.specs.Circle.{stands_in, covers}
use Rattle.model.specs.declared.Refusal.{Refusal}
use Rattle.model.specs.declared.Refusal.TheVariants.{NoMessage, Stray}
use Rattle.model.specs.declared.Outcome.{Outcome}
use Rattle.model.specs.declared.Outcome.TheVariants.{Done, Refused}
use Rattle.model.specs.State.{tag_server, Journal, State, with_servers, is_stray, is_open, is_news}
use Rattle.model.specs.ServerChanges.{servers_held_if, servers_raised, servers_kept_prewrite, servers_kept_write}
use Rattle.model.specs.Refusals.{refuse_server}
use Rattle.model.specs.Sending.{sent, gone}
use Rattle.model.specs.Operations.{answered}

-- TAKING A ROW

-- an open read at p whose threshold is not above the tag t
abbrev pub is_due_read : Journal → ℕ → ℕ → ℕ → Bool
is_due_read j p t k = is_open j k && (not (j.is_write k) && (j.server k == p && nat_le (j.threshold k) t))

-- if row r is news to p, it becomes the held row, and pending entries with tags not above it go
abbrev pub holds_if : Bool → State → ℕ → ℕ → State
holds_if news s p r = with_servers s (servers_held_if news s.servers s.journal.tag p r)

-- then the open reads at p that this settles are answered with it
abbrev pub took_if : Bool → State → ℕ → ℕ → State
took_if news s p r = answered (holds_if news s p r) (λ k. news && is_due_read s.journal p (s.journal.tag r) k) r

-- p takes row r, which happens only if it is news
abbrev pub took : State → ℕ → ℕ → State
took s p r = took_if (is_news s p r) s p r

-- A MESSAGE COMES

-- a message of row r ends at p: p is stand-in for the tag's server, and the mask covers
abbrev pub ends_at : State → ℕ → ℕ → ℕ → Bool
ends_at s p r mask = stands_in s.size (s.servers.noticed p) p (tag_server (s.journal.tag r)) && covers s.size (s.servers.noticed p) p mask

-- the mask joins the pre-write of row r that p is to forward
abbrev pub keeps_prewrite : State → ℕ → ℕ → ℕ → State
keeps_prewrite s p r mask = with_servers s (servers_kept_prewrite s.servers p r mask)

-- the mask joins the write of row r that p is to forward
abbrev pub keeps_write : State → ℕ → ℕ → ℕ → State
keeps_write s p r mask = with_servers s (servers_kept_write s.servers p r mask)

-- a pre-write has come to p: it ends, and p takes the row and sends a write, or it is kept to be forwarded
abbrev pub hears_prewrite : State → ℕ → ℕ → ℕ → State
hears_prewrite s p r mask = cond (ends_at s p r mask) (sent (took s p r) p r (phase_number Write) (one p)) (keeps_prewrite s p r mask)

-- p raises its returned tag to t if that is higher
abbrev pub raised : State → ℕ → ℕ → State
raised s p t = with_servers s (servers_raised s.servers p t)

-- an open write started at p with a tag not above t
abbrev pub is_due_write : Journal → ℕ → ℕ → ℕ → Bool
is_due_write j p t k = is_open j k && (j.is_write k && (nat_lt 0 (j.tag k) && (j.server k == p && nat_le (j.tag k) t)))

-- the open writes started at p with tags not above its returned tag are answered
abbrev pub writes_answered : State → ℕ → State
writes_answered s p = answered s (is_due_write s.journal p (s.servers.returned p)) 0

-- p takes row r, raises its returned tag to that of the row, and the writes that this settles are answered
abbrev pub took_and_returned : State → ℕ → ℕ → State
took_and_returned s p r = writes_answered (raised (took s p r) p (s.journal.tag r)) p

-- a write has come to p: p takes the row and returns it, and the write ends or is kept to be forwarded
abbrev pub hears_write : State → ℕ → ℕ → ℕ → State
hears_write s p r mask = cond (ends_at s p r mask) (took_and_returned s p r) (keeps_write (took_and_returned s p r) p r mask)

-- the message of row r that waits for p is taken from the wiring and delivered
abbrev pub delivered : State → ℕ → ℕ → ℕ → State
delivered s p r phase = cond (phase == phase_number PreWrite) (hears_prewrite (gone s p r phase) p r (s.waiting p r phase)) (hears_write (gone s p r phase) p r (s.waiting p r phase))

-- DELIVER

-- the wiring hands out a message that waits for p, its own choice: a stray one is gone and all else stays, any other is delivered
pub record HandsOut (s : State) (p : ℕ) (outcome : Outcome) (after : State) : Type 0 where
  pub message : Message
  pub waits : Waits s.waiting p message
  pub told : outcome ≡ cond (is_stray s.journal message.row.0) (Refused Stray) Done
  pub leaves : after ≡ cond (is_stray s.journal message.row.0) (gone s p message.row.0 (phase_number message.phase)) (delivered s p message.row.0 (phase_number message.phase))

-- refused; or nothing waits; or a message is handed out
abbrev pub Delivers : Option Refusal → State → ℕ → Outcome → State → Type 0
Delivers (Some reason) s p outcome after = (outcome ≡ Refused reason) × (after ≡ s)
Delivers None s p outcome after = (NothingWaits s.waiting p × (outcome ≡ Refused NoMessage) × (after ≡ s)) ⊎ HandsOut s p outcome after

-- deliver; refused: no such server; crashed; no message waits; the message is stray
abbrev pub DeliverStep : State → ℕ → Outcome → State → Type 0
DeliverStep s p = Delivers (refuse_server s p None) s p
