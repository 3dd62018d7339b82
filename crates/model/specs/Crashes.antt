-- Crash, and noticing a crash.
use Rattle.std.specs.Prelude.{ℕ, Bool, cond, not, ◌&&◌, ◌||◌, None, Option, ◌==◌, nat_le, nat_lt}
use Rattle.messages.specs.declared.Phase.TheVariants.{PreWrite, Write}
use Rattle.messages.specs.Phases.{phase_number}
use Rattle.messages.specs.Waiting.{cleared}
use Rattle.servers.specs.Sets.{join, one}
use Rattle.counting.specs.Below.{count}
use Rattle.model.specs.declared.Refusal.{Refusal}
use Rattle.model.specs.declared.Refusal.TheVariants.{NoServer, Crashed, LastStanding, Stands, NoticedAlready}
use Rattle.model.specs.declared.Outcome.{Outcome}
use Rattle.model.specs.declared.Outcome.TheVariants.{Done}
use Rattle.model.specs.State.{State, with_servers, with_waiting}
use Rattle.model.specs.ServerChanges.{servers_crashed, servers_noticed}
use Rattle.model.specs.Refusals.{refuse, refuse_server, Told}
use Rattle.model.specs.Sending.{next_of, sent}

-- CRASH

-- no such server; crashed already; it is the last standing
abbrev pub refuse_crash : State → ℕ → Option Refusal
refuse_crash s p = refuse_server s p (refuse (count s.servers.standing s.size == 1) LastStanding None)

-- p stops, its masks are empty, and nothing waits for it
abbrev pub crashes : State → ℕ → State
crashes s p = with_waiting (with_servers s (servers_crashed s.servers p)) (cleared s.waiting p)

-- crash
abbrev pub CrashStep : State → ℕ → Outcome → State → Type 0
CrashStep s p = Told (refuse_crash s p) s Done (crashes s p)

-- NOTICE

-- either is no server; p has crashed; x stands; p has noticed it already
abbrev pub refuse_notice : State → ℕ → ℕ → Option Refusal
refuse_notice s p x =
    refuse (nat_le s.size p || nat_le s.size x) NoServer (refuse (not (s.servers.standing p)) Crashed (refuse (s.servers.standing x) Stands (refuse (s.servers.noticed p x) NoticedAlready None)))

-- p has noticed the crash of x
abbrev pub learns : State → ℕ → ℕ → State
learns s p x = with_servers s (servers_noticed s.servers p x)

-- p sends a write of its held row, unless that is row 0: an empty mask sends nothing
abbrev pub sends_held : State → ℕ → State
sends_held s p = sent s p (s.servers.held p) (phase_number Write) (cond (s.servers.held p == 0) 0 (one p))

-- if q stands, a pre-write of each row pending at p is put to wait for q, with its pending mask; else all are lost.
-- It makes no difference in which order they are put: lemma rows_put_in_turn in proofs/Posting has it from row 0 on.
abbrev pub posts_pending_if : Bool → State → ℕ → ℕ → State
posts_pending_if stands s p q = with_waiting s (λ x k f. cond (stands && (x == q && (f == phase_number PreWrite && nat_lt k 256))) (join (s.waiting x k f) (s.servers.pending p k)) (s.waiting x k f))

-- a pre-write of each row pending at p is put to wait for q, and is lost if q has crashed
abbrev pub posts_pending : State → ℕ → ℕ → State
posts_pending s p q = posts_pending_if (s.servers.standing q) s p q

-- p sends a pre-write for each pending row to its next
abbrev pub sends_pending : State → ℕ → State
sends_pending s p = posts_pending s p (next_of s p)

-- if x was the next of p, the new next is told what p holds and what is pending
abbrev pub notices : State → ℕ → ℕ → State
notices s p x = cond (next_of s p == x) (sends_pending (sends_held (learns s p x) p) p) (learns s p x)

-- notice
abbrev pub NoticeStep : State → ℕ → ℕ → Outcome → State → Type 0
NoticeStep s p x = Told (refuse_notice s p x) s Done (notices s p x)
