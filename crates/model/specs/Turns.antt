-- Turn: a server forwards one entry, or starts one queued write.
use Rattle.std.specs.Prelude.{ℕ, ◌+◌, max, Bool, cond, ◌&&◌, ◌||◌, Some, None, Option, ◌==◌, nat_lt}
use Rattle.messages.specs.declared.Phase.TheVariants.{PreWrite, Write}
use Rattle.messages.specs.Phases.{phase_number}
use Rattle.servers.specs.Sets.{join, one}
use Rattle.counting.specs.Below.{any, top, least}
use Rattle.model.specs.declared.Refusal.{Refusal}
use Rattle.model.specs.declared.Refusal.TheVariants.{NothingToSend}
use Rattle.model.specs.declared.Outcome.{Outcome}
use Rattle.model.specs.declared.Outcome.TheVariants.{Done}
use Rattle.model.specs.State.{tag_of, tag_number, tag_server, Servers, State, with_journal, with_servers, is_queued, is_pending, is_news}
use Rattle.model.specs.JournalChanges.{journal_tagged}
use Rattle.model.specs.ServerChanges.{counts_if, servers_counted_if, servers_released_prewrite_if, servers_released_write, servers_started}
use Rattle.model.specs.Refusals.{refuse_server, unless_found, Told}
use Rattle.model.specs.Sending.{sent}

-- THE GROUP WHOSE TURN IT IS

-- p has an entry of row r to forward
abbrev pub has_entry : Servers → ℕ → ℕ → Bool
has_entry v p r = nat_lt 0 (v.forward_prewrite p r) || nat_lt 0 (v.forward_write p r)

-- p has an entry to forward
abbrev pub some_entry : Servers → ℕ → Bool
some_entry v p = any (has_entry v p) 256

-- p has an entry of row r to forward, and its tag names j
abbrev pub has_entry_of : State → ℕ → ℕ → ℕ → Bool
has_entry_of s p j r = has_entry s.servers p r && tag_server (s.journal.tag r) == j

-- group j waits at p: an entry whose tag names j, or for j = p a queued write
abbrev pub group_waits : State → ℕ → ℕ → Bool
group_waits s p j = any (has_entry_of s p j) 256 || (j == p && any (is_queued s.journal p) 256)

-- the counts by which the group is chosen
abbrev pub counts_before : Servers → ℕ → ℕ → ℕ
counts_before v p = counts_if (some_entry v p) v p

-- the waiting group with the smallest count, on a tie the smallest j
abbrev pub chosen_group : State → ℕ → Option ℕ
chosen_group s p = least (group_waits s p) (counts_before s.servers p) 8

-- no such server; crashed; no group waits
abbrev pub refuse_turn : State → ℕ → Option Refusal
refuse_turn s p = refuse_server s p (unless_found NothingToSend (chosen_group s p))

-- p has chosen group j
abbrev pub counted : State → ℕ → ℕ → State
counted s p j = with_servers s (servers_counted_if (some_entry s.servers p) s.servers p j)

-- FORWARDING

-- the pre-write of row r leaves what p is to forward
abbrev pub releases_prewrite : State → ℕ → ℕ → State
releases_prewrite s p r = with_servers s (servers_released_prewrite_if (is_news s p r) s.servers p r)

-- the write of row r leaves what p is to forward
abbrev pub releases_write : State → ℕ → ℕ → State
releases_write s p r = with_servers s (servers_released_write s.servers p r)

-- p forwards the pre-write of row r, with itself added to the mask
abbrev pub forwards_prewrite : State → ℕ → ℕ → State
forwards_prewrite s p r = sent (releases_prewrite s p r) p r (phase_number PreWrite) (join (s.servers.forward_prewrite p r) (one p))

-- p forwards the write of row r, with itself added to the mask
abbrev pub forwards_write : State → ℕ → ℕ → State
forwards_write s p r = sent (releases_write s p r) p r (phase_number Write) (join (s.servers.forward_write p r) (one p))

-- of one row the write goes before the pre-write
abbrev pub forwards : State → ℕ → ℕ → State
forwards s p r = cond (nat_lt 0 (s.servers.forward_write p r)) (forwards_write s p r) (forwards_prewrite s p r)

-- STARTING

-- one more than the largest number among the held and pending tags of p
abbrev pub fresh_number : State → ℕ → ℕ
fresh_number s p = 1 + max (tag_number (s.journal.tag (s.servers.held p))) (top (is_pending s.servers p) (λ k. tag_number (s.journal.tag k)) 256)

-- the queued write of row r has the tag t, and is pending at p with mask {p}
abbrev pub tagged : State → ℕ → ℕ → ℕ → State
tagged s p r t = with_servers (with_journal s (journal_tagged s.journal r t)) (servers_started s.servers p r)

-- p starts the queued write of row r: it gets its tag, and p sends a pre-write
abbrev pub starts : State → ℕ → ℕ → State
starts s p r = sent (tagged s p r (tag_of (fresh_number s p) p)) p r (phase_number PreWrite) (one p)

-- THE TURN

-- an entry to forward goes before a queued write
abbrev pub forwards_or_starts : State → ℕ → Option ℕ → Option ℕ → State
forwards_or_starts s p (Some r) w = forwards s p r
forwards_or_starts s p None (Some r) = starts s p r
forwards_or_starts s p None None = s

-- in the chosen group: the entry with the smallest tag, the queued write with the lowest row
abbrev pub turns : State → ℕ → Option ℕ → State
turns s p None = s
turns s p (Some j) = forwards_or_starts (counted s p j) p (least (has_entry_of s p j) s.journal.tag 256) (least (is_queued s.journal p) (λ k. k) 256)

-- turn
abbrev pub TurnStep : State → ℕ → Outcome → State → Type 0
TurnStep s p = Told (refuse_turn s p) s Done (turns s p (chosen_group s p))
