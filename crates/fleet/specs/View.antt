-- What a fleet stands for in the words of the rules, and what a change at one server leaves.
use Rattle.std.specs.Prelude.{◌≡◌, ℕ, ◌<◌, ◌≤◌}
use Rattle.messages.specs.Waiting.{nothing}
use Rattle.model.specs.State.{Journal, Servers, State}
use Rattle.fleet.specs.declared.fleet.Fleet.{Fleet}
use Rattle.table.specs.Table.{servers_of}

-- what the servers of the fleet keep
abbrev pub servers : Fleet → Servers
servers fleet = servers_of fleet.list

-- the ring of the fleet and a journal, with nothing on its wiring: the questions that are asked of both do not look at the wiring
abbrev pub state : Fleet → Journal → State
state fleet journal = record { size = fleet.size; journal = journal; servers = servers fleet; waiting = nothing }

-- a change at server p: what is kept is what the rule says; a number above 7 names no server, and changes nothing
pub record ChangedAt (p : ℕ) (before : Fleet) (rule : Servers) (after : Fleet) : Type 0 where
  pub size : after.size ≡ before.size
  pub kept : p < 8 → servers after ≡ rule
  pub none : 8 ≤ p → servers after ≡ servers before
