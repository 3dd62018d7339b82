-- Why calls are refused. Each call has a chain of reasons in the order of its rule, and is refused for the first that holds; a refused call changes nothing.
use Rattle.std.specs.Prelude.{◌≡◌, ℕ, Bool, cond, not, Some, None, Option, nat_le}
use Rattle.model.specs.declared.Refusal.{Refusal}
use Rattle.model.specs.declared.Refusal.TheVariants.{BadSize, NoClient, NoServer, Crashed, Busy, Full, WrongRowCount, NothingOpen, NothingToSend, NoMessage, Stray, LastStanding, Stands, NoticedAlready, NotUsed, NotAnswered}
use Rattle.model.specs.declared.Outcome.{Outcome}
use Rattle.model.specs.declared.Outcome.TheVariants.{Refused}
use Rattle.model.specs.State.{State}

-- the number of a refusal
abbrev pub refusal_number : Refusal → ℕ
refusal_number BadSize = 1
refusal_number NoClient = 2
refusal_number NoServer = 3
refusal_number Crashed = 4
refusal_number Busy = 5
refusal_number Full = 6
refusal_number WrongRowCount = 7
refusal_number NothingOpen = 8
refusal_number NothingToSend = 9
refusal_number NoMessage = 10
refusal_number Stray = 11
refusal_number LastStanding = 12
refusal_number Stands = 13
refusal_number NoticedAlready = 14
refusal_number NotUsed = 15
refusal_number NotAnswered = 16

-- refused for this reason if the test holds, else for what comes after it
abbrev pub refuse : Bool → Refusal → Option Refusal → Option Refusal
refuse test reason later = cond test (Some reason) later

-- p is no server; p has crashed
abbrev pub refuse_server : State → ℕ → Option Refusal → Option Refusal
refuse_server s p later = refuse (nat_le s.size p) NoServer (refuse (not (s.servers.standing p)) Crashed later)

-- refused for this reason if nothing was found
abbrev pub unless_found : Refusal → Option ℕ → Option Refusal
unless_found reason None = Some reason
unless_found reason (Some found) = None

module _ {S : Type 0} where
  -- what a call tells and leaves, of which the rules decide both: refused, and nothing changes; or accepted, with this outcome and this new state
  abbrev pub Told : Option Refusal → S → Outcome → S → Outcome → S → Type 0
  Told (Some reason) old accepted new outcome after = (outcome ≡ Refused reason) × (after ≡ old)
  Told None old accepted new outcome after = (outcome ≡ accepted) × (after ≡ new)
