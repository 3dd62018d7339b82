-- What holds of a new ring and is kept by every event holds all along a run.
-- Each step of a run is an event, so a law over runs is one function with a clause for each kind of event.
use Rattle.std.proofs.Common.{◌≡◌, ℕ, ◌≤◌, arith}
use Rattle.model.specs.State.{State}
use Rattle.model.specs.Operations.{made}
use Rattle.model.specs.Runs.{Run}
use Rattle.model.proofs.Inv.{Inv}
use Rattle.model.proofs.Events.{Event}
use Rattle.model.proofs.AlongRuns.{carry, fresh, inv_at, move}

-- it holds of a new ring, on whose wiring nothing waits
abbrev pub HoldsWhenNew : (State → Type 0) → Type 0
HoldsWhenNew P = (n : ℕ) (waiting : ℕ → ℕ → ℕ → ℕ) → ((p r f : ℕ) → waiting p r f ≡ 0) → P (made n waiting)

-- every event keeps it, in a state that has the invariant of the rules
pub record KeptByEvents (P : State → Type 0) : Type 0 where
  pub event : {s : State} {more : ℕ} {t : State} → Event s more t → Inv s → P s → P t

-- so it holds before each call and at the end
pub holds_all_along : (P : State → Type 0) → HoldsWhenNew P → KeptByEvents P → {V : Type 0} (run : Run V) (j : ℕ) → j ≤ run.length → P (run.at j).state
holds_all_along P new kept run j l =
    let f = fresh run in
    carry run (λ k. P (run.at k).state) (λ k m h. kept.event (move run k m).event (inv_at run k (omega arith)) h) j 0 (omega arith) l (rw f.is (new f.size f.wires f.none))
