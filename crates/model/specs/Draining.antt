-- Winding down: only turns, deliveries and picks, until the shelf is drained.
use Rattle.std.specs.Prelude.{◌≡◌, ℕ, ◌+◌, ◌-◌, ◌*◌, ◌<◌, ◌≤◌, true, false, ◌≢◌}
use Rattle.counting.specs.Below.{sum}
use Rattle.model.specs.declared.Call.{Call}
use Rattle.model.specs.declared.Call.TheVariants.{Write, Read, GiveUp, Turn, Deliver, Crash, Notice, Pick}
use Rattle.model.specs.declared.Refusal.{Refusal}
use Rattle.model.specs.declared.Outcome.{Outcome}
use Rattle.model.specs.declared.Outcome.TheVariants.{Row, Done, Refused}
use Rattle.model.specs.State.{State, Shelf}
use Rattle.model.specs.Steps.{Step}
use Rattle.model.specs.Runs.{Run, Begins, Tells, last}

-- every standing server has noticed every crash
abbrev pub AllNoticed : State → Type 0
AllNoticed s = (p x : ℕ) → p < s.size → x < s.size → s.servers.standing p ≡ true → s.servers.standing x ≡ false → s.servers.noticed p x ≡ true

-- the bound, from the three amounts m, w and q: 6 m (w + q)
abbrev pub drain_bound : ℕ × ℕ × ℕ → ℕ
drain_bound a = 6 * a.0 * (a.1 + a.2)

-- the call was refused
abbrev pub IsRefused : Outcome → Type 0
IsRefused outcome = (reason : Refusal) × (outcome ≡ Refused reason)

-- 1 of a call that was accepted
abbrev pub accepted : Outcome → ℕ
accepted (Row r) = 1
accepted Done = 1
accepted (Refused reason) = 0

module _ {V : Type 0} where
  -- a shelf is drained when turn and deliver are refused at every server
  pub record Drained (s : Shelf V) : Type 0 where
    pub turn : (p : ℕ) (outcome : Outcome) (t : Shelf V) → Step s (Turn p) outcome t → IsRefused outcome
    pub deliver : (p : ℕ) (outcome : Outcome) (t : Shelf V) → Step s (Deliver p) outcome t → IsRefused outcome

  -- 1 of an accepted turn or delivery
  abbrev pub moves : Call V → Outcome → ℕ
  moves (Write c p v) outcome = 0
  moves (Read c p) outcome = 0
  moves (GiveUp c) outcome = 0
  moves (Turn p) outcome = accepted outcome
  moves (Deliver p) outcome = accepted outcome
  moves (Crash p) outcome = 0
  moves (Notice p x) outcome = 0
  moves (Pick k) outcome = 0

  -- the call is a turn, a delivery or a pick
  abbrev pub Drives : Call V → Type 0
  Drives (Write c p v) = ⊥
  Drives (Read c p) = ⊥
  Drives (GiveUp c) = ⊥
  Drives (Turn p) = Unit {0}
  Drives (Deliver p) = Unit {0}
  Drives (Crash p) = ⊥
  Drives (Notice p x) = ⊥
  Drives (Pick k) = Unit {0}

  -- the call is a write or a read by client c
  abbrev pub AsksBy : Call V → ℕ → Type 0
  AsksBy (Write k p v) c = k ≡ c
  AsksBy (Read k p) c = k ≡ c
  AsksBy (GiveUp k) c = ⊥
  AsksBy (Turn p) c = ⊥
  AsksBy (Deliver p) c = ⊥
  AsksBy (Crash p) c = ⊥
  AsksBy (Notice p x) c = ⊥
  AsksBy (Pick k) c = ⊥

  -- the call is a write or a read at server p
  abbrev pub AsksAt : Call V → ℕ → Type 0
  AsksAt (Write c q v) p = q ≡ p
  AsksAt (Read c q) p = q ≡ p
  AsksAt (GiveUp c) p = ⊥
  AsksAt (Turn q) p = ⊥
  AsksAt (Deliver q) p = ⊥
  AsksAt (Crash q) p = ⊥
  AsksAt (Notice q x) p = ⊥
  AsksAt (Pick k) p = ⊥

module _ {V : Type 0} (run : Run V) where
  -- how many turns and deliveries are accepted from call k on
  abbrev pub moved : ℕ → ℕ
  moved k = sum (λ i. moves (run.call (k + i)) (run.outcome (k + i))) (run.length - k)

  -- from call k on there are turns, deliveries and picks only, and before it every standing server has noticed every crash
  pub record WindsDown (k : ℕ) : Type 0 where
    pub within : k ≤ run.length
    pub noticed : AllNoticed (run.at k).state
    pub drives : (i : ℕ) → k ≤ i → i < run.length → Drives (run.call i)

  -- operation r began at a server that still stands at the end: no call made it crash
  pub record BeganHere (r : ℕ) : Type 0 where
    pub place : ℕ
    pub begins : Begins run r place
    pub server : ℕ
    pub asks : AsksAt (run.call place) server
    pub stands : (i : ℕ) → i < run.length → run.call i ≡ Crash server → run.outcome i ≢ Done

  -- operation r is answered at the end
  abbrev pub IsAnswered : ℕ → Type 0
  IsAnswered r = (v : V) × Tells run (last run) r v

  -- operation r was given up: its client gave up in a later call, and began no other operation between the two
  pub record GivenUp (r : ℕ) : Type 0 where
    pub start : ℕ
    pub begins : Begins run r start
    pub client : ℕ
    pub asks : AsksBy (run.call start) client
    pub place : ℕ
    pub later : start < place
    pub within : place < run.length
    pub is : run.call place ≡ GiveUp client
    pub accepted : run.outcome place ≡ Done
    pub none_between : (i other : ℕ) → start < i → i < place → Begins run other i → AsksBy (run.call i) client → ⊥
