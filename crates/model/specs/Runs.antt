-- Runs: a new shelf, and calls one after the other. When an operation begins, starts and is answered, by what the calls tell.
use Rattle.std.specs.Prelude.{◌≡◌, ℕ, suc, ◌<◌, ◌≤◌}
use Rattle.messages.specs.Waiting.{NothingWaits}
use Rattle.model.specs.declared.Call.{Call}
use Rattle.model.specs.declared.Call.TheVariants.{Write, Read}
use Rattle.model.specs.declared.Outcome.{Outcome}
use Rattle.model.specs.declared.Outcome.TheVariants.{Row, Done}
use Rattle.model.specs.State.{Shelf}
use Rattle.model.specs.Operations.{MakeStep}
use Rattle.model.specs.Questions.{Telling, tells, answer}
use Rattle.model.specs.Steps.{Step}

module _ {V : Type 0} where
  -- a shelf is new after an accepted make, with a new wiring
  pub record New (first : V) (t : Shelf V) : Type 0 where
    pub lent : Shelf V
    pub size : ℕ
    pub made : MakeStep lent size first Done t
    pub empty : (p : ℕ) → NothingWaits t.state.waiting p

-- a run: call i is made of the shelf `at i`, tells `outcome i` and leaves the shelf `at (i + 1)`; nothing else changes the shelf
pub record Run (V : Type 0) : Type 0 where
  pub first : V
  pub length : ℕ
  pub at : ℕ → Shelf V
  pub call : ℕ → Call V
  pub outcome : ℕ → Outcome
  pub new : New first (at 0)
  pub steps : (i : ℕ) → i < length → Step (at i) (call i) (outcome i) (at (suc i))

module _ {V : Type 0} (run : Run V) where
  -- the shelf after the last call
  abbrev pub last : Shelf V
  last = run.at run.length

  -- operation r begins in call i: that call gives its row
  pub record Begins (r i : ℕ) : Type 0 where
    pub within : i < run.length
    pub gives : run.outcome i ≡ Row r

  -- operation r is a write of v
  pub record Wrote (r : ℕ) (v : V) : Type 0 where
    pub place : ℕ
    pub begins : Begins r place
    pub client : ℕ
    pub server : ℕ
    pub is : run.call place ≡ Write client server v

  -- operation r is a read
  pub record Asked (r : ℕ) : Type 0 where
    pub place : ℕ
    pub begins : Begins r place
    pub client : ℕ
    pub server : ℕ
    pub is : run.call place ≡ Read client server

  -- the question `answer` tells of row r, with the value v
  pub record Tells (s : Shelf V) (r : ℕ) (v : V) : Type 0 where
    pub telling : Telling V
    pub is : answer s r ≡ tells telling
    pub value : telling.value ≡ v

  -- operation r is answered in call i: after it `answer` first tells of r
  pub record Answered (r i : ℕ) : Type 0 where
    pub within : i < run.length
    pub value : V
    pub after : Tells (run.at (suc i)) r value
    pub before : (j : ℕ) → j ≤ i → (v : V) → Tells (run.at j) r v → ⊥

  -- operation r is a started write: it has its tag; the first value, in row 0, is none
  abbrev pub Started : ℕ → Type 0
  Started r = (v : V) × Wrote r v × (0 < last.state.journal.tag r)

  -- operation r is an answered read, and gives the value told
  abbrev pub Gives : ℕ → V → Type 0
  Gives r v = Asked r × Tells last r v
