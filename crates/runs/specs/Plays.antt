-- What playing a list of calls promises: the outcomes given back are those of a run of exactly these calls on a new shelf, and both promises hold of that run.
use Rattle.std.specs.Prelude.{◌≡◌, ℕ, ◌<◌, ◌≤◌, List, length, Some, Ok, Err, vec_items, Result, slice_index_or}
use Rattle.std.specs.Global.{Vec}
use Rattle.model.specs.declared.Call.{Call}
use Rattle.model.specs.declared.Outcome.{Outcome}
use Rattle.model.specs.Operations.{refuse_make}
use Rattle.model.specs.Runs.{Run}
use Rattle.model.specs.Draining.{WindsDown}
use Rattle.model.specs.Promises.{OneOrder, DrainsSoonAndOwesNothing}
use Rattle.runs.specs.declared.playing.PlayError.{PlayError}
use Rattle.runs.specs.declared.playing.PlayError.TheVariants.{Refused, NoMemory}
use Rattle.runs.specs.Prefixes.{prefix}

module _ {V : Type 0} where
  -- there is a run on a new shelf of this size and first value, whose calls are those of the list, in order, and whose outcomes are those given back
  pub record PlaysTheRun (outcomes : List Outcome) (size : ℕ) (first : V) (calls : List (Call V)) : Type 0 where
    pub run : Run V
    pub first_is : run.first ≡ first
    pub size_is : run.new.size ≡ size
    pub all_played : run.length ≡ length calls
    pub all_told : length outcomes ≡ length calls
    pub calls_are : (i : ℕ) → i < length calls → (d : Call V) → run.call i ≡ slice_index_or calls i d
    pub outcomes_are : (i : ℕ) → i < length calls → (d : Outcome) → run.outcome i ≡ slice_index_or outcomes i d
    -- the run has one order
    pub one_order : OneOrder run
    -- wherever it winds down from some call on, up to its end or any call before, it drains soon and owes nothing
    pub drains : (l : ℕ) (within : l ≤ run.length) (k : ℕ) → WindsDown (prefix run l within) k → DrainsSoonAndOwesNothing (prefix run l within) k

  -- the list was played; or no ring was made, for the reason of the rule; or memory ran out, and nothing is said
  abbrev pub Plays : Result (Vec Outcome) PlayError → ℕ → V → List (Call V) → Type 0
  Plays (Ok outcomes) size first calls = PlaysTheRun (vec_items outcomes) size first calls
  Plays (Err (Refused reason)) size first calls = refuse_make 256 size ≡ Some reason
  Plays (Err NoMemory) size first calls = Unit {0}
