-- The first calls of a run are a run.
use Rattle.std.specs.Prelude.{ℕ, ◌≤◌}
use Rattle.std.proofs.Common.{le_trans}
use Rattle.model.specs.Runs.{Run}

module _ {V : Type 0} where
  -- the first l calls of the run
  abbrev pub prefix : (run : Run V) (l : ℕ) → l ≤ run.length → Run V
  prefix run l within = record {
    first = run.first;
    length = l;
    at = run.at;
    call = run.call;
    outcome = run.outcome;
    new = run.new;
    steps = λ i below. run.steps i (le_trans below within);
  }
