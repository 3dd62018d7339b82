-- The two promises of a shelf.
use Rattle.std.specs.Prelude.{ℕ, ◌<◌, ◌≤◌, ◌⊎◌, List}
use Rattle.model.specs.Questions.{amounts}
use Rattle.model.specs.Runs.{Run, Begins, Answered, Started, Gives, last}
use Rattle.model.specs.Orders.{In, Ahead, Once, Nearest, First}
use Rattle.model.specs.Draining.{drain_bound, Drained, moved, WindsDown, BeganHere, IsAnswered, GivenUp}

-- In every run the started writes and answered reads can be put into one order, in which each read gives the value of the nearest write ahead of it,
-- and an operation that was answered before another began stands ahead of it.
pub record OneOrder {V : Type 0} (run : Run V) : Type 0 where
  pub order : List ℕ
  -- each started write and each answered read stands in it exactly once, and nothing else
  pub once : Once order
  pub writes : (r : ℕ) → Started run r → In order r
  pub reads : (r : ℕ) (v : V) → Gives run r v → In order r
  pub only : (r : ℕ) → In order r → Started run r ⊎ ((v : V) × Gives run r v)
  -- each read gives the value of the nearest write ahead of it, or the first value if there is none
  pub nearest : (r : ℕ) (v : V) → Gives run r v → ((w : ℕ) × Nearest run order w r v) ⊎ First run order r v
  -- an operation answered in an earlier call than the one in which another began stands ahead of it
  pub timely : (a b i j : ℕ) → In order a → In order b → Answered run a i → Begins run b j → i < j → Ahead order a b

-- so it is of every run, with values of any kind
abbrev pub EveryRunHasOneOrder : Type 0 → Type 0
EveryRunHasOneOrder V = (run : Run V) → OneOrder run

-- Once every standing server has noticed every crash, and only turns, deliveries and picks follow, at most 6 m (w + q) turns and deliveries are accepted,
-- with the amounts as they were then; and when the shelf is drained, every operation that began at a server still standing is answered or was given up.
pub record DrainsSoonAndOwesNothing {V : Type 0} (run : Run V) (k : ℕ) : Type 0 where
  pub soon : moved run k ≤ drain_bound (amounts (run.at k).state)
  pub owes_nothing : Drained (last run) → (r : ℕ) → BeganHere run r → IsAnswered run r ⊎ GivenUp run r

-- so it is of every run from every such call on
abbrev pub EveryRunDrainsSoonAndOwesNothing : Type 0 → Type 0
EveryRunDrainsSoonAndOwesNothing V = (run : Run V) (k : ℕ) → WindsDown run k → DrainsSoonAndOwesNothing run k
