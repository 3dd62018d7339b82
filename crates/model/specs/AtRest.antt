-- Agreement at rest: when nothing more can move, all standing servers hold one row, and it is as new as any answer.
use Rattle.std.specs.Prelude.{◌≡◌, ℕ, ◌≤◌, true}
use Rattle.model.specs.State.{tag_of, Shelf}
use Rattle.model.specs.Questions.{Telling, tells, answer}
use Rattle.model.specs.Runs.{Run, last}
use Rattle.model.specs.Draining.{AllNoticed, Drained}

-- a shelf is at rest: every standing server has noticed every crash, and the shelf is drained
pub record AtRest {V : Type 0} (s : Shelf V) : Type 0 where
  pub noticed : AllNoticed s.state
  pub drained : Drained s

-- All standing servers hold the same row, and no answered operation has a higher tag than that row.
pub record Agrees {V : Type 0} (s : Shelf V) : Type 0 where
  pub same_row : (p q : ℕ) → s.state.servers.standing p ≡ true → s.state.servers.standing q ≡ true → s.state.servers.held p ≡ s.state.servers.held q
  -- the tag is the one that the question `answer` tells of the operation: for a read that of the row it gave
  pub none_above : (p r : ℕ) (telling : Telling V) → s.state.servers.standing p ≡ true → answer s r ≡ tells telling
      → tag_of telling.number telling.server ≤ s.state.journal.tag (s.state.servers.held p)

-- In every run whose shelf is at rest at the end, the servers agree.
abbrev pub ServersAgreeAtRest : Type 0 → Type 0
ServersAgreeAtRest V = (run : Run V) → AtRest (last run) → Agrees (last run)
