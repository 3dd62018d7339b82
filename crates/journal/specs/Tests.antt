-- Tests that a caller passes, of the operations in the used rows.
use Rattle.std.specs.Prelude.{◌≡◌, ℕ, Bool, ◌&&◌, nat_lt}
use Rattle.operation.specs.declared.operation.Operation.{Operation}
use Rattle.journal.specs.declared.journal.Journal.{Journal}
use Rattle.journal.specs.Rows.{operation_at}

-- whatever a call of the code's test answers is what the function says
abbrev pub Computes : (Operation → Bool → Type 0) → (Operation → Bool) → Type 0
Computes answers test = (o : Operation) (answer : Bool) → answers o answer → answer ≡ test o

-- row k is used, and its operation passes the test
abbrev pub passes_in : Journal → (Operation → Bool) → ℕ → Bool
passes_in j test k = nat_lt k j.used && test (operation_at j.rows k)
