-- The rows of a journal.
use Rattle.std.specs.Prelude.{ℕ, Bool, List, slice_index_or}
use Rattle.counting.specs.Below.{count}
use Rattle.operation.specs.declared.operation.Operation.{Operation}
use Rattle.operation.specs.declared.operation.State.{State}
use Rattle.operation.specs.Parts.{state_tag}
use Rattle.operation.specs.Events.{unused_operation}

-- the operation of row k; past the last row none is taken
abbrev pub operation_at : List Operation → ℕ → Operation
operation_at rows k = slice_index_or rows k unused_operation

-- the state of row k
abbrev pub state_at : List Operation → ℕ → State
state_at rows k = (operation_at rows k).state

-- the number of the tag of row k, 0 where there is none
abbrev pub tag_number_at : List Operation → ℕ → ℕ
tag_number_at rows k = (state_tag (state_at rows k)).number

-- how many rows are in a state that passes the test
abbrev pub how_many : (State → Bool) → List Operation → ℕ
how_many test rows = count (λ k. test (state_at rows k)) 256
