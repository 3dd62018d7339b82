-- What an event makes of an operation, state by state.
use Rattle.std.specs.Prelude.{ℕ, true, false, cond, nat_lt}
use Rattle.operation.specs.declared.operation.Operation.{Operation}
use Rattle.operation.specs.declared.operation.State.{State}
use Rattle.operation.specs.declared.operation.State.TheVariants.{Unused, Queued, Started, Written, Waiting, Told}
use Rattle.operation.specs.declared.operation.Event.{Event}
use Rattle.operation.specs.declared.operation.Event.TheVariants.{Begin, Start, Answer, GiveUp}
use Rattle.operation.specs.declared.operation.Request.{Request}
use Rattle.operation.specs.declared.operation.Request.TheVariants.{Write, Read}

-- the same operation in another state
abbrev pub in_state : Operation → State → Operation
in_state o s = record { client = o.client; server = o.server; begin_mark = o.begin_mark; given_up = o.given_up; state = s }

-- the same operation, given up
abbrev pub abandoned : Operation → Operation
abandoned o = record { client = o.client; server = o.server; begin_mark = o.begin_mark; given_up = true; state = o.state }

-- a write is first queued, a read first waits
abbrev pub first_state : Request → State
first_state Write = Queued
first_state (Read threshold) = Waiting threshold

-- a new operation in this state
abbrev pub new_operation : ℕ → ℕ → ℕ → State → Operation
new_operation c p mark s = record { client = c; server = p; begin_mark = mark; given_up = false; state = s }

-- what stands in a row that no operation has taken
abbrev pub unused_operation : Operation
unused_operation = new_operation 0 0 0 Unused

-- the operation o, which is in the given state, after an event
abbrev pub after_in : Operation → State → Event → Operation
-- an unused row: an operation begins
after_in o Unused (Begin c p mark request) = new_operation c p mark (first_state request)
after_in o Unused (Start tag) = o
after_in o Unused (Answer row mark) = o
after_in o Unused GiveUp = o
-- a queued write starts, given up or not, under a tag that is not the first one's
after_in o Queued (Begin c p mark request) = o
after_in o Queued (Start tag) = cond (nat_lt 0 tag.number) (in_state o (Started tag)) o
after_in o Queued (Answer row mark) = o
after_in o Queued GiveUp = abandoned o
-- a started write is answered unless it was given up
after_in o (Started t) (Begin c p mark request) = o
after_in o (Started t) (Start tag) = o
after_in o (Started t) (Answer row mark) = cond o.given_up o (in_state o (Written t mark))
after_in o (Started t) GiveUp = abandoned o
-- a waiting read is answered unless it was given up
after_in o (Waiting t) (Begin c p mark request) = o
after_in o (Waiting t) (Start tag) = o
after_in o (Waiting t) (Answer row mark) = cond o.given_up o (in_state o (Told row mark))
after_in o (Waiting t) GiveUp = abandoned o
-- nothing happens to an answered operation
after_in o (Written t m) event = o
after_in o (Told r m) event = o

-- the operation after an event: its state and the event together decide, and an event that does not fit changes nothing
abbrev pub after : Operation → Event → Operation
after o event = after_in o o.state event
