-- What an operation's state says of it, and the questions that the journal asks.
use Rattle.std.specs.Prelude.{ℕ, Bool, true, false, not, ◌&&◌, ◌==◌, nat_le, nat_lt}
use Rattle.operation.specs.declared.tag.Tag.{Tag}
use Rattle.operation.specs.declared.operation.Operation.{Operation}
use Rattle.operation.specs.declared.operation.State.{State}
use Rattle.operation.specs.declared.operation.State.TheVariants.{Unused, Queued, Started, Written, Waiting, Told}
use Rattle.operation.specs.declared.operation.Request.{Request}
use Rattle.operation.specs.declared.operation.Request.TheVariants.{Write, Read}
use Rattle.operation.specs.Tags.{tag_key, first_tag}

-- it has begun: its row is taken
abbrev pub is_taken : State → Bool
is_taken Unused = false
is_taken Queued = true
is_taken (Started tag) = true
is_taken (Written tag mark) = true
is_taken (Waiting threshold) = true
is_taken (Told row mark) = true

-- it is a write
abbrev pub is_write : State → Bool
is_write Unused = false
is_write Queued = true
is_write (Started tag) = true
is_write (Written tag mark) = true
is_write (Waiting threshold) = false
is_write (Told row mark) = false

-- it is a write that has not started
abbrev pub is_queued : State → Bool
is_queued Unused = false
is_queued Queued = true
is_queued (Started tag) = false
is_queued (Written tag mark) = false
is_queued (Waiting threshold) = false
is_queued (Told row mark) = false

-- it is a write that has started and was not answered
abbrev pub is_started : State → Bool
is_started Unused = false
is_started Queued = false
is_started (Started tag) = true
is_started (Written tag mark) = false
is_started (Waiting threshold) = false
is_started (Told row mark) = false

-- it is a write that has its tag
abbrev pub has_tag : State → Bool
has_tag Unused = false
has_tag Queued = false
has_tag (Started tag) = true
has_tag (Written tag mark) = true
has_tag (Waiting threshold) = false
has_tag (Told row mark) = false

-- if it is a started write, its tag has a number above 0, as each tag but the first value's
abbrev pub is_numbered : State → Bool
is_numbered Unused = true
is_numbered Queued = true
is_numbered (Started tag) = nat_lt 0 tag.number
is_numbered (Written tag mark) = true
is_numbered (Waiting threshold) = true
is_numbered (Told row mark) = true

-- it is answered
abbrev pub is_answered : State → Bool
is_answered Unused = false
is_answered Queued = false
is_answered (Started tag) = false
is_answered (Written tag mark) = true
is_answered (Waiting threshold) = false
is_answered (Told row mark) = true

-- the mark of its answer, 0 before
abbrev pub answer_mark : State → ℕ
answer_mark Unused = 0
answer_mark Queued = 0
answer_mark (Started tag) = 0
answer_mark (Written tag mark) = mark
answer_mark (Waiting threshold) = 0
answer_mark (Told row mark) = mark

-- the tag of a write that has started, the first tag of anything else
abbrev pub state_tag : State → Tag
state_tag Unused = first_tag
state_tag Queued = first_tag
state_tag (Started tag) = tag
state_tag (Written tag mark) = tag
state_tag (Waiting threshold) = first_tag
state_tag (Told row mark) = first_tag

-- the threshold of a read while it waits, as a number; 0 of anything else
abbrev pub threshold_key : State → ℕ
threshold_key Unused = 0
threshold_key Queued = 0
threshold_key (Started tag) = 0
threshold_key (Written tag mark) = 0
threshold_key (Waiting threshold) = tag_key threshold
threshold_key (Told row mark) = 0

-- the row whose value an answered read gave, 0 of anything else
abbrev pub row_given : State → ℕ
row_given Unused = 0
row_given Queued = 0
row_given (Started tag) = 0
row_given (Written tag mark) = 0
row_given (Waiting threshold) = 0
row_given (Told row mark) = row.0

-- the request is for a write
abbrev pub asks_to_write : Request → Bool
asks_to_write Write = true
asks_to_write (Read threshold) = false

-- the threshold of a request to read, as a number; 0 of one to write
abbrev pub threshold_asked : Request → ℕ
threshold_asked Write = 0
threshold_asked (Read threshold) = tag_key threshold

-- open: it has begun and was neither answered nor given up
abbrev pub is_open : Operation → Bool
is_open o = is_taken o.state && (not (is_answered o.state) && not o.given_up)

-- open, and of this client
abbrev pub is_open_of : Operation → ℕ → Bool
is_open_of o c = is_open o && o.client == c

-- an answer fits it: a started write or a waiting read that was not given up
abbrev pub is_answerable : Operation → Bool
is_answerable o = is_open o && not (is_queued o.state)

-- a write queued at the server, given up or not
abbrev pub is_queued_at : Operation → ℕ → Bool
is_queued_at o p = is_queued o.state && o.server == p

-- an open read
abbrev pub is_open_read : Operation → Bool
is_open_read o = is_open o && not (is_write o.state)

-- an open read at the server whose threshold is not above the tag
abbrev pub is_due : Operation → ℕ → ℕ → Bool
is_due o p tag = is_open o && (not (is_write o.state) && (o.server == p && nat_le (threshold_key o.state) tag))

-- an open write started at the server with a tag not above the returned one
abbrev pub is_returned : Operation → ℕ → ℕ → Bool
is_returned o p returned = is_open o && (is_started o.state && (o.server == p && nat_le (tag_key (state_tag o.state)) returned))
