-- The list of places that a queue stands for.
use Rattle.std.specs.Prelude.{◌≡◌, ℕ, zero, suc, ◌+◌, ◌%◌, List, [], ◌∷◌, Some, None, Option, slice_index_or}
use Rattle.masks.specs.Listed.{no_place}
use Rattle.messages.specs.declared.Place.{Place}
use Rattle.line_wiring.specs.declared.queue.Queue.{Queue}

-- n places from the head on, round the end of the buffer
abbrev pub from : List Place → ℕ → ℕ → List Place
from places head zero = []
from places head (suc n) = slice_index_or places head no_place ∷ from places ((head + 1) % 512) n

-- the places in the queue, first come first
abbrev pub queued : Queue → List Place
queued q = from q.places q.head q.len

-- the first place goes; none does exactly where the queue is empty
abbrev pub Popped : List Place → Option Place → List Place → Type 0
Popped before None after = (before ≡ []) × (after ≡ [])
Popped before (Some first) after = before ≡ first ∷ after
