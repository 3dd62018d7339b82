-- What the loop of play keeps: the calls so far have made a run of the model.
use Rattle.std.proofs.Common.{◌≡◌, length, vec_items}
use Rattle.ring.specs.View.{ring_shelf}
use Rattle.runs.proofs.SoFar.{SoFar}
use Rattle.runs.proofs.playing.play.Given as goal

-- the calls before the next one are played
abbrev pub invariant-loop-call : goal.invariant-loop-call
invariant-loop-call g l =
    let waits = g.W.Wiring.waits in
    (length (vec_items l.outcomes) ≡ l.call-index)
    × ((d : g.row.V.Denot) → SoFar (ring_shelf d l.initial.ring (waits l.initial.wiring) (vec_items l.initial.values)) l.calls (vec_items l.outcomes) (ring_shelf d l.ring (waits l.wiring) (vec_items l.values)))
