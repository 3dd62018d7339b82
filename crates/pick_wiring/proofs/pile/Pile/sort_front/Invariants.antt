-- After i turns the front of i places is sorted.
use Rattle.pick_wiring.specs.Piled.{SortedFront, piled}
use Rattle.pick_wiring.proofs.pile.Pile.sort_front.Given as goal

abbrev pub invariant-loop-i : goal.invariant-loop-i
invariant-loop-i l = SortedFront (piled l.initial.self) l.i (piled l.self)
