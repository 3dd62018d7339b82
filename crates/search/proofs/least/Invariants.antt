-- The best so far is the least of the keys that were passed.
use Rattle.std.specs.List.{IsFirstBest}
use Rattle.std.specs.Ordering.{is_lt}
use Rattle.search.proofs.least.Given as goal

abbrev pub invariant-loop-i : goal.invariant-loop-i
invariant-loop-i g l = IsFirstBest (λ a b. is_lt (g.K.Ord.cmp a b)) l.keys l.i l.best
