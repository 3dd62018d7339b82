use Rattle.std.proofs.Common.{◌≡◌}
use Rattle.fleet.specs.View.{servers}
use Rattle.crashes.specs.Pending.{pending_put}
use Rattle.crashes.proofs.noticing.put_pending.Given as goal

abbrev pub invariant-loop-row : goal.invariant-loop-row
invariant-loop-row g l = g.W.Wiring.waits l.wiring ≡ pending_put ((servers l.fleet).pending l.server) l.to l.row (g.W.Wiring.waits l.initial.wiring)
