use mathlib.Core.Path.{◌≡◌}
use Rattle.journal.specs.View.{view}
use Rattle.operation.specs.Tags.{tag_key}
use Rattle.server.specs.Changes.{cleared_below}
use Rattle.server.proofs.server.Server.hold.Given as goal

abbrev pub invariant-loop-k : goal.invariant-loop-k
invariant-loop-k l = l.cell-items ≡ cleared_below (view l.journal).tag (tag_key l.tag) l.fn.self.cells l.k
