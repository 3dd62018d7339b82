use borrow.Author.Rules.{rules}
use Rattle.std.proofs.lemmas.List.{set-get_or}
use Rattle.server.specs.Changes.{cleared_none, cleared_more}
use Rattle.server.proofs.server.Server.hold.Goals as goal

pub loop-k-init : goal.loop-k-init
loop-k-init c = search (rules, cleared_none)

pub loop-k-preserved : goal.loop-k-preserved
loop-k-preserved c = search (rules, cleared_more, set-get_or)
