-- The queue of the server hands out its first place, so that the first of the line goes out.
use Rattle.line_wiring.proofs.Out.{the_first_goes_out}
use Rattle.line_wiring.proofs.wiring_calls.LineWiringWiring.take.Goals as goal

pub returns-clause-order : goal.returns-clause-order
returns-clause-order c =
    the_first_goes_out c.args.self.now.lanes c.take.new.self c.args.server 0 c.take.result c.take.ensures.choice
