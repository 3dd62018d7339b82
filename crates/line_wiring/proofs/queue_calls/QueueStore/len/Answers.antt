-- A queue is as long as its field says.
use Rattle.std.proofs.Common.{sym}
use Rattle.line_wiring.proofs.Circle.{a_queue_has_its_length}
use Rattle.line_wiring.proofs.queue_calls.QueueStore.len.Goals as goal

pub returns : goal.returns
returns c = let q = c.args.self.now in sym (a_queue_has_its_length q.places q.head q.len)
