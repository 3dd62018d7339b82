use Rattle.deliveries.proofs.MessagesHeard.{an_ended_prewrite_becomes_a_write}
use Rattle.deliveries.proofs.hearing.hear_prewrite.Goals as goal

pub returns-then-ends_at : goal.returns-then-ends_at
returns-then-ends_at g c =
    let waits = g.W.Wiring.waits in
    let before = waits c.args.wiring.now in
    an_ended_prewrite_becomes_a_write c.args.memory.now c.take_row.new.memory before (waits c.send.new.wiring) c.args.server c.args.row.0 c.args.mask.bits c.only.result.bits
    c.if-ends_at.ensures (c.take_row.ensures before) c.only.ensures c.requires c.send.ensures
