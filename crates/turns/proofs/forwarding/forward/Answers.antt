use Rattle.turns.proofs.Acting.{a_write_goes_on, a_prewrite_goes_on}
use Rattle.turns.proofs.forwarding.forward.Goals as goal

pub returns-then-has_write : goal.returns-then-has_write
returns-then-has_write g c =
    let waits = g.W.Wiring.waits in
    a_write_goes_on c.args.memory.now c.release_write-mask.new.self (waits c.args.wiring.now) (waits c.send.new.wiring) c.args.server c.args.row.0 c.release_write-mask.result.bits
    c.if-has_write.ensures c.release_write-mask.ensures.mask c.release_write-mask.ensures.after c.requires c.send.ensures

pub returns-else-has_write : goal.returns-else-has_write
returns-else-has_write g c =
    let waits = g.W.Wiring.waits in
    a_prewrite_goes_on c.args.memory.now c.release_prewrite-mask.new.self (waits c.args.wiring.now) (waits c.send-else-has_write.new.wiring) c.args.server c.args.row.0 c.release_prewrite-mask.result.bits c.is_news-is_news.result
    c.if-has_write.ensures c.is_news-is_news.ensures c.release_prewrite-mask.ensures.mask c.release_prewrite-mask.ensures.after c.requires c.send-else-has_write.ensures
