use Rattle.turns.proofs.Acting.{a_queued_write_starts}
use Rattle.turns.proofs.starting.start_queued.Goals as goal

pub returns-in-Some : goal.returns-in-Some
returns-in-Some g c =
    let waits = g.W.Wiring.waits in
    a_queued_write_starts c.args.memory.now (record { journal = c.start.new.self; fleet = c.start-in-Some.new.self }) (waits c.args.wiring.now) (waits c.send.new.wiring) c.args.server c.in-Some.row.0 c.highest_row-highest.result.0 c.only.result.bits
    c.in-Some.ensures.found c.highest_row-highest.ensures c.start.ensures c.start-in-Some.ensures c.only.ensures c.requires c.send.ensures
