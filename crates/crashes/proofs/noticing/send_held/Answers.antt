use Rattle.crashes.proofs.Noticed.{the_held_row_is_sent}
use Rattle.crashes.proofs.noticing.send_held.Goals as goal

pub returns : goal.returns
returns g c =
    let waits = g.W.Wiring.waits in
    λ j. the_held_row_is_sent j c.args.fleet.now (waits c.args.wiring.now) (waits c.send.new.wiring) c.args.server c.held-held.result.0 c.held_mask.result.bits
    c.requires c.held-held.ensures c.held_mask.ensures (c.send.ensures j)
