-- A server has at most 512 messages waiting and 512 entries to forward, so the sum fits.
use Rattle.std.proofs.Common.{arith, rules}
use Rattle.fleet.specs.View.{servers}
use Rattle.questions.proofs.Bounds.{few_messages_wait, few_entries_are_to_forward}
use Rattle.questions.proofs.totals.entries_at.Goals as goal

pub overflow_add-result : goal.overflow_add-result
overflow_add-result g c =
    let waiting = few_messages_wait (g.W.Wiring.waits c.args.wiring.now) c.args.server in
    let forward = few_entries_are_to_forward (servers c.args.fleet.now) c.args.server in
    omega (arith, c.count.ensures, c.forward_count.ensures)

pub returns : goal.returns
returns g c =
    let waiting = few_messages_wait (g.W.Wiring.waits c.args.wiring.now) c.args.server in
    let forward = few_entries_are_to_forward (servers c.args.fleet.now) c.args.server in
    record { is = search rules; few = omega (arith, c.count.ensures, c.forward_count.ensures) }
