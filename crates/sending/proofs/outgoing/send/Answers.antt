-- What is put for the next is sent, and what is not put, since the next has crashed, is lost.
use Rattle.std.proofs.Common.{◌<◌, sym, ap, ◌∙◌, rules}
use Rattle.messages.specs.Waiting.{put_in}
use Rattle.sending.specs.View.{state}
use Rattle.sending.proofs.Posting.{put_is_sent, who_stands_has_a_place}
use Rattle.sending.proofs.outgoing.send.Goals as goal

pub returns-then-is_standing : goal.returns-then-is_standing
returns-then-is_standing g c =
    let waits = g.W.Wiring.waits in
    let fleet = c.args.fleet.now in
    let before = waits c.args.wiring.now in
    let q = c.next_of-next.result in
    let stands = sym c.if-is_standing.ensures in
    let room : c.args.row.0 < 256 = search rules in
    λ j. put_is_sent (state j fleet before) c.args.server q c.args.row.0 c.args.phase c.args.mask.bits c.next_of-next.ensures.is
    stands (who_stands_has_a_place fleet q stands) room (waits c.put.new.self)
    (c.put.ensures ∙ ap (λ n. put_in before q c.args.row.0 n c.args.mask.bits) c.from.ensures)
