use Rattle.std.proofs.Common.{◌≡◌, ◌<◌, true, eqb, None, refl, rules}
use Rattle.model.specs.declared.Outcome.TheVariants.{Done}
use Rattle.model.specs.Sending.{next_of}
use Rattle.model.specs.Crashes.{refuse_notice, notices}
use Rattle.sending.specs.View.{state}
use Rattle.sending.proofs.Telling.{accepted_does_it}
use Rattle.crashes.proofs.Noticed.{the_new_next_is_told}
use Rattle.crashes.proofs.noticing.notice.Goals as goal

pub returns-then-was_next : goal.returns-then-was_next
returns-then-was_next g c = λ j.
    let waits = g.W.Wiring.waits in
    let fleet = c.args.fleet.now in
    let before = waits c.args.wiring.now in
    let p = c.args.server in
    let x = c.args.other in
    let s = state j fleet before in
    let none : refuse_notice s p x ≡ None = search rules in
    let low : p < 8 = search rules in
    let other_low : x < 8 = search rules in
    let was_next : eqb (next_of s p) x ≡ true = search rules in
    accepted_does_it (refuse_notice s p x) s Done (notices s p x) Done (state j c.notice.new.self (waits c.send_pending.new.wiring)) none refl
    (the_new_next_is_told j fleet c.notice.new.self before (waits c.send_held.new.wiring) (waits c.send_pending.new.wiring) p x low (c.notice.ensures.other other_low) was_next (c.send_held.ensures j) (c.send_pending.ensures j))
