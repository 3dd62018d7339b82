-- There is room, and the place written behind the last one stands last.
use Rattle.std.proofs.Common.{◌≡◌, ◌+◌, ◌%◌, ◌<◌, true, ltb, length, set, sym, refl, ap, ◌∙◌, add-one, arith}
use Rattle.std.proofs.lemmas.Bool.{cond-true}
use Rattle.std.proofs.lemmas.Bool.Decides.{nat_tests}
use Rattle.line_wiring.specs.Queued.{from, queued}
use Rattle.line_wiring.proofs.Circle.{a_queue_has_its_length, the_last_stands_behind}
use Rattle.line_wiring.proofs.queue_calls.QueueStore.push.Goals as goal

pub returns-then-self-lt-PLACES : goal.returns-then-self-lt-PLACES
returns-then-self-lt-PLACES c =
    let q = c.args.self.now in
    let at = (q.head + q.len) % 512 in
    let few : q.len < 512 = c.if-self-lt-PLACES.true in
    let room : ltb (length (queued q)) 512 ≡ true = (let n = a_queue_has_its_length q.places q.head q.len in grind (arith, nat_tests)) in
    ap (from (set q.places at c.args.place) q.head) (add-one q.len)
    ∙ (the_last_stands_behind q.places c.args.place q.head q.len at q.sized q.inside few refl
    ∙ sym (cond-true _ _ _ room))
