-- The search finds the least of the rest, and the swap exchanges it with the first of the rest.
use Rattle.std.proofs.Common.{length, take, drop, ◌-◌, subst, arith}
use Rattle.masks.specs.Listed.{no_place}
use Rattle.messages.proofs.Ordered.{places_go_in_order}
use Rattle.search.specs.Order.{LeastOf}
use Rattle.pick_wiring.proofs.Selection.{the_least_is_brought}
use Rattle.pick_wiring.proofs.pile.Pile.bring_least.Goals as goal

pub returns-in-Some : goal.returns-in-Some
returns-in-Some c =
    let p = c.args.self.now in
    let keys = take (p.len - c.args.at) (drop c.args.at p.places) in
    the_least_is_brought p.places c.swap.new.self p.len c.args.at c.in-Some.offset (omega (arith, p.sized, p.room)) c.if-at-self.false
    (subst (λ below. LeastOf below keys (length keys) c.in-Some.offset) places_go_in_order c.in-Some.ensures) (c.swap.ensures.by_index.3 no_place)
