-- Behind a sorted front stands the place of that rank.
use Rattle.std.proofs.Common.{◌≡◌, ◌%◌, ◌<◌, length, sym, ap, arith}
use Rattle.std.proofs.lemmas.Nat.{mod_below}
use Rattle.std.proofs.lemmas.List.{length-take-le}
use Rattle.pick_wiring.specs.Piled.{piled}
use Rattle.pick_wiring.proofs.Ranking.{the_place_of_a_rank}
use Rattle.pick_wiring.proofs.pile_calls.PileStore.take.Goals as goal

pub returns-clause-choice : goal.returns-clause-choice
returns-clause-choice c =
    let p = c.args.self.now in
    let long : length (piled p) ≡ p.len = length-take-le p.len p.places (omega (arith, p.sized, p.room)) in
    let low : c.args.number % p.len < p.len = mod_below c.args.number p.len (omega (arith, c.if-self-eq0.false)) in
    the_place_of_a_rank (piled p) (piled c.sort_front.new.self) (piled c.remove.new.self) c.args.number (c.args.number % p.len) c.remove.result
    (ap (λ n. c.args.number % n) (sym long)) (omega (arith, long, low)) c.sort_front.ensures c.remove.ensures
