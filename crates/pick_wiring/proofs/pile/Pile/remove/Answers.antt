-- The place at `at` leaves the pile, since the last one fills in.
use Rattle.std.proofs.Common.{◌≡◌, ◌+◌, ◌-◌, ◌<◌, get_or, take, set, sym, subst, arith}
use Rattle.std.proofs.lemmas.List.{get_or-take, length-take-le}
use Rattle.masks.specs.Listed.{no_place}
use Rattle.masks.specs.Listed.{Without}
use Rattle.pick_wiring.proofs.Removal.{the_last_fills_in}
use Rattle.pick_wiring.proofs.pile.Pile.remove.Goals as goal

pub returns : goal.returns
returns c =
    let p = c.args.self.now in
    let at = c.args.at in
    let l : at < p.len = c.if-at-self.false in
    let e : p.len - 1 + 1 ≡ p.len = omega arith in (
      omega (arith, l, length-take-le p.len p.places (omega (arith, p.sized, p.room))),
      sym (get_or-take p.len p.places at no_place l),
      subst (λ n. Without (take n p.places) (get_or p.places at no_place) (take (p.len - 1) (set p.places at (get_or p.places (p.len - 1) no_place)))) e
          (the_last_fills_in p.places (p.len - 1) at (omega (arith, p.sized, p.room)) (omega arith)),
    )
