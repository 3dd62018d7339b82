-- The store goes on naming what waits: there is room for a new place, and any other is named already.
use Rattle.std.proofs.Common.{List, map, sym, ap, ◌∙◌}
use Rattle.std.proofs.lemmas.List.{map_push}
use Rattle.std.proofs.lemmas.Bool.{cond-true}
use Rattle.masks.proofs.Listing.{a_new_place_has_room, no_new_place_is_named}
use Rattle.masks.specs.Lanes.{lane_masks}
use Rattle.masks.specs.Lines.{lane_places, numbers}
use Rattle.messages.specs.declared.Place.{Place}
use Rattle.messages.specs.Phases.{phase_number}
use Rattle.masks.proofs.lane.Lane.put.Goals as goal

pub invariant_of-self : goal.invariant_of-self
invariant_of-self g c =
    let lane = c.args.self.now in record {
      named = (a_new_place_has_room c.args.place (g.S.Store.listed lane.store) (g.S.Store.listed c.push.new.self) (lane_masks lane) c.join.new.self c.args.mask.bits
          lane.named c.join.ensures.masks (sym c.if-join.ensures.new) c.push.ensures).1;
    }

pub invariant_of-self-else-join : goal.invariant_of-self-else-join
invariant_of-self-else-join g c =
    let lane = c.args.self.now in record {
      named = no_new_place_is_named (g.S.Store.listed lane.store) (lane_masks lane) c.join.new.self c.args.place.row.0 (phase_number c.args.place.phase) c.args.mask.bits
          lane.named c.join.ensures.masks (sym c.if-join.ensures.new);
    }

pub returns-then-join-clause-line : goal.returns-then-join-clause-line
returns-then-join-clause-line g c =
    let lane = c.args.self.now in
    let new = sym c.if-join.ensures.new in
    let pushed = (a_new_place_has_room c.args.place (lane_places lane) (g.S.Store.listed c.push.new.self) (lane_masks lane) c.join.new.self c.args.mask.bits
    lane.named c.join.ensures.masks new c.push.ensures).0 in
    ap (λ (xs : List Place). map numbers xs) pushed ∙ (map_push numbers (lane_places lane) c.args.place ∙ sym (cond-true _ _ _ new))
