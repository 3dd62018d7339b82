-- Without the place that it handed out the store names what waits after that message went out.
use Rattle.masks.proofs.Listing.{a_place_is_named_no_more}
use Rattle.masks.specs.Lanes.{lane_masks}
use Rattle.masks.specs.Table.{masks_of}
use Rattle.masks.proofs.lane.Lane.take.Goals as goal

pub invariant_of-self-2 : goal.invariant_of-self-2
invariant_of-self-2 g c =
    let lane = c.args.self.now in record {
      named = a_place_is_named_no_more c.in_ok-place.place (g.S.Store.listed c.take.new.self) (g.S.Store.listed lane.store) (lane_masks lane) (masks_of c.take_out.new.self) c.take_out.result
          c.in_ok-place.ensures.left lane.named c.take_out.ensures;
    }
