-- An empty store names what waits in an empty table: nothing.
use Rattle.masks.specs.Table.{masks_of}
use Rattle.masks.proofs.Listing.{no_place_for_no_message}
use Rattle.masks.proofs.lane.Lane.new.Goals as goal

pub invariant_of-result : goal.invariant_of-result
invariant_of-result g c = record { named = no_place_for_no_message (g.S.Store.listed c.new-2.result) (masks_of c.new.result) c.new-2.ensures c.new.ensures }
