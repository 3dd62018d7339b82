-- The store names each message once, so that it is as long as there are messages.
use Rattle.std.proofs.Common.{◌∙◌}
use Rattle.masks.proofs.Listing.{as_many_as_wait}
use Rattle.masks.proofs.lane.Lane.count.Goals as goal

pub returns : goal.returns
returns g c = let lane = c.args.self.now in c.len.ensures ∙ as_many_as_wait (g.S.Store.listed lane.store) lane.masks lane.named
