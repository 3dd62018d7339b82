-- One lane gives a message.
use Rattle.masks.specs.Lanes.{lane_masks}
use Rattle.masks.proofs.Lanes.{a_lane_gives}
use Rattle.masks.proofs.server_lanes.ServerLanes.take.Goals as goal

pub returns-clause-waiting : goal.returns-clause-waiting
returns-clause-waiting g c =
    let w = c.args.self.now in
    a_lane_gives lane_masks w.lanes c.args.server c.take.result c.index-lanes-server.result c.take.new.self w.eight c.if-server-ge-SERVERS.false c.take.ensures.masks
