-- Past the lanes there is no message.
use Rattle.std.proofs.Common.{arith}
use Rattle.masks.specs.Lanes.{lane_masks}
use Rattle.masks.proofs.Lanes.{no_lane_counts_nothing}
use Rattle.masks.proofs.server_lanes.ServerLanes.count.Goals as goal

pub returns-then-server-ge-SERVERS : goal.returns-then-server-ge-SERVERS
returns-then-server-ge-SERVERS g c =
    let w = c.args.self.now in no_lane_counts_nothing lane_masks w.lanes c.args.server (omega (arith, w.eight, c.if-server-ge-SERVERS.true))
