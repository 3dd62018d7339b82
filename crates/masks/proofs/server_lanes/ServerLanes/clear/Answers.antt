-- One lane is emptied.
use Rattle.std.proofs.Common.{◌<◌, length, arith}
use Rattle.masks.specs.Lanes.{lane_masks}
use Rattle.masks.proofs.Lanes.{a_lane_is_emptied}
use Rattle.masks.proofs.Lines.{a_line_is_emptied}
use Rattle.masks.proofs.server_lanes.ServerLanes.clear.Goals as goal

pub returns-then-server-lt-SERVERS : goal.returns-then-server-lt-SERVERS
returns-then-server-lt-SERVERS g c =
    let w = c.args.self.now in
    let l : c.args.server < length w.lanes = omega (arith, w.eight, c.if-server-lt-SERVERS.true) in
    record {
      waiting = a_lane_is_emptied lane_masks w.lanes c.args.server c.new.result l c.new.ensures.masks;
      line = a_line_is_emptied w.lanes c.args.server c.new.result l c.new.ensures.line;
    }
