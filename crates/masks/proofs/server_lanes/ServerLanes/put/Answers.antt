-- One lane is joined: what waits, and the line of that server.
use Rattle.masks.specs.Lanes.{lane_masks}
use Rattle.masks.proofs.Lanes.{a_lane_is_joined}
use Rattle.masks.proofs.Lines.{a_line_is_joined}
use Rattle.masks.proofs.server_lanes.ServerLanes.put.Goals as goal

pub returns : goal.returns
returns g c =
    let w = c.args.self.now in
    record {
      waiting = a_lane_is_joined lane_masks w.lanes c.args.to c.args.row c.args.phase c.args.mask.bits c.index-lanes-to.result c.put.new.self c.in-Ok.place
          w.eight c.if-to-ge-SERVERS.false c.in-Ok.ensures.0 c.put.ensures.masks;
      line = a_line_is_joined w.lanes c.args.to c.args.row c.args.phase c.args.mask.bits c.index-lanes-to.result c.put.new.self c.in-Ok.place
          w.eight c.if-to-ge-SERVERS.false c.in-Ok.ensures.0 c.put.ensures.line;
    }
