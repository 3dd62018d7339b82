use Rattle.std.proofs.Common.{rules, refl}
use Rattle.journal.specs.View.{view}
use Rattle.table.proofs.OneServer.{holding_keeps_all_rows, one_holds}
use Rattle.fleet.proofs.Changed.{the_server_is_there, changed_there}
use Rattle.fleet.proofs.fleet.Fleet.hold.Goals as goal

pub invariant_of-self : goal.invariant_of-self
invariant_of-self c =
    let fleet = c.args.self.now in
    let low = c.if-server-lt-SERVERS.true in
    record {
      few = search rules;
      sized = search rules;
      rows = holding_keeps_all_rows fleet.list c.args.server (the_server_is_there fleet c.args.server low) _ (view c.args.journal.now).tag c.args.row.0 fleet.rows low c.hold.ensures;
      groups = search rules;
    }

pub returns-then-server-lt-SERVERS : goal.returns-then-server-lt-SERVERS
returns-then-server-lt-SERVERS c =
    let fleet = c.args.self.now in
    let low = c.if-server-lt-SERVERS.true in
    changed_there fleet c.args.server low refl
    (one_holds fleet.list c.args.server (the_server_is_there fleet c.args.server low) _ (view c.args.journal.now).tag c.args.row.0 (fleet.rows c.args.server low) c.hold.ensures)
