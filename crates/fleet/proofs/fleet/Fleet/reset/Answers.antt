use Rattle.table.proofs.NewServers.{all_are_new}
use Rattle.fleet.proofs.fleet.Fleet.reset.Goals as goal

pub returns-then-size-le-SERVERS-clause-kept : goal.returns-then-size-le-SERVERS-clause-kept
returns-then-size-le-SERVERS-clause-kept c few = all_are_new c.new_servers-self.result c.args.size few c.new_servers-self.ensures.sized c.new_servers-self.ensures.all_new
