use Rattle.std.proofs.Common.{rules}
use Rattle.table.proofs.NewServers.{all_are_new}
use Rattle.fleet.proofs.fleet.Fleet.empty.Goals as goal

pub returns : goal.returns
returns c = search (rules, all_are_new)
