use Rattle.std.proofs.Common.{rules}
use Rattle.fleet.proofs.PastTheEnd.{no_entry_is_counted}
use Rattle.fleet.proofs.fleet.Fleet.forward_count.Goals as goal

pub returns : goal.returns
returns c =
    let past = no_entry_is_counted c.args.self.now.list c.args.server c.args.self.now.sized in
    search rules
