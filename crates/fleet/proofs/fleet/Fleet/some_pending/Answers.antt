use Rattle.std.proofs.Common.{rules}
use Rattle.fleet.proofs.PastTheEnd.{nothing_is_pending}
use Rattle.fleet.proofs.fleet.Fleet.some_pending.Goals as goal

pub returns : goal.returns
returns c =
    let past = nothing_is_pending c.args.self.now.list c.args.server c.args.self.now.sized in
    search rules
