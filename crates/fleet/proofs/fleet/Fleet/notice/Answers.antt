use Rattle.std.proofs.Common.{rules}
use Rattle.fleet.proofs.Changed.{changes}
use Rattle.fleet.proofs.fleet.Fleet.notice.Goals as goal

pub returns-then-server-lt-SERVERS : goal.returns-then-server-lt-SERVERS
returns-then-server-lt-SERVERS c = search (rules, changes)
