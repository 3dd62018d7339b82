use Rattle.std.proofs.Common.{refl}
use Rattle.servers.specs.Sets.{join}
use Rattle.servers.proofs.ServerSet.union.Goals as goal

pub returns : goal.returns
unfolding join
returns c = refl
