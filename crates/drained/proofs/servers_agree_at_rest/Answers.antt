use Rattle.drained.proofs.servers_agree_at_rest.Goals as goal
use Rattle.drained.proofs.ServersAgree.{servers_agree_at_rest}

pub returns : goal.returns
returns g c = λ run. servers_agree_at_rest run
