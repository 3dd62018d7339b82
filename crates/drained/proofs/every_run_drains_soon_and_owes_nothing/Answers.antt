use Rattle.drained.proofs.every_run_drains_soon_and_owes_nothing.Goals as goal
use Rattle.drained.proofs.OwesNothing.{ends_well}

pub returns : goal.returns
returns g c = λ run. ends_well run
