use Rattle.model.proofs.WorkedFacts.{worked_facts}
use Rattle.model.proofs.worked_facts_hold.Goals as goal

pub returns : goal.returns
returns c = worked_facts
