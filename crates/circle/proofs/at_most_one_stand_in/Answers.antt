use Rattle.circle.proofs.Crashed.{one_stand_in}
use Rattle.circle.proofs.at_most_one_stand_in.Goals as goal

pub returns : goal.returns
returns c = λ n standing noticed o lo honest s t ls lt. one_stand_in n standing noticed honest s t o ls lt lo
