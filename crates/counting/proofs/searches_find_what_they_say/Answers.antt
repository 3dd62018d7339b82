use Rattle.counting.proofs.Searches.{finds}
use Rattle.counting.proofs.searches_find_what_they_say.Goals as goal

pub returns : goal.returns
returns c = finds
