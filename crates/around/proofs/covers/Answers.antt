use Rattle.std.proofs.Common.{rules, tests, ◌||◌, eqb, refl, ◌∙◌, arith}
use Rattle.std.proofs.lemmas.Iterator.{YieldsList-from_range}
use Rattle.std.proofs.lemmas.Iterator.Search.{all_from_yields_List}
use Rattle.servers.specs.Sets.{has}
use Rattle.around.proofs.Rounds.{covers_is_all}
use Rattle.around.proofs.covers.Goals as goal

pub returns : goal.returns
returns c =
    all_from_yields_List (λ q. has c.args.noticed.bits q || (eqb q c.args.server || has c.args.mask.bits q)) _ _ c.all.result c.all.ensures.ran
    (YieldsList-from_range 0 c.args.size c.args.size refl (omega arith)) (λ q answer f says. search (rules, tests))
    ∙ covers_is_all c.args.size (has c.args.noticed.bits) c.args.server c.args.mask.bits
