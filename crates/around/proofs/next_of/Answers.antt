use Rattle.std.proofs.Common.{rules, tests, ◌-◌, not, refl, ◌∙◌}
use Rattle.std.proofs.lemmas.Iterator.{YieldsList-from_range, YieldsList-from_map}
use Rattle.std.proofs.lemmas.Iterator.Consumers.{YieldsList-at}
use Rattle.std.proofs.lemmas.Iterator.Search.{find_from_yields_List}
use Rattle.servers.specs.Sets.{has}
use Rattle.circle.specs.Circle.{after}
use Rattle.around.proofs.Rounds.{next_is_found}
use Rattle.around.proofs.next_of.Goals as goal

pub returns-clause-is : goal.returns-clause-is
returns-clause-is c =
    let found = find_from_yields_List (λ q. not (has c.args.noticed.bits q)) _ _ c.find.result c.find.ensures.ran
    (YieldsList-from_map _ (after c.args.size c.args.server) (YieldsList-at c.map.ensures.source (YieldsList-from_range 1 c.args.size (c.args.size - 1) refl refl)) c.map.ensures.closure (λ x r q k. search rules))
    (λ q answer f says. search (rules, tests)) in
    c.unwrap_or.ensures ∙ next_is_found c.args.size (has c.args.noticed.bits) c.args.server c.find.result found
