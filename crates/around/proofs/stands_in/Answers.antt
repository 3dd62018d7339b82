use Rattle.std.proofs.Common.{rules, tests, refl, ◌∙◌, arith}
use Rattle.std.proofs.lemmas.Iterator.{YieldsList-from_range}
use Rattle.std.proofs.lemmas.Iterator.Search.{all_from_yields_List}
use Rattle.servers.specs.Sets.{has}
use Rattle.circle.specs.Circle.{after, dist}
use Rattle.around.proofs.Rounds.{stands_in_is_all}
use Rattle.around.proofs.stands_in.Goals as goal

pub returns : goal.returns
returns c =
    all_from_yields_List (λ d. has c.args.noticed.bits (after c.args.size c.args.origin d)) _ _ c.all.result c.all.ensures.ran
    (YieldsList-from_range 0 c.distance.result (dist c.args.size c.args.origin c.args.server) refl (omega (arith, c.distance.ensures))) (λ d answer f says. search (rules, tests))
    ∙ stands_in_is_all c.args.size (has c.args.noticed.bits) c.args.server c.args.origin
