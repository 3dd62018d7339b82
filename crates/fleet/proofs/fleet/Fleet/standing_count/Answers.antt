use Rattle.std.proofs.Common.{rules, tests, ◌∙◌, arith}
use Rattle.std.proofs.lemmas.Iterator.{YieldsList-from_range}
use Rattle.std.proofs.lemmas.Iterator.Consumers.{count_from_yields_List, YieldsList-from_filter}
use Rattle.counting.proofs.Ranges.{count_of_range}
use Rattle.fleet.specs.View.{servers}
use Rattle.fleet.proofs.fleet.Fleet.standing_count.Goals as goal

pub returns : goal.returns
returns c =
    let size = c.args.self.now.size in
    let stands = (servers c.args.self.now).standing in
    count_from_yields_List c.filter.result _ c.count.ensures.ran (YieldsList-from_filter _ stands (YieldsList-from_range 0 size size c.filter.ensures.source (omega arith)) c.filter.ensures.closure (λ x b q k. search (rules, tests)))
    ∙ count_of_range stands size
