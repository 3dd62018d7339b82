use Rattle.std.proofs.Common.{rules, tests, ◌≤◌, ◌^◌, cond, length, take, sym, ◌∙◌, arith}
use Rattle.std.proofs.lemmas.Iterator.{YieldsList-from_slice, YieldsList-from_map}
use Rattle.std.proofs.lemmas.Iterator.Adapters.{fits_from_length, at_most_from_yields_List}
use Rattle.std.proofs.lemmas.Iterator.Consumers.{sum_by_from_yields_List}
use Rattle.std.proofs.lemmas.List.Sums.{length-filter}
use Rattle.journal.proofs.Searches.{count_used}
use Rattle.journal.proofs.journal.Journal.row_count.Goals as goal

pub sum-requires-clause-fits : goal.sum-requires-clause-fits
sum-requires-clause-fits g c =
    let used = take c.args.self.now.used c.args.self.now.rows in
    let few : length used ≤ 256 = search rules in
    fits_from_length _ _ 256 (2 ^ 16) (at_most_from_yields_List (YieldsList-from_slice used cc) few) c.map.ensures.closure (omega arith) (λ x r q k. search rules)

pub returns : goal.returns
returns g c = λ test same.
    let used = take c.args.self.now.used c.args.self.now.rows in
    sum_by_from_yields_List (λ o. cond (test o) 1 0) used c.map.result _ c.sum.ensures.ran
    (YieldsList-from_map _ (λ o. cond (test o) 1 0) (YieldsList-from_slice used cc) c.map.ensures.closure (λ x r q k. search (rules, tests, same)))
    ∙ (sym (length-filter test used) ∙ count_used c.args.self.now test)
