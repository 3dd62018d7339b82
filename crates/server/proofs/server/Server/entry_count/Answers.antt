use Rattle.std.proofs.Common.{rules, tests, ◌≡◌, ◌≤◌, ◌∙◌, length, arith, ◌^◌}
use Rattle.std.proofs.lemmas.Iterator.{YieldsList-from_slice, YieldsList-from_map}
use Rattle.std.proofs.lemmas.Iterator.Adapters.{fits_from_length, at_most_from_yields_List}
use Rattle.std.proofs.lemmas.Iterator.Consumers.{sum_by_from_yields_List}
use Rattle.counting.proofs.Ranges.{sum_of_list}
use Rattle.server.specs.Cells.{entry_count, no_cell}
use Rattle.server.proofs.server.Server.entry_count.Goals as goal

pub sum-requires-clause-fits : goal.sum-requires-clause-fits
sum-requires-clause-fits c =
    let cells = c.args.self.now.cells in
    let sized : length cells ≤ 256 = search rules in
    fits_from_length _ _ 256 (2 ^ 64) (at_most_from_yields_List (YieldsList-from_slice cells cc) sized) c.map.ensures.closure (omega arith) (λ x r q k. search rules)

pub returns : goal.returns
returns c =
    let cells = c.args.self.now.cells in
    let sized : length cells ≡ 256 = search rules in
    sum_by_from_yields_List entry_count cells c.map.result _ c.sum.ensures.ran (YieldsList-from_map _ entry_count (YieldsList-from_slice cells cc) c.map.ensures.closure (λ x r q k. search (rules, tests))) ∙ sum_of_list cells no_cell 256 sized entry_count
