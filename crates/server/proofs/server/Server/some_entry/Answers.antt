use Rattle.std.proofs.Common.{rules, tests, ◌≡◌, ◌∙◌, length}
use Rattle.std.proofs.lemmas.Iterator.{YieldsList-from_slice}
use Rattle.std.proofs.lemmas.Iterator.Search.{any_from_yields_List}
use Rattle.counting.proofs.Ranges.{any_of_list}
use Rattle.server.specs.Cells.{has_entry, no_cell}
use Rattle.server.proofs.server.Server.some_entry.Goals as goal

pub returns : goal.returns
returns c =
    let cells = c.args.self.now.cells in
    let sized : length cells ≡ 256 = search rules in
    any_from_yields_List has_entry _ _ _ c.any.ensures.ran (YieldsList-from_slice cells cc) (λ x b q k. search (rules, tests)) ∙ any_of_list cells no_cell 256 sized has_entry
