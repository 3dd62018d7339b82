use Rattle.std.proofs.Common.{rules, tests, ◌∙◌, ◌+◌, ap, cond, map, max}
use Rattle.std.specs.List.{range_with_len}
use Rattle.std.proofs.lemmas.Iterator.Consumers.{fold_from_yields_List}
use Rattle.counting.specs.Below.{top}
use Rattle.journal.specs.View.{view}
use Rattle.model.specs.State.{is_pending, tag_number}
use Rattle.fleet.specs.View.{servers}
use Rattle.fleet.proofs.Rows.{the_rows_in_order, row_at, higher_row, over_those_that_pass, highest_row_is_top}
use Rattle.fleet.proofs.fleet.Fleet.highest_row.Goals as goal

pub returns : goal.returns
returns c =
    let pends = is_pending (servers c.args.self.now) c.args.server in
    let tag = (view c.args.journal.now).tag in
    ap (λ n. 1 + n) (ap (λ r. tag_number (tag r.0)) (fold_from_yields_List _ (λ a r. cond (pends r.0) (higher_row tag a r) a) c.held.result c.fold.result c.fold.ensures.ran
    (the_rows_in_order _ c.map.ensures.source c.map.ensures.closure (λ x r q k. search (rules, tests)))
    (λ a x b q k. search (rules, tests))
    ∙ over_those_that_pass pends (higher_row tag) c.held.result (map row_at (range_with_len 0 256)))
    ∙ (highest_row_is_top pends tag c.held.result 256 ∙ ap (λ h. max (tag_number (tag h)) (top pends (λ k. tag_number (tag k)) 256)) c.held.ensures))
