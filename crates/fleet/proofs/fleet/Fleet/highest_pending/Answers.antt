use Rattle.std.proofs.Common.{rules, tests, ◌∙◌, ap, cond, map}
use Rattle.std.specs.List.{range_with_len}
use Rattle.std.proofs.lemmas.Iterator.Consumers.{fold_from_yields_List}
use Rattle.journal.specs.View.{view}
use Rattle.model.specs.State.{is_pending}
use Rattle.operation.specs.Tags.{first_tag, higher_tag, tag_key}
use Rattle.fleet.specs.View.{servers}
use Rattle.fleet.proofs.Rows.{the_rows_in_order, row_at, tag_at, over_those_that_pass, highest_tag_is_top}
use Rattle.fleet.proofs.fleet.Fleet.highest_pending.Goals as goal

pub returns : goal.returns
returns c =
    let pends = is_pending (servers c.args.self.now) c.args.server in
    let tag = (view c.args.journal.now).tag in
    ap tag_key (fold_from_yields_List _ (λ a r. cond (pends r.0) (higher_tag a (tag_at tag r)) a) first_tag c.fold.result c.fold.ensures.ran
    (the_rows_in_order _ c.map.ensures.source c.map.ensures.closure (λ x r q k. search (rules, tests)))
    (λ a x b q k. search (rules, tests))
    ∙ over_those_that_pass pends (λ a r. higher_tag a (tag_at tag r)) first_tag (map row_at (range_with_len 0 256)))
    ∙ highest_tag_is_top pends tag 256
