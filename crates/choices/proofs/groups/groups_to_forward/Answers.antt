use Rattle.std.proofs.Common.{rules, tests, ap, ◌∙◌, cond, map}
use Rattle.std.specs.List.{range_with_len}
use Rattle.std.proofs.lemmas.Iterator.Consumers.{fold_from_yields_List}
use Rattle.servers.specs.Sets.{has}
use Rattle.fleet.proofs.Rows.{the_rows_in_order, row_at, over_those_that_pass}
use Rattle.fleet.specs.View.{servers}
use Rattle.journal.specs.View.{view}
use Rattle.model.specs.Turns.{has_entry}
use Rattle.choices.proofs.GroupSets.{the_groups_are_gathered, with_group}
use Rattle.choices.proofs.groups.groups_to_forward.Goals as goal

pub returns : goal.returns
returns c j low =
    let entries = has_entry (servers c.args.fleet.now) c.args.server in
    let tag = (view c.args.journal.now).tag in
    ap (λ s. has s.bits j) (fold_from_yields_List _ (λ groups r. cond (entries r.0) (with_group entries tag groups r) groups) c.empty.result c.fold.result c.fold.ensures.ran
    (the_rows_in_order _ c.map.ensures.source c.map.ensures.closure (λ x r q k. search (rules, tests)))
    (λ a x b q k. search (rules, tests))
    ∙ over_those_that_pass entries (with_group entries tag) c.empty.result (map row_at (range_with_len 0 256)))
    ∙ the_groups_are_gathered entries tag c.empty.result c.empty.ensures j low 256
