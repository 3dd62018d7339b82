-- The least of the keys of the rows is that of the group's first entry.
use Rattle.std.proofs.Common.{None, Some, ap, ◌∙◌, subst}
use Rattle.journal.specs.Questions.{row_found}
use Rattle.journal.specs.View.{view}
use Rattle.model.specs.Turns.{has_entry_of}
use Rattle.fleet.specs.View.{state}
use Rattle.operation.proofs.Ordered.{tags_go_in_order}
use Rattle.choices.specs.Keys.{LeastWaiting}
use Rattle.choices.proofs.Ranks.{the_entry_found_is_least}
use Rattle.choices.proofs.entries.first_entry.Goals as goal

pub returns : goal.returns
returns c =
    let journal = view c.args.journal.now in
    let keys = c.entry_keys-keys in
    let waits = has_entry_of (state c.args.fleet.now journal) c.args.server c.args.group in
    the_entry_found_is_least keys.result waits journal.tag keys.ensures.sized keys.ensures.keys (Some c.in_ok-place.place)
    (subst (λ below. LeastWaiting below keys.result (Some c.in_ok-place.place)) tags_go_in_order c.in_ok-place.ensures)

pub returns-in_err-place : goal.returns-in_err-place
returns-in_err-place c =
    let journal = view c.args.journal.now in
    let keys = c.entry_keys-keys in
    let waits = has_entry_of (state c.args.fleet.now journal) c.args.server c.args.group in
    ap row_found c.from_residual.ensures ∙ the_entry_found_is_least keys.result waits journal.tag keys.ensures.sized keys.ensures.keys None
    (subst (λ below. LeastWaiting below keys.result None) tags_go_in_order c.in_err-place.ensures)
