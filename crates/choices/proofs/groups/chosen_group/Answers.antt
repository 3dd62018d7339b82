-- The least of the keys of the groups is that of the group whose turn it is.
use Rattle.std.proofs.Common.{◌≡◌, sym, ap, ◌∙◌, subst, arith}
use Rattle.std.proofs.lemmas.Bool.Decides.{nat_tests}
use Rattle.counting.proofs.Searches.{none_is_found}
use Rattle.journal.specs.View.{view}
use Rattle.model.specs.Turns.{group_waits}
use Rattle.servers.specs.Sets.{has}
use Rattle.servers.proofs.Members.{has_none}
use Rattle.fleet.specs.View.{servers, state}
use Rattle.choices.specs.Keys.{LeastWaiting}
use Rattle.choices.proofs.Ordered.{groups_go_in_order}
use Rattle.choices.proofs.Ranks.{keys_of_what_waits, the_group_found_is_least}
use Rattle.choices.proofs.groups.chosen_group.Goals as goal

pub returns-then-is_empty : goal.returns-then-is_empty
returns-then-is_empty c =
    let waits = group_waits (state c.args.fleet.now (view c.args.journal.now)) c.args.server in
    let groups = c.groups_waiting-groups in
    let none : groups.result.bits ≡ 0 = grind (arith, nat_tests, c.if-is_empty.ensures) in
    sym (none_is_found waits _ 8 (λ j low. sym (groups.ensures j low) ∙ (ap (λ bits. has bits j) none ∙ has_none j)))

pub returns : goal.returns
returns c =
    let fleet = c.args.fleet.now in
    let waits = group_waits (state fleet (view c.args.journal.now)) c.args.server in
    let keys = c.group_keys-keys in
    let is = keys_of_what_waits keys.result (servers fleet) c.args.server _ _ _ waits keys.ensures.keys c.groups_waiting-groups.ensures c.some_entry.ensures in
    the_group_found_is_least keys.result waits _ keys.ensures.sized is c.least_waiting.result
    (subst (λ below. LeastWaiting below keys.result c.least_waiting.result) groups_go_in_order c.least_waiting.ensures)
