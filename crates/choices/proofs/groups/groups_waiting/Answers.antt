use Rattle.std.proofs.Common.{ap, ◌∙◌, arith}
use Rattle.std.proofs.lemmas.Bool.Decides.{nat_tests}
use Rattle.servers.specs.Sets.{has}
use Rattle.choices.proofs.GroupSets.{a_server_is_added}
use Rattle.choices.proofs.groups.groups_waiting.Goals as goal

pub returns-then-is_some : goal.returns-then-is_some
returns-then-is_some c j low =
    let forward = c.groups_to_forward-groups.ensures j low in
    let added = a_server_is_added c.groups_to_forward-groups.result.bits c.args.server j low in
    let queued = c.if-is_some.ensures ∙ c.first_queued.ensures.some in
    ap (λ m. has m j) c.with.ensures ∙ grind (arith, nat_tests)
