use Rattle.std.proofs.Common.{◌≡◌, Some, None, Err, rules}
use Rattle.model.specs.declared.Refusal.TheVariants.{NothingToSend}
use Rattle.sending.specs.View.{memory_state}
use Rattle.turns.proofs.TurnsTaken.{an_accepted_server_is_low, a_refused_server_changes_nothing, no_group_has_a_turn, a_group_has_its_turn}
use Rattle.turns.proofs.turning.turn.Goals as goal

pub returns-in_err-refuse_server : goal.returns-in_err-refuse_server
returns-in_err-refuse_server g c =
    let before = g.W.Wiring.waits c.args.wiring.now in
    let reason = c.in_err-refuse_server.field-0.0 in
    let told : c.from_residual.result ≡ Err reason = search rules in
    a_refused_server_changes_nothing c.args.memory.now before c.args.server reason c.from_residual.result (c.in_err-refuse_server.ensures c.args.memory.now.journal before) told

pub returns-in_err-group : goal.returns-in_err-group
returns-in_err-group g c =
    let before = g.W.Wiring.waits c.args.wiring.now in
    let told : c.from_residual-in_err-group.result ≡ Err NothingToSend = search rules in
    rw told
    (no_group_has_a_turn c.args.memory.now before c.args.server (c.in_ok-refuse_server.ensures c.args.memory.now.journal before) c.chosen_group.result c.chosen_group.ensures c.in_err-group.ensures.ok_part)

pub forward-requires : goal.forward-requires
forward-requires g c =
    let before = g.W.Wiring.waits c.args.wiring.now in
    an_accepted_server_is_low c.args.memory.now before c.args.server (c.in_ok-refuse_server.ensures c.args.memory.now.journal before)

pub start_queued-requires : goal.start_queued-requires
start_queued-requires g c =
    let before = g.W.Wiring.waits c.args.wiring.now in
    an_accepted_server_is_low c.args.memory.now before c.args.server (c.in_ok-refuse_server.ensures c.args.memory.now.journal before)

pub returns-in-Some : goal.returns-in-Some
returns-in-Some g c =
    let waits = g.W.Wiring.waits in
    let before = waits c.args.wiring.now in
    a_group_has_its_turn c.args.memory.now before c.args.server (c.in_ok-refuse_server.ensures c.args.memory.now.journal before) c.chosen_group.result c.in_ok-group.group (Some c.in-Some.row.0) c.count_turn.new.self c.some_entry-some_entry.result
    (memory_state c.forward.new.memory (waits c.forward.new.wiring)) c.chosen_group.ensures c.in_ok-group.ensures.ok_part c.in-Some.ensures c.some_entry-some_entry.ensures c.count_turn.ensures.group c.forward.ensures

pub returns-in-None : goal.returns-in-None
returns-in-None g c =
    let waits = g.W.Wiring.waits in
    let before = waits c.args.wiring.now in
    a_group_has_its_turn c.args.memory.now before c.args.server (c.in_ok-refuse_server.ensures c.args.memory.now.journal before) c.chosen_group.result c.in_ok-group.group None c.count_turn.new.self c.some_entry-some_entry.result
    (memory_state c.start_queued.new.memory (waits c.start_queued.new.wiring)) c.chosen_group.ensures c.in_ok-group.ensures.ok_part c.in-None.ensures c.some_entry-some_entry.ensures c.count_turn.ensures.group c.start_queued.ensures
