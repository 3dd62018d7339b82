use Rattle.std.proofs.Common.{◌≡◌, None, Err, rules}
use Rattle.model.specs.declared.Refusal.TheVariants.{NoMessage}
use Rattle.sending.specs.View.{memory_state}
use Rattle.deliveries.proofs.HandedOut.{a_refused_server_changes_nothing, nothing_is_handed_out, a_stray_message_is_gone, a_prewrite_is_delivered, a_write_is_delivered}
use Rattle.deliveries.proofs.delivering.deliver.Goals as goal

pub returns-in_err-refuse_server : goal.returns-in_err-refuse_server
returns-in_err-refuse_server g c =
    let before = g.W.Wiring.waits c.args.wiring.now in
    let reason = c.in_err-refuse_server.field-0.0 in
    let told : c.from_residual.result ≡ Err reason = search rules in
    a_refused_server_changes_nothing (memory_state c.args.memory.now before) c.args.server reason c.from_residual.result (c.in_err-refuse_server.ensures c.args.memory.now.journal before None) told

pub returns-in_err-message : goal.returns-in_err-message
returns-in_err-message g c =
    let before = g.W.Wiring.waits c.args.wiring.now in
    let told : c.from_residual-in_err-message.result ≡ Err NoMessage = search rules in
    rw told
    (nothing_is_handed_out (memory_state c.args.memory.now before) c.args.server (c.in_ok-refuse_server.ensures c.args.memory.now.journal before None) (g.W.Wiring.waits c.take.new.self) c.take.result c.take.ensures c.in_err-message.ensures.ok_part)

pub returns-then-is_stray : goal.returns-then-is_stray
returns-then-is_stray g c =
    let before = g.W.Wiring.waits c.args.wiring.now in
    a_stray_message_is_gone (memory_state c.args.memory.now before) c.args.server (c.in_ok-refuse_server.ensures c.args.memory.now.journal before None) (g.W.Wiring.waits c.take.new.self) c.take.result c.take.ensures c.in_ok-message.message
    c.in_ok-message.ensures.ok_part c.if-is_stray.ensures

pub returns-in-PreWrite : goal.returns-in-PreWrite
returns-in-PreWrite g c =
    let before = g.W.Wiring.waits c.args.wiring.now in
    a_prewrite_is_delivered (memory_state c.args.memory.now before) c.args.server (c.in_ok-refuse_server.ensures c.args.memory.now.journal before None) (g.W.Wiring.waits c.take.new.self) c.take.result c.take.ensures c.in_ok-message.message
    c.in_ok-message.ensures.ok_part c.if-is_stray.ensures (memory_state c.hear_prewrite.new.memory (g.W.Wiring.waits c.hear_prewrite.new.wiring)) c.in-PreWrite.is c.hear_prewrite.ensures

pub returns-in-Write : goal.returns-in-Write
returns-in-Write g c =
    let before = g.W.Wiring.waits c.args.wiring.now in
    let after = g.W.Wiring.waits c.take.new.self in
    a_write_is_delivered (memory_state c.args.memory.now before) c.args.server (c.in_ok-refuse_server.ensures c.args.memory.now.journal before None) after c.take.result c.take.ensures c.in_ok-message.message c.in_ok-message.ensures.ok_part
    c.if-is_stray.ensures (memory_state c.hear_write.new.memory after) c.in-Write.is (c.hear_write.ensures after)
