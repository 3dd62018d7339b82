-- Each exit of the refusals that write and read have alike, with the tests that led there.
use Rattle.std.proofs.Common.{◌<◌, Some, None, Err, sym, ap, ◌∙◌, arith}
use Rattle.std.proofs.lemmas.Result.{err_from_is_err_and}
use Rattle.messages.specs.Waiting.{nothing}
use Rattle.sending.specs.View.{state, refused_or}
use Rattle.sending.proofs.Telling.{not_refused_is_a_server}
use Rattle.requests.proofs.Refusing.{a_refused_server_refuses, an_open_operation_refuses, a_full_journal_refuses, nothing_refuses}
use Rattle.requests.proofs.operations.refuse_begin.Goals as goal

pub returns-in_err-refuse_server-clause-refuses : goal.returns-in_err-refuse_server-clause-refuses
returns-in_err-refuse_server-clause-refuses c = λ w later.
    let low : c.args.client < 16 = omega (arith, c.if-client-ge-CLIENTS.false) in
    let p = err_from_is_err_and c.from_residual.result c.from_residual.ensures.1 in
    a_refused_server_refuses (state c.args.journal.now c.args.fleet.now w) c.args.client c.args.server low later (Some c.in_err-refuse_server.field-0.0) (c.in_err-refuse_server.ensures c.args.journal.now w)
    ∙ sym (ap (λ r. refused_or r later) (p.1 ∙ ap Err p.2))

pub returns-then-is_some-clause-refuses : goal.returns-then-is_some-clause-refuses
returns-then-is_some-clause-refuses c = λ w later.
    let low : c.args.client < 16 = omega (arith, c.if-client-ge-CLIENTS.false) in
    an_open_operation_refuses (state c.args.journal.now c.args.fleet.now w) c.args.client c.args.server low later (c.in_ok-refuse_server.ensures c.args.journal.now w)
    (sym c.open_row.ensures.some ∙ sym c.if-is_some.ensures)

pub returns-then-is_full-clause-refuses : goal.returns-then-is_full-clause-refuses
returns-then-is_full-clause-refuses c = λ w later.
    let low : c.args.client < 16 = omega (arith, c.if-client-ge-CLIENTS.false) in
    a_full_journal_refuses (state c.args.journal.now c.args.fleet.now w) c.args.client c.args.server low later (c.in_ok-refuse_server.ensures c.args.journal.now w)
    (sym c.open_row.ensures.some ∙ sym c.if-is_some.ensures) (sym c.if-is_full.ensures)

pub returns-clause-refuses : goal.returns-clause-refuses
returns-clause-refuses c = λ w later.
    let low : c.args.client < 16 = omega (arith, c.if-client-ge-CLIENTS.false) in
    nothing_refuses (state c.args.journal.now c.args.fleet.now w) c.args.client c.args.server low later (c.in_ok-refuse_server.ensures c.args.journal.now w)
    (sym c.open_row.ensures.some ∙ sym c.if-is_some.ensures) (sym c.if-is_full.ensures)

pub returns-clause-server : goal.returns-clause-server
returns-clause-server c = λ h.
    let within = not_refused_is_a_server (state c.args.journal.now c.args.fleet.now nothing) c.args.server (c.in_ok-refuse_server.ensures c.args.journal.now nothing None) in
    omega (arith, within, c.args.fleet.now.few)
