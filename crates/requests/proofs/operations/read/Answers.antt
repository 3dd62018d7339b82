-- A read is refused as the rules say, or begins in the next row, and is then answered or waits.
use Rattle.std.proofs.Common.{false, None, Err, sym, refl, ap, ◌∙◌}
use Rattle.std.proofs.lemmas.Result.{err_from_is_err_and}
use Rattle.model.specs.declared.Outcome.TheVariants.{Row}
use Rattle.model.specs.State.{with_journal}
use Rattle.model.specs.JournalChanges.{journal_begun}
use Rattle.model.specs.Operations.{refuse_read, read}
use Rattle.journal.specs.View.{view}
use Rattle.model.specs.Outcomes.{row_outcome}
use Rattle.sending.specs.View.{state}
use Rattle.sending.proofs.Telling.{refused_leaves_all, accepted_does_it}
use Rattle.requests.proofs.Beginnings.{it_begins_in_the_next_row, with_room_it_begins, answered_straight_away, else_it_waits}
use Rattle.requests.proofs.operations.read.Goals as goal

pub returns-in_err-refuse_begin : goal.returns-in_err-refuse_begin
returns-in_err-refuse_begin c = λ w.
    let s = state c.args.journal.now c.args.fleet.now w in
    let p = err_from_is_err_and c.from_residual.result c.from_residual.ensures.1 in
    refused_leaves_all (refuse_read s c.args.client c.args.server) s (Row s.journal.used) (read s c.args.client c.args.server) (row_outcome c.from_residual.result) _ c.in_err-refuse_begin.field-0.0
    (c.in_err-refuse_begin.ensures.refuses w None) (ap row_outcome (p.1 ∙ ap Err p.2)) refl

pub returns-then-not-some_pending : goal.returns-then-not-some_pending
returns-then-not-some_pending c = λ w.
    let j = view c.args.journal.now in
    let s = state c.args.journal.now c.args.fleet.now w in
    let client = c.args.client in
    let server = c.args.server in
    let room = c.in_ok-refuse_begin.ensures.room refl in
    let row = it_begins_in_the_next_row j room c.begin.result c.in_ok-row.row c.begin.ensures.row c.in_ok-row.ensures.ok_part in
    let begun = with_room_it_begins j room _ _ c.begin.ensures.after ∙ ap (journal_begun j false client server) c.highest_pending-threshold.ensures in
    let told = answered_straight_away j client server _ _ (sym c.if-not-some_pending.ensures) _ _ _ _ _ begun row c.held.ensures c.answer_read.ensures in
    accepted_does_it (refuse_read s client server) s (Row j.used) (read s client server) (Row c.in_ok-row.row.0) _
    (c.in_ok-refuse_begin.ensures.refuses w None) (ap Row row) (λ i. with_journal s (told i))

pub returns-else-not-some_pending : goal.returns-else-not-some_pending
returns-else-not-some_pending c = λ w.
    let j = view c.args.journal.now in
    let s = state c.args.journal.now c.args.fleet.now w in
    let client = c.args.client in
    let server = c.args.server in
    let room = c.in_ok-refuse_begin.ensures.room refl in
    let row = it_begins_in_the_next_row j room c.begin.result c.in_ok-row.row c.begin.ensures.row c.in_ok-row.ensures.ok_part in
    let begun = with_room_it_begins j room _ _ c.begin.ensures.after ∙ ap (journal_begun j false client server) c.highest_pending-threshold.ensures in
    let told = else_it_waits j client server _ _ (sym c.if-not-some_pending.ensures) _ (s.servers.held server) begun in
    accepted_does_it (refuse_read s client server) s (Row j.used) (read s client server) (Row c.in_ok-row.row.0) _
    (c.in_ok-refuse_begin.ensures.refuses w None) (ap Row row) (λ i. with_journal s (told i))
