-- A write is refused as the rules say, or begins in the next row, where its value is stored.
use Rattle.std.proofs.Common.{◌≡◌, ℕ, ◌<◌, true, false, not, eqb, length, get_or, None, Err, refl, ap, ◌∙◌, arith, length-set, rules}
use Rattle.std.proofs.lemmas.Result.{err_from_is_err_and}
use Rattle.std.proofs.lemmas.Bool.Decides.{nat_tests}
use Rattle.model.specs.declared.Refusal.TheVariants.{WrongRowCount}
use Rattle.model.specs.declared.Outcome.TheVariants.{Row, Refused}
use Rattle.model.specs.State.{set_at, with_journal}
use Rattle.model.specs.Refusals.{refuse}
use Rattle.model.specs.Operations.{refuse_write, writes}
use Rattle.journal.specs.View.{view}
use Rattle.model.specs.Outcomes.{row_outcome}
use Rattle.sending.specs.View.{shelf}
use Rattle.sending.proofs.Telling.{refused_leaves_all, accepted_does_it}
use Rattle.requests.proofs.Storing.{a_stored_value_stands_in_its_row}
use Rattle.requests.proofs.Beginnings.{it_begins_in_the_next_row, with_room_it_begins}
use Rattle.requests.proofs.operations.write.Goals as goal

pub returns-in_err-refuse_begin : goal.returns-in_err-refuse_begin
returns-in_err-refuse_begin g c = λ w d.
    let values = c.args.values.now in
    let s = shelf d c.args.journal.now c.args.fleet.now w values in
    let p = err_from_is_err_and c.from_residual.result c.from_residual.ensures.1 in
    refused_leaves_all (refuse_write s.state (length values) c.args.client c.args.server) s (Row s.state.journal.used) (writes s c.args.client c.args.server c.args.value) (row_outcome c.from_residual.result) _ c.in_err-refuse_begin.field-0.0
    (c.in_err-refuse_begin.ensures.refuses w (refuse (not (eqb (length values) 256)) WrongRowCount None)) (ap row_outcome (p.1 ∙ ap Err p.2)) refl

pub returns-then-values-ne-ROWS : goal.returns-then-values-ne-ROWS
returns-then-values-ne-ROWS g c = λ w d.
    let values = c.args.values.now in
    let s = shelf d c.args.journal.now c.args.fleet.now w values in
    let other : eqb (length values) 256 ≡ false = grind (arith, nat_tests) in
    refused_leaves_all (refuse_write s.state (length values) c.args.client c.args.server) s (Row s.state.journal.used) (writes s c.args.client c.args.server c.args.value) (Refused WrongRowCount) _ WrongRowCount
    (c.in_ok-refuse_begin.ensures.refuses w (refuse (not (eqb (length values) 256)) WrongRowCount None) ∙ ap (λ b. refuse (not b) WrongRowCount None) other) refl refl

pub returns : goal.returns
returns g c = λ w d.
    let values = c.args.values.now in
    let j = view c.args.journal.now in
    let s = shelf d c.args.journal.now c.args.fleet.now w values in
    let client = c.args.client in
    let server = c.args.server in
    let value = c.args.value in
    let all : eqb (length values) 256 ≡ true = grind (arith, nat_tests) in
    let room = c.in_ok-refuse_begin.ensures.room refl in
    let r = c.in_ok-row.row in
    let byte : r.0 < 256 = search rules in
    let row = it_begins_in_the_next_row j room c.begin.result r c.begin.ensures.row c.in_ok-row.ensures.ok_part in
    let begun = with_room_it_begins j room _ _ c.begin.ensures.after in
    let stored = λ (k : ℕ). a_stored_value_stands_in_its_row values r.0 value d (omega arith) k ∙ ap (λ x. set_at (λ k. get_or values k d) x value k) row in
    accepted_does_it (refuse_write s.state (length values) client server) s (Row j.used) (writes s client server value) (Row r.0) _
    (c.in_ok-refuse_begin.ensures.refuses w (refuse (not (eqb (length values) 256)) WrongRowCount None) ∙ ap (λ b. refuse (not b) WrongRowCount None) all) (ap Row row)
    (λ i. record { state = with_journal s.state (begun i); rows = length-set values r.0 value i; values = λ k. stored k i })
