-- The row that is found is open, so it is given up.
use Rattle.std.proofs.Common.{◌≡◌, true, false, cond, ltb, Some, sym, refl, ap, ◌∙◌, ap₂, arith}
use Rattle.std.proofs.lemmas.Bool.Decides.{nat_tests}
use Rattle.counting.proofs.Searches.{least_passes}
use Rattle.model.specs.declared.Refusal.TheVariants.{NoClient, NothingOpen}
use Rattle.model.specs.declared.Outcome.TheVariants.{Done}
use Rattle.model.specs.State.{is_open, is_open_of, with_journal}
use Rattle.model.specs.JournalChanges.{journal_given_up}
use Rattle.model.specs.Refusals.{unless_found}
use Rattle.model.specs.Operations.{open_row, refuse_give_up, gives_up}
use Rattle.journal.specs.View.{view}
use Rattle.journal.specs.Questions.{row_found}
use Rattle.sending.specs.View.{state}
use Rattle.sending.proofs.Telling.{accepted_does_it}
use Rattle.requests.proofs.operations.give_up.Goals as goal

pub returns : goal.returns
returns c =
    let j = view c.args.journal.now in
    let client = c.args.client in
    let r = c.in_ok-row.row.0 in
    let found : open_row j client ≡ Some r = sym c.open_row.ensures.found ∙ ap row_found c.in_ok-row.ensures.ok_part in
    let low : ltb 15 client ≡ false = grind (arith, nat_tests) in
    let passes = (least_passes (is_open_of j client) (λ k. k) 256 r found).1 in
    let is : is_open j r ≡ true = grind (arith, nat_tests) in
    let changed = c.give_up.ensures ∙ ap (λ b. cond b (journal_given_up j r) j) is in
    λ f w.
    let s = state c.args.journal.now f w in
    accepted_does_it (refuse_give_up s client) s Done (gives_up s (open_row j client)) Done _
    (ap₂ (λ b o. cond b (Some NoClient) (unless_found NothingOpen o)) low found) refl
    ((λ i. with_journal s (changed i)) ∙ sym (ap (gives_up s) found))
