-- Each test of an operation is the model's test of its row, since exactly the rows below `used` are taken.
use Rattle.std.proofs.Common.{◌≡◌, ℕ, ◌<◌, ◌≤◌, Bool, false, not, ◌&&◌, eqb, ltb, leb, List, sym, ap, ◌∙◌, ⊎_elim}
use mathlib.Core.Path.{fun_ext}
use Rattle.std.proofs.lemmas.Bool.{cases_lt, le-ltb, lt-ltb}
use Rattle.operation.specs.declared.operation.Operation.{Operation}
use Rattle.operation.specs.Tags.{tag_key}
use Rattle.operation.specs.Parts.{is_write, is_answered, state_tag, threshold_key, is_open, is_open_of, is_open_read, is_queued_at, is_due, is_returned}
use Rattle.operation.proofs.Fits.{a_queued_write_has_no_tag, an_open_write_with_a_tag_has_started}
use Rattle.journal.specs.Rows.{operation_at, state_at}
use Rattle.journal.specs.Tests.{passes_in}
use Rattle.journal.specs.View.{journal_of, view}
use Rattle.journal.specs.declared.journal.Journal.{Journal}
use Rattle.model.specs.State.{is_open as row_is_open, is_open_of as row_is_open_of, is_queued as row_is_queued}
use Rattle.model.specs.Deliveries.{is_due_read, is_due_write}
use Rattle.journal.specs.Questions.{is_open_read as row_is_open_read}
use Rattle.journal.proofs.Facts.{Facts, facts_of}

module _ (used mark : ℕ) (rows : List Operation) (h : Facts used mark rows) (k : ℕ) where
  pub open_is_open : row_is_open (journal_of used mark rows) k ≡ is_open (operation_at rows k)
  open_is_open = ap (λ b. b && (not (is_answered (state_at rows k)) && not (operation_at rows k).given_up)) (sym (h.taken k))

  pub open_of_is_open_of : (c : ℕ) → row_is_open_of (journal_of used mark rows) c k ≡ is_open_of (operation_at rows k) c
  open_of_is_open_of c = ap (λ b. b && eqb (operation_at rows k).client c) open_is_open

  pub read_is_read : row_is_open_read (journal_of used mark rows) k ≡ is_open_read (operation_at rows k)
  read_is_read = ap (λ b. b && not (is_write (state_at rows k))) open_is_open

  pub queued_is_queued : (p : ℕ) → row_is_queued (journal_of used mark rows) p k ≡ is_queued_at (operation_at rows k) p
  queued_is_queued p =
      ap (λ b. b && (is_write (state_at rows k) && (not (is_answered (state_at rows k)) && (eqb (tag_key (state_tag (state_at rows k))) 0 && eqb (operation_at rows k).server p)))) (sym (h.taken k))
      ∙ a_queued_write_has_no_tag (state_at rows k) (eqb (operation_at rows k).server p) (h.numbered k)

  pub due_is_due : (p tag : ℕ) → is_due_read (journal_of used mark rows) p tag k ≡ is_due (operation_at rows k) p tag
  due_is_due p tag = ap (λ b. b && (not (is_write (state_at rows k)) && (eqb (operation_at rows k).server p && leb (threshold_key (state_at rows k)) tag))) open_is_open

  pub returned_is_returned : (p tag : ℕ) → is_due_write (journal_of used mark rows) p tag k ≡ is_returned (operation_at rows k) p tag
  returned_is_returned p tag =
      ap (λ b. b && (is_write (state_at rows k) && (ltb 0 (tag_key (state_tag (state_at rows k))) && (eqb (operation_at rows k).server p && leb (tag_key (state_tag (state_at rows k))) tag)))) open_is_open
      ∙ an_open_write_with_a_tag_has_started (state_at rows k) (not (operation_at rows k).given_up) (eqb (operation_at rows k).server p && leb (tag_key (state_tag (state_at rows k))) tag) (h.numbered k)

-- no test passes past the used rows
module _ (used mark : ℕ) (rows : List Operation) (k : ℕ) (past : used ≤ k) where
  pub none_open_past_the_used_rows : row_is_open (journal_of used mark rows) k ≡ false
  none_open_past_the_used_rows = ap (λ b. b && (not (is_answered (state_at rows k)) && not (operation_at rows k).given_up)) (le-ltb k used past)

  pub none_open_of_past_the_used_rows : (c : ℕ) → row_is_open_of (journal_of used mark rows) c k ≡ false
  none_open_of_past_the_used_rows c = ap (λ b. b && eqb (operation_at rows k).client c) none_open_past_the_used_rows

  pub none_queued_past_the_used_rows : (p : ℕ) → row_is_queued (journal_of used mark rows) p k ≡ false
  none_queued_past_the_used_rows p =
      ap (λ b. b && (is_write (state_at rows k) && (not (is_answered (state_at rows k)) && (eqb (tag_key (state_tag (state_at rows k))) 0 && eqb (operation_at rows k).server p)))) (le-ltb k used past)

  pub no_read_past_the_used_rows : (p tag : ℕ) → is_due_read (journal_of used mark rows) p tag k ≡ false
  no_read_past_the_used_rows p tag = ap (λ b. b && (not (is_write (state_at rows k)) && (eqb (operation_at rows k).server p && leb (threshold_key (state_at rows k)) tag))) none_open_past_the_used_rows

  pub no_write_past_the_used_rows : (p tag : ℕ) → is_due_write (journal_of used mark rows) p tag k ≡ false
  no_write_past_the_used_rows p tag =
      ap (λ b. b && (is_write (state_at rows k) && (ltb 0 (tag_key (state_tag (state_at rows k))) && (eqb (operation_at rows k).server p && leb (tag_key (state_tag (state_at rows k))) tag)))) none_open_past_the_used_rows

-- a test of the model that is the code's test at each row, and passes none past the used rows, is that of the used rows
of_the_used_rows : (j : Journal) (test : Operation → Bool) (model : ℕ → Bool) → ((k : ℕ) → model k ≡ test (operation_at j.rows k)) → ((k : ℕ) → j.used ≤ k → model k ≡ false)
    → passes_in j test ≡ model
of_the_used_rows j test model same past = fun_ext (λ k. ⊎_elim
    (λ (l : k < j.used). ap (λ b. b && test (operation_at j.rows k)) (lt-ltb k j.used l) ∙ sym (same k))
    (λ (l : j.used ≤ k). ap (λ b. b && test (operation_at j.rows k)) (le-ltb k j.used l) ∙ sym (past k l))
    (cases_lt k j.used))

module _ (j : Journal) where
  pub open_agrees : passes_in j is_open ≡ row_is_open (view j)
  open_agrees = of_the_used_rows j is_open _ (open_is_open _ _ _ (facts_of j)) (none_open_past_the_used_rows _ j.mark _)

  pub open_of_agrees : (c : ℕ) → passes_in j (λ o. is_open_of o c) ≡ row_is_open_of (view j) c
  open_of_agrees c = of_the_used_rows j (λ o. is_open_of o c) _ (λ k. open_of_is_open_of _ _ _ (facts_of j) k c) (λ k past. none_open_of_past_the_used_rows _ j.mark _ k past c)

  pub queued_agrees : (p : ℕ) → passes_in j (λ o. is_queued_at o p) ≡ row_is_queued (view j) p
  queued_agrees p = of_the_used_rows j (λ o. is_queued_at o p) _ (λ k. queued_is_queued _ _ _ (facts_of j) k p) (λ k past. none_queued_past_the_used_rows _ j.mark _ k past p)

  pub due_agrees : (p tag : ℕ) → passes_in j (λ o. is_due o p tag) ≡ is_due_read (view j) p tag
  due_agrees p tag = of_the_used_rows j (λ o. is_due o p tag) _ (λ k. due_is_due _ _ _ (facts_of j) k p tag) (λ k past. no_read_past_the_used_rows _ j.mark _ k past p tag)

  pub returned_agrees : (p tag : ℕ) → passes_in j (λ o. is_returned o p tag) ≡ is_due_write (view j) p tag
  returned_agrees p tag = of_the_used_rows j (λ o. is_returned o p tag) _ (λ k. returned_is_returned _ _ _ (facts_of j) k p tag) (λ k past. no_write_past_the_used_rows _ j.mark _ k past p tag)
