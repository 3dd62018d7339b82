-- What begin, start and give up leave: the facts of the journal, and the model's change of it.
use Rattle.std.proofs.Common.{◌≡◌, ℕ, ◌+◌, ◌<◌, true, false, eqb, List, set, sym, refl, ap, ◌∙◌, subst, arith}
use mathlib.Core.Path.{fun_ext}
use Rattle.std.proofs.lemmas.Bool.Decides.{nat_tests}
use Rattle.std.proofs.lemmas.Bool.{and_parts}
use Rattle.model.specs.State.{set_at, tag_number, tag_of}
use Rattle.operation.specs.declared.tag.Tag.{Tag}
use Rattle.operation.specs.declared.operation.Operation.{Operation}
use Rattle.operation.specs.declared.operation.Request.{Request}
use Rattle.operation.specs.declared.operation.State.TheVariants.{Started}
use Rattle.operation.specs.declared.operation.Event.TheVariants.{Begin, Start, Answer, GiveUp}
use Rattle.messages.specs.declared.Row.{Row}
use Rattle.operation.specs.Tags.{tag_key}
use Rattle.operation.specs.Events.{after, in_state, abandoned, new_operation, first_state}
use Rattle.operation.specs.Parts.{is_taken, is_write, is_answered, answer_mark, state_tag, threshold_key, row_given, asks_to_write, threshold_asked, is_queued, is_queued_at, is_open, is_answerable}
use Rattle.operation.proofs.Fits.{Queue, an_answer_fits, an_operation_begins, an_unused_state_is_blank, the_first_state_is_fresh, a_queued_write_starts, an_open_operation_is_given_up}
use Rattle.journal.specs.Rows.{operation_at, state_at, tag_number_at}
use Rattle.journal.specs.View.{journal_of}
use Rattle.model.specs.JournalChanges.{journal_begun, journal_tagged, journal_given_up}
use Rattle.journal.proofs.Facts.{Facts, facts_after_a_set}
use Rattle.journal.proofs.Views.{the_view_after_a_set}

-- setting what stands there changes nothing
set_at_same : {A : Type 0} (f : ℕ → A) (r : ℕ) (v : A) → v ≡ f r → set_at f r v ≡ f
set_at_same f r v e = fun_ext (λ k. grind (arith, nat_tests))

module _ (used mark : ℕ) (rows : List Operation) (h : Facts used mark rows) where
  -- BEGIN

  module _ (room : used < 256) (client server : ℕ) (request : Request) (new : Operation) (is : new ≡ after (operation_at rows used) (Begin client server (mark + 1) request)) where
    abbrev begun : Operation
    begun = new_operation client server (mark + 1) (first_state request)

    unused : is_taken (state_at rows used) ≡ false
    unused = h.taken used ∙ grind (arith, nat_tests)

    new_is_begun : new ≡ begun
    new_is_begun = is ∙ an_operation_begins (operation_at rows used) (state_at rows used) client server (mark + 1) request unused

    pub facts_after_begin : Facts (used + 1) (mark + 1) (set rows used new)
    facts_after_begin =
        let old = an_unused_state_is_blank (state_at rows used) unused in
        let fresh = the_first_state_is_fresh request in
        let a = old.answered in let b = old.has_tag in let c = fresh.answered in let d = fresh.has_tag in let e = ap (λ t. t.number) fresh.tag in
        subst (λ o. Facts (used + 1) (mark + 1) (set rows used o)) (sym new_is_begun)
        (facts_after_a_set used mark rows h used begun room (used + 1) (mark + 1) (omega arith) (fresh.taken ∙ grind (arith, nat_tests)) (λ k ne. grind (arith, nat_tests)) fresh.numbered
        (grind (arith, nat_tests)) (grind (arith, nat_tests)) (grind (arith, nat_tests)))

    pub view_after_begin : journal_of (used + 1) (mark + 1) (set rows used new) ≡ journal_begun (journal_of used mark rows) (asks_to_write request) client server (threshold_asked request)
    view_after_begin =
        let old = an_unused_state_is_blank (state_at rows used) unused in
        let fresh = the_first_state_is_fresh request in
        ap (λ o. journal_of (used + 1) (mark + 1) (set rows used o)) new_is_begun
        ∙ (the_view_after_a_set (used + 1) (mark + 1) rows used begun (omega (arith, h.sized))
        ∙ (λ i. record {
          used = used + 1;
          mark = mark + 1;
          is_write = set_at (λ k. is_write (state_at rows k)) used (fresh.write i);
          client = set_at (λ k. (operation_at rows k).client) used client;
          server = set_at (λ k. (operation_at rows k).server) used server;
          begin_mark = set_at (λ k. (operation_at rows k).begin_mark) used (mark + 1);
          answered = set_at (λ k. is_answered (state_at rows k)) used (fresh.answered i);
          answer_mark = set_at (λ k. answer_mark (state_at rows k)) used (fresh.mark i);
          given_up = set_at (λ k. (operation_at rows k).given_up) used false;
          tag = set_at_same (λ k. tag_key (state_tag (state_at rows k))) used (tag_key (state_tag (first_state request))) (ap tag_key fresh.tag ∙ sym (ap tag_key old.tag)) i;
          threshold = set_at (λ k. threshold_key (state_at rows k)) used (fresh.threshold i);
          gave = set_at (λ k. row_given (state_at rows k)) used (fresh.gave i);
        }))

  -- START

  module _ (row above server : ℕ) (low : row < 256) (queued : is_queued_at (operation_at rows row) server ≡ true) (new : Operation)
      (tag : Tag) (is : new ≡ after (operation_at rows row) (Start tag)) (number : tag.number ≡ tag_number_at rows above + 1) (origin : tag.server ≡ server) where
    old : Queue (operation_at rows row) (state_at rows row) tag
    old = a_queued_write_starts (operation_at rows row) (state_at rows row) tag (and_parts (is_queued (state_at rows row)) (eqb (operation_at rows row).server server) queued).0

    abbrev started : Operation
    started = in_state (operation_at rows row) (Started tag)

    new_is_started : new ≡ started
    new_is_started = is ∙ old.starts (omega (arith, number))

    pub facts_after_start : Facts used mark (set rows row new)
    facts_after_start =
        let a = old.answered in let b = old.has_tag in let n = h.numbers above in let m = number in
        subst (λ o. Facts used mark (set rows row o)) (sym new_is_started)
        (facts_after_a_set used mark rows h row started low used mark h.room (sym old.taken ∙ h.taken row) (λ k ne. refl) (grind (arith, nat_tests))
        (grind (arith, nat_tests)) (grind (arith, nat_tests)) (grind (arith, nat_tests)))

    pub view_after_start : (state_tag (state_at rows above)).server < 256 → journal_of used mark (set rows row new) ≡ journal_tagged (journal_of used mark rows) row (tag_of (1 + tag_number ((journal_of used mark rows).tag above)) server)
    view_after_start byte =
        let key : tag_key tag ≡ tag_of (1 + tag_number ((journal_of used mark rows).tag above)) server = omega (arith, number, origin) in
        ap (λ o. journal_of used mark (set rows row o)) new_is_started
        ∙ (the_view_after_a_set used mark rows row started (omega (arith, h.sized))
        ∙ (λ i. record {
          used = used;
          mark = mark;
          is_write = set_at_same (λ k. is_write (state_at rows k)) row true (sym old.write) i;
          client = set_at_same (λ k. (operation_at rows k).client) row (operation_at rows row).client refl i;
          server = set_at_same (λ k. (operation_at rows k).server) row (operation_at rows row).server refl i;
          begin_mark = set_at_same (λ k. (operation_at rows k).begin_mark) row (operation_at rows row).begin_mark refl i;
          answered = set_at_same (λ k. is_answered (state_at rows k)) row false (sym old.answered) i;
          answer_mark = set_at_same (λ k. answer_mark (state_at rows k)) row 0 (sym old.mark) i;
          given_up = set_at_same (λ k. (operation_at rows k).given_up) row (operation_at rows row).given_up refl i;
          tag = set_at (λ k. tag_key (state_tag (state_at rows k))) row (key i);
          threshold = set_at_same (λ k. threshold_key (state_at rows k)) row 0 (sym old.threshold) i;
          gave = set_at_same (λ k. row_given (state_at rows k)) row 0 (sym old.gave) i;
        }))

  -- ANSWER

  module _ (row : ℕ) (given : Row) (low : row < 256) (fits : is_answerable (operation_at rows row) ≡ true) (new : Operation)
      (is : new ≡ after (operation_at rows row) (Answer given (mark + 1))) where
    pub facts_after_answer : Facts used (mark + 1) (set rows row new)
    facts_after_answer =
        let got = an_answer_fits (operation_at rows row) (state_at rows row) given (mark + 1) fits in
        let says = got.says in
        let a = says.before in let b = says.answered in let t = says.has_tag in let n = h.numbers row in let m = ap (λ t. t.number) says.tag in
        subst (λ o. Facts used (mark + 1) (set rows row o)) (sym (is ∙ got.is))
        (facts_after_a_set used mark rows h row (in_state (operation_at rows row) got.state) low used (mark + 1) h.room (says.taken ∙ h.taken row) (λ k ne. refl) says.numbered
        (grind (arith, nat_tests)) (grind (arith, nat_tests)) (grind (arith, nat_tests)))

  -- GIVE UP

  module _ (row : ℕ) (low : row < 256) (is_so : is_open (operation_at rows row) ≡ true) (new : Operation) (is : new ≡ after (operation_at rows row) GiveUp) where
    abbrev given_up : Operation
    given_up = abandoned (operation_at rows row)

    new_is_given_up : new ≡ given_up
    new_is_given_up = is ∙ an_open_operation_is_given_up (operation_at rows row) (state_at rows row) is_so

    pub facts_after_give_up : Facts used mark (set rows row new)
    facts_after_give_up =
        let n = h.numbers row in
        subst (λ o. Facts used mark (set rows row o)) (sym new_is_given_up)
        (facts_after_a_set used mark rows h row given_up low used mark h.room (h.taken row) (λ k ne. refl) (h.numbered row)
        (omega arith) (omega arith) (omega arith))

    pub view_after_give_up : journal_of used mark (set rows row new) ≡ journal_given_up (journal_of used mark rows) row
    view_after_give_up =
        ap (λ o. journal_of used mark (set rows row o)) new_is_given_up
        ∙ (the_view_after_a_set used mark rows row given_up (omega (arith, h.sized))
        ∙ (λ i. record {
          used = used;
          mark = mark;
          is_write = set_at_same (λ k. is_write (state_at rows k)) row (is_write (state_at rows row)) refl i;
          client = set_at_same (λ k. (operation_at rows k).client) row (operation_at rows row).client refl i;
          server = set_at_same (λ k. (operation_at rows k).server) row (operation_at rows row).server refl i;
          begin_mark = set_at_same (λ k. (operation_at rows k).begin_mark) row (operation_at rows row).begin_mark refl i;
          answered = set_at_same (λ k. is_answered (state_at rows k)) row (is_answered (state_at rows row)) refl i;
          answer_mark = set_at_same (λ k. answer_mark (state_at rows k)) row (answer_mark (state_at rows row)) refl i;
          given_up = set_at (λ k. (operation_at rows k).given_up) row true;
          tag = set_at_same (λ k. tag_key (state_tag (state_at rows k))) row (tag_key (state_tag (state_at rows row))) refl i;
          threshold = set_at_same (λ k. threshold_key (state_at rows k)) row (threshold_key (state_at rows row)) refl i;
          gave = set_at_same (λ k. row_given (state_at rows k)) row (row_given (state_at rows row)) refl i;
        }))
