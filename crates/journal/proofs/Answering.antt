-- Answering rows one by one, in row order, is the model's answer of all that pass a test.
-- A loop keeps that the rows passed so far are answered, each under the mark that counts the ones before it, and the others stand as they were.
use Rattle.std.proofs.Common.{◌≡◌, ℕ, ◌+◌, ◌<◌, Bool, true, false, cond, not, ◌&&◌, eqb, ltb, ◌≢◌, List, length, set, sym, refl, ap, ◌∙◌, subst, ⊎_elim, arith, get_or-set_other, get_or-set_same}
use mathlib.Core.Path.{fun_ext}
use Rattle.std.proofs.lemmas.Bool.Decides.{nat_tests}
use Rattle.std.proofs.lemmas.Bool.{cases_Bool, cases_eq, ne_eqb, eq-eqb, and_parts, ltb-true, cond-true, cond-false, true≢false}
use Rattle.counting.specs.Below.{count, count_none, count_more}
use Rattle.model.specs.JournalChanges.{journal_answered}
use Rattle.messages.specs.declared.Row.{Row}
use Rattle.operation.specs.declared.operation.Operation.{Operation}
use Rattle.operation.specs.declared.operation.Event.TheVariants.{Answer}
use Rattle.operation.specs.Tags.{tag_key}
use Rattle.operation.specs.Events.{after, unused_operation}
use Rattle.operation.specs.Parts.{is_write, is_answered, answer_mark, state_tag, threshold_key, row_given, is_taken, is_open, is_open_read, is_answerable}
use Rattle.operation.proofs.Fits.{Answers, an_answer_fits, an_open_read_is_answerable}
use Rattle.journal.specs.Rows.{operation_at, state_at}
use Rattle.journal.specs.Tests.{passes_in}
use Rattle.journal.specs.View.{journal_of, view}
use Rattle.journal.specs.declared.journal.Journal.{Journal}
use Rattle.journal.specs.Questions.{is_open_read as row_is_open_read}
use Rattle.counting.proofs.Counts.{nothing_passes}
use Rattle.journal.proofs.Counts.{one_passes}
use Rattle.journal.proofs.Facts.{Facts}
use Rattle.journal.proofs.Same.{read_is_read}

-- the test f passed at the rows below k: those are answered, and the others stand as they were
pub record Kept (f : ℕ → Bool) (was : ℕ → Operation) (by : ℕ → ℕ → Operation) (used mark : ℕ) (rows : List Operation) (u m k : ℕ) : Type 0 where
  pub same : u ≡ used
  pub marks : m ≡ mark + count f k
  pub each : (j : ℕ) → operation_at rows j ≡ cond (ltb j k) (cond (f j) (by j (mark + count f j + 1)) (was j)) (was j)
  pub fits : (j : ℕ) → j < k → f j ≡ true → is_answerable (was j) ≡ true

-- row j of the rows, after its answer under a mark
abbrev pub answer_of : List Operation → Row → ℕ → ℕ → Operation
answer_of rows given j m = after (operation_at rows j) (Answer given m)

module _ (f : ℕ → Bool) (was : ℕ → Operation) (by : ℕ → ℕ → Operation) (used mark : ℕ) (rows : List Operation) (u m k : ℕ) (h : Kept f was by used mark rows u m k) where
  pub the_next_row_stands : operation_at rows k ≡ was k
  the_next_row_stands = let z = h.each k in grind (arith, nat_tests)

  fits_below_the_next : (f k ≡ true → is_answerable (was k) ≡ true) → (j : ℕ) → j < k + 1 → f j ≡ true → is_answerable (was j) ≡ true
  fits_below_the_next here j l t = ⊎_elim (λ (q : j ≡ k). ap (λ i. is_answerable (was i)) q ∙ here (ap f (sym q) ∙ t)) (λ (ne : j ≡ k → ⊥). h.fits j (omega arith) t) (cases_eq j k)

  pub a_row_is_passed : f k ≡ false → Kept f was by used mark rows u m (k + 1)
  a_row_is_passed e = let c = count_more f k in let x = h.marks in record {
    same = h.same;
    marks = grind (arith, nat_tests);
    each = λ j. let z = h.each j in grind (arith, nat_tests);
    fits = λ j l t. fits_below_the_next (λ p. absurd (true≢false (sym p ∙ e))) j l t;
  }

  pub a_row_is_answered : f k ≡ true → is_answerable (was k) ≡ true → k < length rows → (after_rows : List Operation) (after_used after_mark : ℕ) (new : Operation)
      → after_used ≡ u → after_mark ≡ m + 1 → after_rows ≡ set rows k new → new ≡ by k (m + 1) → Kept f was by used mark after_rows after_used after_mark (k + 1)
  a_row_is_answered e fit low after_rows after_used after_mark new same_used next_mark put is =
      let c = count_more f k in let x = h.marks in
      let here = get_or-set_same rows k new unused_operation low in
      let other = λ (j : ℕ) (ne : j ≢ k). get_or-set_other rows k j new unused_operation ne in
      let number : m + 1 ≡ mark + count f k + 1 = omega arith in
      let stands : new ≡ by k (mark + count f k + 1) = is ∙ ap (by k) number in
      record {
        same = same_used ∙ h.same;
        marks = grind (arith, nat_tests);
        each = λ j. ap (λ l. operation_at l j) put ∙ (let z = h.each j in let w = other j in grind (arith, nat_tests));
        fits = fits_below_the_next (λ t. fit);
      }

pub nothing_is_answered_yet : (f : ℕ → Bool) (by : ℕ → ℕ → Operation) (used mark : ℕ) (rows : List Operation) → Kept f (operation_at rows) by used mark rows used mark 0
nothing_is_answered_yet f by used mark rows = let c = count_none f in record { same = refl; marks = omega arith; each = λ j. grind (arith, nat_tests); fits = λ j l t. absurd (omega arith) }

module _ (f : ℕ → Bool) (used mark : ℕ) (was rows : List Operation) (given : Row) (fits : (j : ℕ) → f j ≡ true → is_answerable (operation_at was j) ≡ true)
    (each : (j : ℕ) → operation_at rows j ≡ cond (f j) (answer_of was given j (mark + count f j + 1)) (operation_at was j)) where
  -- row j after its answer
  abbrev answered_row : ℕ → Operation
  answered_row j = answer_of was given j (mark + count f j + 1)

  module _ {B : Type 0} (g : Operation → B) where
    where_it_passes : (j : ℕ) → f j ≡ true → g (operation_at rows j) ≡ g (answered_row j)
    where_it_passes j e = ap g (each j ∙ cond-true (f j) (answered_row j) (operation_at was j) e)

    where_it_fails : (j : ℕ) → f j ≡ false → g (operation_at rows j) ≡ g (operation_at was j)
    where_it_fails j e = ap g (each j ∙ cond-false (f j) (answered_row j) (operation_at was j) e)

    -- a part g that an answer leaves is as it was
    a_part_stays : ((j : ℕ) → f j ≡ true → g (answered_row j) ≡ g (operation_at was j)) → ◌≡◌ {A = ℕ → B} (λ j. g (operation_at rows j)) (λ j. g (operation_at was j))
    a_part_stays h = fun_ext (λ j. ⊎_elim (λ (e : f j ≡ true). where_it_passes j e ∙ h j e) (where_it_fails j) (cases_Bool (f j)))

    -- and one that an answer sets to v is v in the rows that pass
    a_part_changes : (v : ℕ → B) → ((j : ℕ) → f j ≡ true → g (answered_row j) ≡ v j) → ◌≡◌ {A = ℕ → B} (λ j. g (operation_at rows j)) (λ j. cond (f j) (v j) (g (operation_at was j)))
    a_part_changes v h = fun_ext (λ j. ⊎_elim
        (λ (e : f j ≡ true). where_it_passes j e ∙ (h j e ∙ sym (cond-true (f j) (v j) (g (operation_at was j)) e)))
        (λ (e : f j ≡ false). where_it_fails j e ∙ sym (cond-false (f j) (v j) (g (operation_at was j)) e))
        (cases_Bool (f j)))

  the_answer_fits : (j : ℕ) → f j ≡ true → Answers (operation_at was j) (state_at was j) given (mark + count f j + 1)
  the_answer_fits j e = an_answer_fits (operation_at was j) (state_at was j) given (mark + count f j + 1) (fits j e)

  pub all_are_answered : (u m : ℕ) → u ≡ used → m ≡ mark + count f used → journal_of u m rows ≡ journal_answered (journal_of used mark was) f given.0
  all_are_answered u m same marks = λ i. record {
    used = same i;
    mark = marks i;
    is_write = a_part_stays (λ o. is_write o.state) (λ j e. ap (λ o. is_write o.state) (the_answer_fits j e).is ∙ (the_answer_fits j e).says.write) i;
    client = a_part_stays (λ o. o.client) (λ j e. ap (λ o. o.client) (the_answer_fits j e).is) i;
    server = a_part_stays (λ o. o.server) (λ j e. ap (λ o. o.server) (the_answer_fits j e).is) i;
    begin_mark = a_part_stays (λ o. o.begin_mark) (λ j e. ap (λ o. o.begin_mark) (the_answer_fits j e).is) i;
    answered = a_part_changes (λ o. is_answered o.state) (λ j. true) (λ j e. ap (λ o. is_answered o.state) (the_answer_fits j e).is ∙ (the_answer_fits j e).says.answered) i;
    answer_mark = a_part_changes (λ o. answer_mark o.state) (λ j. mark + count f j + 1) (λ j e. ap (λ o. answer_mark o.state) (the_answer_fits j e).is ∙ (the_answer_fits j e).says.mark) i;
    given_up = a_part_stays (λ o. o.given_up) (λ j e. ap (λ o. o.given_up) (the_answer_fits j e).is) i;
    tag = a_part_stays (λ o. tag_key (state_tag o.state)) (λ j e. ap (λ o. tag_key (state_tag o.state)) (the_answer_fits j e).is ∙ ap tag_key (the_answer_fits j e).says.tag) i;
    threshold = a_part_changes (λ o. threshold_key o.state) (λ j. 0) (λ j e. ap (λ o. threshold_key o.state) (the_answer_fits j e).is ∙ (the_answer_fits j e).says.threshold) i;
    gave = (a_part_changes (λ o. row_given o.state) (λ j. cond (is_write (state_at was j)) 0 given.0) (λ j e. ap (λ o. row_given o.state) (the_answer_fits j e).is ∙ (the_answer_fits j e).says.gave) ∙ reads_alone_give) i;
  }
    where
      reads_alone_give : ◌≡◌ {A = ℕ → ℕ}
          (λ j. cond (f j) (cond (is_write (state_at was j)) 0 given.0) (row_given (state_at was j)))
          (λ j. cond (f j && not (is_write (state_at was j))) given.0 (row_given (state_at was j)))
      reads_alone_give = fun_ext (λ j. let b = λ (e : f j ≡ true). (the_answer_fits j e).says.gave_before in grind (arith, nat_tests))

-- a loop over the used rows has answered all that pass
pub the_loop_answers_all : (test : Operation → Bool) (j : Journal) (given : Row) (used mark : ℕ) (rows : List Operation)
    → Kept (passes_in j test) (operation_at j.rows) (answer_of j.rows given) j.used j.mark rows used mark j.used → journal_of used mark rows ≡ journal_answered (view j) (passes_in j test) given.0
the_loop_answers_all test j given used mark rows h =
    all_are_answered (passes_in j test) j.used j.mark j.rows rows given
    (λ k t. h.fits k (ltb-true k j.used (and_parts (ltb k j.used) (test (operation_at j.rows k)) t).0) t)
    (λ k. let z = h.each k in grind (arith, nat_tests)) used mark h.same h.marks

-- one row is answered
module _ (used mark : ℕ) (was : List Operation) (h : Facts used mark was) (row : ℕ) (given : Row) where
  abbrev alone : ℕ → Bool
  alone k = eqb k row && row_is_open_read (journal_of used mark was) k

  no_other_row_passes : (k : ℕ) → (k ≡ row → ⊥) → alone k ≡ false
  no_other_row_passes k ne = ap (λ b. b && row_is_open_read (journal_of used mark was) k) (ne_eqb k row ne)

  it_passes_as_an_open_read : alone row ≡ is_open_read (operation_at was row)
  it_passes_as_an_open_read = ap (λ b. b && row_is_open_read (journal_of used mark was) row) (eq-eqb row row refl) ∙ read_is_read used mark was h row

  what_passes_is_answerable : (k : ℕ) → alone k ≡ true → is_answerable (operation_at was k) ≡ true
  what_passes_is_answerable k e =
      let open_read = sym (read_is_read used mark was h k) ∙ (and_parts (eqb k row) (row_is_open_read (journal_of used mark was) k) e).1 in
      an_open_read_is_answerable (operation_at was k) true (grind (arith, nat_tests))

  an_open_read_is_used : is_open_read (operation_at was row) ≡ true → row < used
  an_open_read_is_used is_so =
      let live = and_parts (is_open (operation_at was row)) (not (is_write (state_at was row))) is_so in
      let taken = and_parts (is_taken (state_at was row)) (not (is_answered (state_at was row)) && not (operation_at was row).given_up) live.0 in
      ltb-true row used (sym (h.taken row) ∙ taken.0)

  -- row j, once the one row is answered
  abbrev Settled : ℕ → Type 0
  Settled j = operation_at (set was row (answer_of was given row (mark + 1))) j ≡ cond (alone j) (answer_of was given j (mark + count alone j + 1)) (operation_at was j)

  settled_here : row < 256 → is_open_read (operation_at was row) ≡ true → Settled row
  settled_here low is_so =
      let before = nothing_passes alone row (λ k l. no_other_row_passes k (λ e. omega arith)) in
      let number : mark + 1 ≡ mark + count alone row + 1 = omega arith in
      get_or-set_same was row (answer_of was given row (mark + 1)) unused_operation (omega (arith, h.sized))
      ∙ (ap (answer_of was given row) number ∙ sym (cond-true (alone row) (answer_of was given row (mark + count alone row + 1)) (operation_at was row) (it_passes_as_an_open_read ∙ is_so)))

  settled_elsewhere : (j : ℕ) → (j ≡ row → ⊥) → Settled j
  settled_elsewhere j ne =
      get_or-set_other was row j (answer_of was given row (mark + 1)) unused_operation ne
      ∙ sym (cond-false (alone j) (answer_of was given j (mark + count alone j + 1)) (operation_at was j) (no_other_row_passes j ne))

  pub one_is_answered : row < 256 → is_open_read (operation_at was row) ≡ true → (u m : ℕ) (rows : List Operation) → u ≡ used → m ≡ mark + 1
      → rows ≡ set was row (answer_of was given row (mark + 1)) → journal_of u m rows ≡ journal_answered (journal_of used mark was) alone given.0
  one_is_answered low is_so u m rows same next_mark put =
      let one = one_passes alone row used (an_open_read_is_used is_so) (it_passes_as_an_open_read ∙ is_so) no_other_row_passes in
      let each : (j : ℕ) → operation_at rows j ≡ cond (alone j) (answer_of was given j (mark + count alone j + 1)) (operation_at was j) =
      (λ j. ap (λ l. operation_at l j) put ∙ ⊎_elim (λ (e : j ≡ row). subst Settled (sym e) (settled_here low is_so)) (settled_elsewhere j) (cases_eq j row)) in
      all_are_answered alone used mark was rows given what_passes_is_answerable each u m same (omega arith)

  no_row_passes : is_open_read (operation_at was row) ≡ false → (k : ℕ) → alone k ≡ false
  no_row_passes is_not k = ⊎_elim (λ (e : k ≡ row). subst (λ k. alone k ≡ false) (sym e) (it_passes_as_an_open_read ∙ is_not)) (no_other_row_passes k) (cases_eq k row)

  pub none_is_answered : is_open_read (operation_at was row) ≡ false → journal_of used mark was ≡ journal_answered (journal_of used mark was) alone given.0
  none_is_answered is_not =
      let none = nothing_passes alone used (λ k l. no_row_passes is_not k) in
      let each : (j : ℕ) → operation_at was j ≡ cond (alone j) (answer_of was given j (mark + count alone j + 1)) (operation_at was j) =
      (λ j. sym (cond-false (alone j) (answer_of was given j (mark + count alone j + 1)) (operation_at was j) (no_row_passes is_not j))) in
      all_are_answered alone used mark was was given what_passes_is_answerable each used mark refl (omega arith)
