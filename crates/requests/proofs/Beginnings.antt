-- The row of an operation that begins, and a read that is answered straight away or waits. The idea: only the new row can be due, and it is an open read.
use Rattle.std.proofs.Common.{◌≡◌, ℕ, zero, suc, ◌+◌, Bool, true, false, cond, not, ◌&&◌, eqb, leb, Some, None, Option, sym, refl, ap, ◌∙◌, arith}
use Rattle.std.proofs.lemmas.Bool.Decides.{nat_tests}
use Rattle.messages.specs.declared.Row.{Row}
use Rattle.counting.specs.Below.{count}
use Rattle.model.specs.State.{Journal}
use Rattle.model.specs.JournalChanges.{journal_begun, journal_answered}
use Rattle.journal.specs.Questions.{next_row, is_open_read}

module _ (j : Journal) (room : leb 256 j.used ≡ false) where
  -- where there is room, some row is next
  there_is_a_next_row : next_row j ≡ Some (record { 0 = j.used })
  there_is_a_next_row = ap (λ b. cond b None (Some (record { 0 = j.used }))) room

  pub the_next_row_is_there : (o : Option Row) → o ≡ next_row j → o ≡ None → ⊥
  the_next_row_is_there o is none = let e = there_is_a_next_row in let z : ◌≡◌ {A = ℕ} 0 1 = cc in omega arith

  -- and the operation begins in it
  pub it_begins_in_the_next_row : (o : Option Row) (row : Row) → o ≡ next_row j → o ≡ Some row → row.0 ≡ j.used
  it_begins_in_the_next_row o row is some =
      let e = there_is_a_next_row in
      let same : row ≡ record { 0 = j.used } = cc in
      ap (λ (r : Row). r.0) same

  pub with_room_it_begins : (after begun : Journal) → after ≡ cond (leb 256 j.used) j begun → after ≡ begun
  with_room_it_begins after begun is = is ∙ ap (λ b. cond b j begun) room

-- where nothing passes, nothing is counted
nothing_counts : (n : ℕ) → count (λ k. false) n ≡ 0
unfolding count
nothing_counts zero = refl
nothing_counts (suc n) = let a = nothing_counts n in omega arith

module _ (j : Journal) (c p t : ℕ) where
  -- the journal in which the read has begun
  abbrev begun : Journal
  begun = journal_begun j false c p t

  -- the new row is an open read
  the_new_read_is_due : (k : ℕ) → (eqb k j.used && is_open_read begun k) ≡ (eqb k j.used && true)
  the_new_read_is_due k = grind (arith, nat_tests)

  -- with nothing pending the read is answered straight away
  pub answered_straight_away : (pending : Bool) → pending ≡ false → (before after : Journal) (row given held : ℕ) → before ≡ begun → row ≡ j.used → given ≡ held
      → after ≡ journal_answered before (λ k. eqb k row && is_open_read before k) given
      → after ≡ journal_answered begun (λ k. eqb k j.used && not pending) held
  answered_straight_away pending none before after row given held b r h is =
      let due = λ (k : ℕ). the_new_read_is_due k ∙ ap (λ x. eqb k j.used && not x) (sym none) in
      let moved : journal_answered before (λ k. eqb k row && is_open_read before k) given ≡ journal_answered begun (λ k. eqb k j.used && is_open_read begun k) held = (λ i. journal_answered (b i) (λ k. eqb k (r i) && is_open_read (b i) k) (h i)) in
      let told : journal_answered begun (λ k. eqb k j.used && is_open_read begun k) held ≡ journal_answered begun (λ k. eqb k j.used && not pending) held = (λ i. journal_answered begun (λ k. due k i) held) in
      is ∙ moved ∙ told

  -- with something pending it waits
  pub else_it_waits : (pending : Bool) → pending ≡ true → (after : Journal) (held : ℕ) → after ≡ begun → after ≡ journal_answered begun (λ k. eqb k j.used && not pending) held
  else_it_waits pending some after held b =
      let never = λ (k : ℕ). let e : (eqb k j.used && not pending) ≡ false = grind (arith, nat_tests) in e in
      let mark : begun.mark + count (λ k. false) begun.used ≡ begun.mark = (let z = nothing_counts begun.used in omega arith) in
      let none : journal_answered begun (λ k. false) held ≡ begun = (λ i. record {
        used = begun.used;
        mark = mark i;
        is_write = begun.is_write;
        client = begun.client;
        server = begun.server;
        begin_mark = begun.begin_mark;
        answered = begun.answered;
        answer_mark = begun.answer_mark;
        given_up = begun.given_up;
        tag = begun.tag;
        threshold = begun.threshold;
        gave = begun.gave;
      }) in
      let told : journal_answered begun (λ k. eqb k j.used && not pending) held ≡ journal_answered begun (λ k. false) held = (λ i. journal_answered begun (λ k. never k i) held) in
      b ∙ sym (told ∙ none)
