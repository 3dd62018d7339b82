-- The facts of a journal are kept when one row is set, by each of the four changes: an operation begins, a write starts, an operation is answered or given up.
use Rattle.std.proofs.Common.{◌≡◌, ℕ, ◌+◌, ◌<◌, ◌≤◌, true, cond, ltb, List, length, set, sym, ◌∙◌, subst, ⊎_elim, arith, length-set, get_or-set_other, get_or-set_same}
use Rattle.std.proofs.lemmas.Bool.{cases_eq}
use Rattle.operation.specs.declared.operation.Operation.{Operation}
use Rattle.operation.specs.declared.operation.State.{State}
use Rattle.operation.specs.Parts.{is_taken, is_answered, has_tag, is_numbered, state_tag}
use Rattle.journal.specs.declared.journal.Journal.{Journal}
use Rattle.journal.specs.Rows.{state_at, tag_number_at, how_many}
use Rattle.counting.proofs.Counts.{a_count_is_at_most_its_bound}
use Rattle.journal.proofs.Counts.{setting_a_row_moves_the_count}

-- the facts of a journal, together
pub record Facts (used mark : ℕ) (rows : List Operation) : Type 0 where
  pub sized : length rows ≡ 256
  pub room : used ≤ 256
  pub taken : (k : ℕ) → is_taken (state_at rows k) ≡ ltb k used
  pub marks : mark ≤ used + how_many is_answered rows
  pub numbered : (k : ℕ) → is_numbered (state_at rows k) ≡ true
  pub numbers : (k : ℕ) → tag_number_at rows k ≤ how_many has_tag rows

-- a journal has them
abbrev pub facts_of : (j : Journal) → Facts j.used j.mark j.rows
facts_of j = record { sized = j.sized; room = j.room; taken = j.taken; marks = j.marks; numbered = j.numbered; numbers = j.numbers }

-- what a call owes of the journal that it leaves
pub owed : (used mark : ℕ) (rows : List Operation) → Facts used mark rows → record {
  sized : length rows ≡ 256;
  room : used ≤ 256;
  taken : (k : ℕ) → is_taken (state_at rows k) ≡ ltb k used;
  marks : mark ≤ used + how_many is_answered rows;
  numbered : (k : ℕ) → is_numbered (state_at rows k) ≡ true;
  numbers : (k : ℕ) → tag_number_at rows k ≤ how_many has_tag rows;
}
owed used mark rows f = record { sized = f.sized; room = f.room; taken = f.taken; marks = f.marks; numbered = f.numbered; numbers = f.numbers }

-- what holds of the row that is set, and what held of every other row, holds of every row
pub rows_after_a_set : (P : ℕ → State → Type 0) (rows : List Operation) (r : ℕ) (new : Operation) → r < length rows
    → P r new.state → ((k : ℕ) → (k ≡ r → ⊥) → P k (state_at rows k)) → (k : ℕ) → P k (state_at (set rows r new) k)
rows_after_a_set P rows r new low here others k = ⊎_elim
    (λ (e : k ≡ r). subst (λ j. P j (state_at (set rows r new) j)) (sym e) (subst (λ o. P r o.state) (sym (get_or-set_same rows r new _ low)) here))
    (λ (ne : k ≡ r → ⊥). subst (λ o. P k o.state) (sym (get_or-set_other rows r k new _ ne)) (others k ne))
    (cases_eq k r)

-- marks and numbers stay small
pub the_next_mark_fits : (used mark : ℕ) (rows : List Operation) → Facts used mark rows → mark + 1 < 4294967296
the_next_mark_fits used mark rows h = let few = a_count_is_at_most_its_bound (λ k. is_answered (state_at rows k)) 256 in omega (arith, h.room, h.marks)

pub the_next_number_fits : (used mark : ℕ) (rows : List Operation) → Facts used mark rows → (k : ℕ) → tag_number_at rows k + 1 < 4294967296
the_next_number_fits used mark rows h k = let few = a_count_is_at_most_its_bound (λ k. has_tag (state_at rows k)) 256 in omega (arith, h.numbers k)

module _ (used mark : ℕ) (rows : List Operation) (h : Facts used mark rows) (r : ℕ) (new : Operation) (low : r < 256) where
  in_range : r < length rows
  in_range = omega (arith, h.sized)

  answered_rows_move : how_many is_answered (set rows r new) + cond (is_answered (state_at rows r)) 1 0 ≡ how_many is_answered rows + cond (is_answered new.state) 1 0
  answered_rows_move = setting_a_row_moves_the_count is_answered rows r new h.sized low

  tagged_rows_move : how_many has_tag (set rows r new) + cond (has_tag (state_at rows r)) 1 0 ≡ how_many has_tag rows + cond (has_tag new.state) 1 0
  tagged_rows_move = setting_a_row_moves_the_count has_tag rows r new h.sized low

  -- the row may be taken now, marks may have grown as the used rows and the answers did, and its tag may have the next number
  pub facts_after_a_set : (used' mark' : ℕ) → used' ≤ 256 → is_taken new.state ≡ ltb r used' → ((k : ℕ) → (k ≡ r → ⊥) → ltb k used ≡ ltb k used')
      → is_numbered new.state ≡ true
      → mark' + (used + cond (is_answered (state_at rows r)) 1 0) ≤ mark + (used' + cond (is_answered new.state) 1 0)
      → cond (has_tag (state_at rows r)) 1 0 ≤ cond (has_tag new.state) 1 0
      → (state_tag new.state).number + cond (has_tag (state_at rows r)) 1 0 ≤ how_many has_tag rows + cond (has_tag new.state) 1 0
      → Facts used' mark' (set rows r new)
  facts_after_a_set used' mark' fits here others num mk more top = record {
    sized = length-set rows r new ∙ h.sized;
    room = fits;
    taken = rows_after_a_set (λ k s. is_taken s ≡ ltb k used') rows r new in_range here (λ k ne. h.taken k ∙ others k ne);
    marks = omega (arith, answered_rows_move, h.marks);
    numbered = rows_after_a_set (λ k s. is_numbered s ≡ true) rows r new in_range num (λ k ne. h.numbered k);
    numbers = rows_after_a_set (λ k s. (state_tag s).number ≤ how_many has_tag (set rows r new)) rows r new in_range (omega (arith, tagged_rows_move)) (λ k ne. omega (arith, tagged_rows_move, h.numbers k));
  }
