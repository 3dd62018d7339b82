-- What is left pending where a server holds a row: row by row, and nothing else changes.
use Rattle.std.proofs.Common.{◌≡◌, ℕ, zero, suc, ◌<◌, ◌≤◌, cond, ◌&&◌, ltb, leb, List, length, get_or, arith, length-set}
use Rattle.std.proofs.lemmas.List.{get_or-set_same, get_or-set_other}
use Rattle.std.proofs.lemmas.Bool.Decides.{nat_tests}
use Rattle.server.specs.declared.cell.Cell.{Cell}
use Rattle.server.specs.Cells.{no_cell}
use Rattle.server.specs.Changes.{cleared_below, cleared_one}

module _ (tag : ℕ → ℕ) (bound : ℕ) (cells : List Cell) where
  -- what the first n rows are, once they are cleared
  pub record Cleared (n : ℕ) (after : List Cell) : Type 0 where
    pub long : length after ≡ length cells
    pub pending : (k : ℕ) → (get_or after k no_cell).pending.bits ≡ cond (ltb k n && leb (tag k) bound) 0 (get_or cells k no_cell).pending.bits
    pub prewrite : (k : ℕ) → (get_or after k no_cell).prewrite.bits ≡ (get_or cells k no_cell).prewrite.bits
    pub write : (k : ℕ) → (get_or after k no_cell).write.bits ≡ (get_or cells k no_cell).write.bits

  -- one row more
  one_more_row_is_cleared : (n : ℕ) (before : List Cell) → n < length cells → Cleared n before → Cleared (suc n) (cleared_one tag bound before n)
  one_more_row_is_cleared n before low was = grind (arith, nat_tests, get_or-set_same, get_or-set_other, length-set)

  -- any number of rows
  pub the_first_are_cleared : (n : ℕ) → n ≤ length cells → Cleared n (cleared_below tag bound cells n)
  unfolding cleared_below
  the_first_are_cleared zero low = grind (arith, nat_tests)
  the_first_are_cleared (suc n) low = one_more_row_is_cleared n (cleared_below tag bound cells n) (omega arith) (the_first_are_cleared n (omega arith))
