-- What the journal adds to the model's words: a journal without rows, its next row, an open read.
use Rattle.std.specs.Prelude.{ℕ, Bool, false, cond, not, ◌&&◌, Some, None, Option, nat_le}
use Rattle.messages.specs.declared.Row.{Row}
use Rattle.model.specs.State.{Journal, is_open}

-- the journal of a ring that was never made
abbrev pub no_journal : Journal
no_journal = record {
  used = 0;
  mark = 0;
  is_write = λ k. false;
  client = λ k. 0;
  server = λ k. 0;
  begin_mark = λ k. 0;
  answered = λ k. false;
  answer_mark = λ k. 0;
  given_up = λ k. false;
  tag = λ k. 0;
  threshold = λ k. 0;
  gave = λ k. 0;
}

-- the next row, none where all are used
abbrev pub next_row : Journal → Option Row
next_row j = cond (nat_le 256 j.used) None (Some (record { 0 = j.used }))

-- the number of a row that was found
abbrev pub row_found : Option Row → Option ℕ
row_found None = None
row_found (Some r) = Some r.0

-- row k is an open read
abbrev pub is_open_read : Journal → ℕ → Bool
is_open_read j k = is_open j k && not (j.is_write k)
