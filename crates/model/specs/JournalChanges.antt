-- What happens to the journal: a new one, an operation begins, is answered, gets its tag, is given up.
use Rattle.std.specs.Prelude.{ℕ, ◌+◌, Bool, true, false, cond, not, ◌&&◌, ◌==◌}
use Rattle.counting.specs.Below.{count}
use Rattle.model.specs.State.{set_at, Journal}

-- a new journal: row 0 is the first value, an answered write by client 0 with tag (0, 0)
abbrev pub new_journal : Journal
new_journal = record {
  used = 1;
  mark = 0;
  is_write = λ k. (k == 0);
  client = λ k. 0;
  server = λ k. 0;
  begin_mark = λ k. 0;
  answered = λ k. (k == 0);
  answer_mark = λ k. 0;
  given_up = λ k. false;
  tag = λ k. 0;
  threshold = λ k. 0;
  gave = λ k. 0;
}

-- an operation by client c at server p takes the next row and the next mark; a read waits for tag t
abbrev pub journal_begun : Journal → Bool → ℕ → ℕ → ℕ → Journal
journal_begun j write c p t = record {
  used = j.used + 1;
  mark = j.mark + 1;
  is_write = set_at j.is_write j.used write;
  client = set_at j.client j.used c;
  server = set_at j.server j.used p;
  begin_mark = set_at j.begin_mark j.used (j.mark + 1);
  answered = set_at j.answered j.used false;
  answer_mark = set_at j.answer_mark j.used 0;
  given_up = set_at j.given_up j.used false;
  tag = j.tag;
  threshold = set_at j.threshold j.used t;
  gave = set_at j.gave j.used 0;
}

-- the operations that are due are answered, in row order, each taking the next mark; a read gives row r, and nothing waits for a tag any more
abbrev pub journal_answered : Journal → (ℕ → Bool) → ℕ → Journal
journal_answered j due r = record {
  used = j.used;
  mark = j.mark + count due j.used;
  is_write = j.is_write;
  client = j.client;
  server = j.server;
  begin_mark = j.begin_mark;
  answered = λ k. cond (due k) true (j.answered k);
  answer_mark = λ k. cond (due k) (j.mark + count due k + 1) (j.answer_mark k);
  given_up = j.given_up;
  tag = j.tag;
  threshold = λ k. cond (due k) 0 (j.threshold k);
  gave = λ k. cond (due k && not (j.is_write k)) r (j.gave k);
}

-- the write of row r has started, with tag t
abbrev pub journal_tagged : Journal → ℕ → ℕ → Journal
journal_tagged j r t = record {
  used = j.used;
  mark = j.mark;
  is_write = j.is_write;
  client = j.client;
  server = j.server;
  begin_mark = j.begin_mark;
  answered = j.answered;
  answer_mark = j.answer_mark;
  given_up = j.given_up;
  tag = set_at j.tag r t;
  threshold = j.threshold;
  gave = j.gave;
}

-- the operation of row r is given up
abbrev pub journal_given_up : Journal → ℕ → Journal
journal_given_up j r = record {
  used = j.used;
  mark = j.mark;
  is_write = j.is_write;
  client = j.client;
  server = j.server;
  begin_mark = j.begin_mark;
  answered = j.answered;
  answer_mark = j.answer_mark;
  given_up = set_at j.given_up r true;
  tag = j.tag;
  threshold = j.threshold;
  gave = j.gave;
}
