-- The model's journal that a journal stands for, field by field.
use Rattle.std.specs.Prelude.{ℕ, List}
use Rattle.model.specs.State.{Journal as ModelJournal}
use Rattle.operation.specs.declared.operation.Operation.{Operation}
use Rattle.operation.specs.Tags.{tag_key}
use Rattle.operation.specs.Parts.{is_write, is_answered, answer_mark, state_tag, threshold_key, row_given}
use Rattle.journal.specs.declared.journal.Journal.{Journal}
use Rattle.journal.specs.Rows.{operation_at, state_at}

-- by parts: what stands in each row, as functions of the row
abbrev pub journal_of : ℕ → ℕ → List Operation → ModelJournal
journal_of used mark rows = record {
  used = used;
  mark = mark;
  is_write = λ k. is_write (state_at rows k);
  client = λ k. (operation_at rows k).client;
  server = λ k. (operation_at rows k).server;
  begin_mark = λ k. (operation_at rows k).begin_mark;
  answered = λ k. is_answered (state_at rows k);
  answer_mark = λ k. answer_mark (state_at rows k);
  given_up = λ k. (operation_at rows k).given_up;
  tag = λ k. tag_key (state_tag (state_at rows k));
  threshold = λ k. threshold_key (state_at rows k);
  gave = λ k. row_given (state_at rows k);
}

-- the model's journal that the code's journal stands for
abbrev pub view : Journal → ModelJournal
view j = journal_of j.used j.mark j.rows
