-- The view of a journal after one row is set: each field is set at that row.
use Rattle.std.proofs.Common.{◌≡◌, ℕ, ◌<◌, List, [], length, set, arith, get_or-set_other, get_or-set_same}
use mathlib.Core.Path.{fun_ext}
use Rattle.std.proofs.lemmas.Bool.Decides.{nat_tests}
use Rattle.model.specs.State.{Journal, set_at}
use Rattle.operation.specs.declared.operation.Operation.{Operation}
use Rattle.operation.specs.Tags.{tag_key}
use Rattle.operation.specs.Parts.{is_write, is_answered, answer_mark, state_tag, threshold_key, row_given}
use Rattle.journal.specs.Rows.{operation_at}
use Rattle.journal.specs.View.{journal_of}

-- the model's journal j, with the operation o in row r
abbrev pub row_set : Journal → ℕ → Operation → Journal
row_set j r o = record {
  used = j.used;
  mark = j.mark;
  is_write = set_at j.is_write r (is_write o.state);
  client = set_at j.client r o.client;
  server = set_at j.server r o.server;
  begin_mark = set_at j.begin_mark r o.begin_mark;
  answered = set_at j.answered r (is_answered o.state);
  answer_mark = set_at j.answer_mark r (answer_mark o.state);
  given_up = set_at j.given_up r o.given_up;
  tag = set_at j.tag r (tag_key (state_tag o.state));
  threshold = set_at j.threshold r (threshold_key o.state);
  gave = set_at j.gave r (row_given o.state);
}

-- a part f of each row, after row r is set
part_set : {B : Type 0} (f : Operation → B) (rows : List Operation) (r : ℕ) (new : Operation) → r < length rows
    → (λ k. f (operation_at (set rows r new) k)) ≡ set_at (λ k. f (operation_at rows k)) r (f new)
part_set f rows r new low = fun_ext (λ k. let a = get_or-set_same rows r new (operation_at [] 0) low in let b = get_or-set_other rows r k new (operation_at [] 0) in grind (arith, nat_tests))

pub the_view_after_a_set : (used mark : ℕ) (rows : List Operation) (r : ℕ) (new : Operation) → r < length rows
    → journal_of used mark (set rows r new) ≡ row_set (journal_of used mark rows) r new
the_view_after_a_set used mark rows r new low = λ i. record {
  used = used;
  mark = mark;
  is_write = part_set (λ o. is_write o.state) rows r new low i;
  client = part_set (λ o. o.client) rows r new low i;
  server = part_set (λ o. o.server) rows r new low i;
  begin_mark = part_set (λ o. o.begin_mark) rows r new low i;
  answered = part_set (λ o. is_answered o.state) rows r new low i;
  answer_mark = part_set (λ o. answer_mark o.state) rows r new low i;
  given_up = part_set (λ o. o.given_up) rows r new low i;
  tag = part_set (λ o. tag_key (state_tag o.state)) rows r new low i;
  threshold = part_set (λ o. threshold_key o.state) rows r new low i;
  gave = part_set (λ o. row_given o.state) rows r new low i;
}
