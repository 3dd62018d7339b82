-- A journal without a row, and one with the first value alone.
use Rattle.std.proofs.Common.{◌≡◌, ℕ, zero, suc, Bool, true, false, cond, eqb, List, length, get_or, set, replicate, refl, ap, ◌∙◌, arith}
use mathlib.Core.Path.{fun_ext}
use Rattle.std.proofs.lemmas.Bool.Decides.{nat_tests}
use Rattle.model.specs.State.{set_at}
use Rattle.operation.specs.declared.operation.Operation.{Operation}
use Rattle.operation.specs.declared.operation.State.TheVariants.{Written}
use Rattle.operation.specs.Tags.{tag_key, first_tag}
use Rattle.operation.specs.Events.{unused_operation, new_operation}
use Rattle.operation.specs.Parts.{is_taken, is_write, is_answered, has_tag, is_numbered, answer_mark, state_tag, threshold_key, row_given}
use Rattle.journal.specs.Rows.{operation_at, state_at}
use Rattle.journal.specs.View.{journal_of}
use Rattle.model.specs.JournalChanges.{new_journal}
use Rattle.journal.specs.Questions.{no_journal}
use Rattle.journal.proofs.Facts.{Facts, facts_after_a_set}
use Rattle.journal.proofs.Views.{the_view_after_a_set}

-- everywhere in a row of equal things, and past its end, is that thing
pub get_or_replicate : {A : Type 0} (n i : ℕ) (a : A) → get_or (replicate n a) i a ≡ a
get_or_replicate zero i a = refl
get_or_replicate (suc n) zero a = refl
get_or_replicate (suc n) (suc i) a = get_or_replicate n i a

-- n rows that no operation has taken
abbrev pub unused_rows : ℕ → List Operation
unused_rows n = replicate n unused_operation

pub unused_rows_are_unused : (k : ℕ) → operation_at (unused_rows 256) k ≡ unused_operation
unused_rows_are_unused k = get_or_replicate 256 k unused_operation

module _ (rows : List Operation) (len : length rows ≡ 256) (blank : (k : ℕ) → operation_at rows k ≡ unused_operation) where
  pub facts_of_no_rows : Facts 0 0 rows
  facts_of_no_rows = record {
    sized = len;
    room = omega arith;
    taken = λ k. ap (λ o. is_taken o.state) (blank k) ∙ grind (arith, nat_tests);
    marks = omega arith;
    numbered = λ k. ap (λ o. is_numbered o.state) (blank k);
    numbers = λ k. let z = ap (λ o. (state_tag o.state).number) (blank k) in omega arith;
  }

  pub view_of_no_rows : journal_of 0 0 rows ≡ no_journal
  view_of_no_rows = λ i. record {
    used = 0;
    mark = 0;
    is_write = λ k. is_write (blank k i).state;
    client = λ k. (blank k i).client;
    server = λ k. (blank k i).server;
    begin_mark = λ k. (blank k i).begin_mark;
    answered = λ k. is_answered (blank k i).state;
    answer_mark = λ k. answer_mark (blank k i).state;
    given_up = λ k. (blank k i).given_up;
    tag = λ k. tag_key (state_tag (blank k i).state);
    threshold = λ k. threshold_key (blank k i).state;
    gave = λ k. row_given (blank k i).state;
  }

  -- the first value
  abbrev first_value : Operation
  first_value = new_operation 0 0 0 (Written first_tag 0)

  pub facts_of_the_first_value : Facts 1 0 (set rows 0 first_value)
  facts_of_the_first_value =
      let z = blank 0 in
      let a : is_answered (state_at rows 0) ≡ false = ap (λ o. is_answered o.state) z in
      let t : has_tag (state_at rows 0) ≡ false = ap (λ o. has_tag o.state) z in
      facts_after_a_set 0 0 rows facts_of_no_rows 0 first_value (omega arith) 1 0 (omega arith) refl (λ k ne. grind (arith, nat_tests)) refl
      (grind (arith, nat_tests)) (grind (arith, nat_tests)) (grind (arith, nat_tests))

  -- a part f that row 0 alone has otherwise than an unused row
  part_of_row_0 : {B : Type 0} (f : Operation → B) (b c : B) → f unused_operation ≡ c → f first_value ≡ b → set_at (λ k. f (operation_at rows k)) 0 (f first_value) ≡ (λ k. cond (eqb k 0) b c)
  part_of_row_0 f b c e g = fun_ext (λ k. let z = ap f (blank k) in grind (arith, nat_tests))

  -- and one that it has too
  part_of_all : {B : Type 0} (f : Operation → B) (c : B) → f unused_operation ≡ c → f first_value ≡ c → set_at (λ k. f (operation_at rows k)) 0 (f first_value) ≡ (λ k. c)
  part_of_all f c e g = fun_ext (λ k. let z = ap f (blank k) in grind (arith, nat_tests))

  row_0_alone : ◌≡◌ {A = ℕ → Bool} (λ k. cond (eqb k 0) true false) (λ k. eqb k 0)
  row_0_alone = fun_ext (λ k. grind (arith, nat_tests))

  pub view_of_the_first_value : journal_of 1 0 (set rows 0 first_value) ≡ new_journal
  view_of_the_first_value = the_view_after_a_set 1 0 rows 0 first_value (omega (arith, len)) ∙ (λ i. record {
    used = 1;
    mark = 0;
    is_write = (part_of_row_0 (λ o. is_write o.state) true false refl refl ∙ row_0_alone) i;
    client = part_of_all (λ o. o.client) 0 refl refl i;
    server = part_of_all (λ o. o.server) 0 refl refl i;
    begin_mark = part_of_all (λ o. o.begin_mark) 0 refl refl i;
    answered = (part_of_row_0 (λ o. is_answered o.state) true false refl refl ∙ row_0_alone) i;
    answer_mark = part_of_all (λ o. answer_mark o.state) 0 refl refl i;
    given_up = part_of_all (λ o. o.given_up) false refl refl i;
    tag = part_of_all (λ o. tag_key (state_tag o.state)) 0 refl refl i;
    threshold = part_of_all (λ o. threshold_key o.state) 0 refl refl i;
    gave = part_of_all (λ o. row_given o.state) 0 refl refl i;
  })
