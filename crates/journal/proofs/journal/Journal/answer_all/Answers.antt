use Rattle.std.proofs.Common.{◌≡◌, ◌+◌, ◌<◌, true, ◌&&◌, ltb, length, sym, ap, ◌∙◌, arith}
use Rattle.std.proofs.lemmas.Bool.{lt-ltb}
use Rattle.operation.specs.declared.operation.Event.TheVariants.{Answer}
use Rattle.operation.specs.Events.{after}
use Rattle.operation.specs.Parts.{is_answerable}
use Rattle.journal.specs.Rows.{operation_at}
use Rattle.journal.specs.Tests.{passes_in}
use Rattle.journal.proofs.Answering.{nothing_is_answered_yet, the_next_row_stands, a_row_is_passed, a_row_is_answered, the_loop_answers_all}
use Rattle.journal.proofs.journal.Journal.answer_all.Goals as goal
use Rattle.journal.proofs.journal.Journal.answer_all.Goals.{then-passes, else-passes}

pub loop-k-init : goal.loop-k-init
loop-k-init g c = λ test same. nothing_is_answered_yet _ _ _ _ _

pub loop-k-preserved : goal.loop-k-preserved
loop-k-preserved g c = λ test same.
    let kept = c.loop-k.invariant test same in
    let stands = the_next_row_stands _ _ _ _ _ _ _ _ _ kept in
    let used : ltb c.loop-k.k c.args.self.now.used ≡ true = lt-ltb c.loop-k.k c.args.self.now.used c.loop-k-test.true in
    let passes : passes_in c.args.self.now test c.loop-k.k ≡ c.passes.result =
    ap (λ b. b && test (operation_at c.args.self.now.rows c.loop-k.k)) used ∙ (ap test (sym stands) ∙ sym (same _ _ c.passes.ensures)) in
    let low : c.loop-k.k < length c.loop-k.self.rows = omega (arith, c.loop-k-test.true, c.args.self.now.room, c.loop-k.self.sized) in
    elim c.if-passes.branch [
      | then-passes w ↦ (let fits : is_answerable (operation_at c.args.self.now.rows c.loop-k.k) ≡ true = ap is_answerable (sym stands) ∙ c.requires.answerable _ w.if-passes.ensures in
          rw w.self-is (a_row_is_answered _ _ _ _ _ _ _ _ _ kept (passes ∙ w.if-passes.true) fits low _ _ _ _ w.answer.ensures.used w.answer.ensures.mark w.answer.ensures.rows
          (ap (λ o. after o (Answer c.args.given (c.loop-k.self.mark + 1))) stands)))
      | else-passes w ↦ rw w.self-is (a_row_is_passed _ _ _ _ _ _ _ _ _ kept (passes ∙ w.if-passes.false))
    ]

pub returns : goal.returns
returns g c = λ test same.
    let end : c.loop-k.k ≡ c.args.self.now.used = omega arith in
    the_loop_answers_all test c.args.self.now c.args.given _ _ _ (rw end at c.loop-k.invariant test same)
