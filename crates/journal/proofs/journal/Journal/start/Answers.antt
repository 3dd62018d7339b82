use Rattle.std.proofs.Common.{◌+◌, ◌<◌, sym, ap, ◌∙◌, subst, arith, rules}
use Rattle.std.proofs.lemmas.Bool.{cond-true}
use Rattle.journal.proofs.Facts.{owed, facts_of, the_next_number_fits}
use Rattle.journal.proofs.Same.{queued_is_queued}
use Rattle.journal.proofs.Steps.{facts_after_start, view_after_start}
use Rattle.journal.proofs.journal.Journal.start.Goals as goal

pub overflow_add-number : goal.overflow_add-number
overflow_add-number c =
    let small = the_next_number_fits _ _ _ (facts_of c.args.self.now) c.args.above.0 in
    let same = c.number-number.ensures ∙ ap (λ t. t.number) c.tag.ensures in
    let fits : c.number-number.result + 1 < 4294967296 = omega arith in
    search rules

pub invariant_of-self : goal.invariant_of-self
invariant_of-self c =
    let low : c.args.row.0 < 256 = search rules in
    let number = ap (λ t. t.number) c.new.ensures ∙ ap (λ n. n + 1) (c.number-number.ensures ∙ ap (λ t. t.number) c.tag.ensures) in
    owed _ _ _ (facts_after_start _ _ _ (facts_of c.args.self.now) c.args.row.0 c.args.above.0 c.args.server low (sym c.if-is_queued_at.ensures)
    c.after.result c.new.result c.after.ensures number (ap (λ t. t.server) c.new.ensures))

pub returns-then-is_queued_at : goal.returns-then-is_queued_at
returns-then-is_queued_at c =
    let low : c.args.row.0 < 256 = search rules in
    let byte : c.tag.result.server < 256 = search rules in
    let number = ap (λ t. t.number) c.new.ensures ∙ ap (λ n. n + 1) (c.number-number.ensures ∙ ap (λ t. t.number) c.tag.ensures) in
    let queued = sym c.if-is_queued_at.ensures in
    view_after_start _ _ _ (facts_of c.args.self.now) c.args.row.0 c.args.above.0 c.args.server low queued
    c.after.result c.new.result c.after.ensures number (ap (λ t. t.server) c.new.ensures) (subst (λ t. t.server < 256) c.tag.ensures byte)
    ∙ sym (cond-true _ _ _ (queued_is_queued _ _ _ (facts_of c.args.self.now) c.args.row.0 c.args.server ∙ queued))
