use Rattle.std.proofs.Common.{rules}
use Rattle.journal.proofs.Facts.{owed, facts_of, the_next_mark_fits}
use Rattle.journal.proofs.Steps.{facts_after_answer}
use Rattle.journal.proofs.journal.Journal.answer.Goals as goal

pub overflow_add-mark : goal.overflow_add-mark
overflow_add-mark c =
    let small = the_next_mark_fits _ _ _ (facts_of c.args.self.now) in
    search rules

pub invariant_of-self : goal.invariant_of-self
invariant_of-self c =
    owed _ _ _ (facts_after_answer _ _ _ (facts_of c.args.self.now) c.args.k c.args.given c.requires.0 c.requires.1 c.after.result c.after.ensures)
