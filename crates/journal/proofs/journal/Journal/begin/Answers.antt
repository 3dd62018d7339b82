use Rattle.std.proofs.Common.{◌<◌, sym, ◌∙◌, arith, rules}
use Rattle.std.proofs.lemmas.Bool.{lt-leb, cond-false}
use Rattle.journal.proofs.Facts.{owed, facts_of, the_next_mark_fits}
use Rattle.journal.proofs.Steps.{facts_after_begin, view_after_begin}
use Rattle.journal.proofs.journal.Journal.begin.Goals as goal

pub overflow_add-mark : goal.overflow_add-mark
overflow_add-mark c =
    let small = the_next_mark_fits _ _ _ (facts_of c.args.self.now) in
    search rules

pub invariant_of-self : goal.invariant_of-self
invariant_of-self c =
    let room : c.args.self.now.used < 256 = omega arith in
    owed _ _ _ (facts_after_begin _ _ _ (facts_of c.args.self.now) room c.args.client c.args.server c.args.request c.after.result c.after.ensures)

pub returns-clause-after : goal.returns-clause-after
returns-clause-after c =
    let room : c.args.self.now.used < 256 = omega arith in
    view_after_begin _ _ _ (facts_of c.args.self.now) room c.args.client c.args.server c.args.request c.after.result c.after.ensures
    ∙ sym (cond-false _ _ _ (lt-leb 256 c.args.self.now.used room))
