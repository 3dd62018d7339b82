use Rattle.std.proofs.Common.{◌<◌, sym, ◌∙◌, rules}
use Rattle.std.proofs.lemmas.Bool.{cond-true}
use Rattle.journal.proofs.Facts.{owed, facts_of}
use Rattle.journal.proofs.Same.{open_is_open}
use Rattle.journal.proofs.Steps.{facts_after_give_up, view_after_give_up}
use Rattle.journal.proofs.journal.Journal.give_up.Goals as goal

pub invariant_of-self : goal.invariant_of-self
invariant_of-self c =
    let low : c.args.row.0 < 256 = search rules in
    owed _ _ _ (facts_after_give_up _ _ _ (facts_of c.args.self.now) c.args.row.0 low (sym c.if-is_open.ensures) c.after.result c.after.ensures)

pub returns-then-is_open : goal.returns-then-is_open
returns-then-is_open c =
    let low : c.args.row.0 < 256 = search rules in
    let is_so = sym c.if-is_open.ensures in
    view_after_give_up _ _ _ (facts_of c.args.self.now) c.args.row.0 low is_so c.after.result c.after.ensures
    ∙ sym (cond-true _ _ _ (open_is_open _ _ _ (facts_of c.args.self.now) c.args.row.0 ∙ is_so))
