use Rattle.std.proofs.Common.{rules, tests, take, ◌∙◌, sym}
use Rattle.std.proofs.lemmas.Iterator.{YieldsList-from_slice}
use Rattle.std.proofs.lemmas.Iterator.Search.{position_from_yields_List}
use Rattle.journal.proofs.Searches.{first_used}
use Rattle.journal.proofs.journal.Journal.first_row.Goals as goal

pub returns-in_err-k : goal.returns-in_err-k
returns-in_err-k g c = λ test same.
    let found = position_from_yields_List test _ _ c.position.result c.position.ensures.ran (YieldsList-from_slice (take c.args.self.now.used c.args.self.now.rows) (cc)) (λ x b q k. search (rules, tests, same)) in
    search (rules, found, first_used c.args.self.now test)

pub returns : goal.returns
returns g c = λ test same.
    let found = position_from_yields_List test _ _ c.position.result c.position.ensures.ran (YieldsList-from_slice (take c.args.self.now.used c.args.self.now.rows) (cc)) (λ x b q k. search (rules, tests, same)) in
    sym c.in_ok-k.was ∙ (found ∙ first_used c.args.self.now test)
