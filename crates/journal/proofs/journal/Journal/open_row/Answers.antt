use Rattle.std.proofs.Common.{rules, ap, ◌∙◌}
use Rattle.counting.specs.Below.{least}
use Rattle.operation.specs.Parts.{is_open_of}
use Rattle.journal.proofs.Same.{open_of_agrees}
use Rattle.journal.proofs.Searches.{a_row_is_found}
use Rattle.journal.proofs.journal.Journal.open_row.Goals as goal

pub returns : goal.returns
returns c =
    let found = c.first_row.ensures (λ o. is_open_of o c.args.client) (λ o answer says. search rules) ∙ ap (λ test. least test (λ k. k) 256) (open_of_agrees c.args.self.now c.args.client) in
    record { found = found; some = a_row_is_found c.first_row.result _ 256 found }
