use Rattle.std.proofs.Common.{rules, ap, ◌∙◌}
use Rattle.counting.specs.Below.{least}
use Rattle.operation.specs.Parts.{is_queued_at}
use Rattle.journal.proofs.Same.{queued_agrees}
use Rattle.journal.proofs.Searches.{a_row_is_found}
use Rattle.journal.proofs.journal.Journal.first_queued.Goals as goal

pub returns : goal.returns
returns c =
    let found = c.first_row.ensures (λ o. is_queued_at o c.args.server) (λ o answer says. search rules) ∙ ap (λ test. least test (λ k. k) 256) (queued_agrees c.args.self.now c.args.server) in
    record { found = found; some = a_row_is_found c.first_row.result _ 256 found }
