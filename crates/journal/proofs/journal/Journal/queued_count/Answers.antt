use Rattle.std.proofs.Common.{rules, ap, ◌∙◌}
use Rattle.counting.specs.Below.{count}
use Rattle.operation.specs.Parts.{is_queued_at}
use Rattle.journal.proofs.Same.{queued_agrees}
use Rattle.journal.proofs.journal.Journal.queued_count.Goals as goal

pub returns : goal.returns
returns c = c.row_count.ensures (λ o. is_queued_at o c.args.server) (λ o answer says. search rules) ∙ ap (λ test. count test 256) (queued_agrees c.args.self.now c.args.server)
