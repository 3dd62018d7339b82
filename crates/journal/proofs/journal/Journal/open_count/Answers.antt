use Rattle.std.proofs.Common.{rules, ap, ◌∙◌}
use Rattle.counting.specs.Below.{count}
use Rattle.operation.specs.Parts.{is_open}
use Rattle.journal.proofs.Same.{open_agrees}
use Rattle.journal.proofs.journal.Journal.open_count.Goals as goal

pub returns : goal.returns
returns c = c.row_count.ensures is_open (λ o answer says. search rules) ∙ ap (λ test. count test 256) (open_agrees c.args.self.now)
