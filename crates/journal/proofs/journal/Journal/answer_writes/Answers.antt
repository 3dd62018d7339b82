use Rattle.std.proofs.Common.{rules, ap, ◌∙◌}
use Rattle.model.specs.JournalChanges.{journal_answered}
use Rattle.operation.specs.Parts.{is_returned}
use Rattle.operation.specs.Tags.{tag_key}
use Rattle.journal.specs.View.{view}
use Rattle.journal.proofs.Same.{returned_agrees}
use Rattle.journal.proofs.journal.Journal.answer_writes.Goals as goal

pub returns : goal.returns
returns c =
    c.answer_all.ensures (λ o. is_returned o c.args.server (tag_key c.args.returned)) (λ o answer says. search rules)
    ∙ ap (λ test. journal_answered (view c.args.self.now) test 0) (returned_agrees c.args.self.now c.args.server (tag_key c.args.returned))
