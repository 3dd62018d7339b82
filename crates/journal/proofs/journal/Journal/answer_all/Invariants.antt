use Rattle.std.proofs.Common.{Bool}
use Rattle.operation.specs.declared.operation.Operation.{Operation}
use Rattle.journal.specs.Rows.{operation_at}
use Rattle.journal.specs.Tests.{Computes, passes_in}
use Rattle.journal.proofs.Answering.{Kept, answer_of}
use Rattle.journal.proofs.journal.Journal.answer_all.Given as goal

abbrev pub invariant-loop-k : goal.invariant-loop-k
invariant-loop-k g l =
    (test : Operation → Bool) → Computes (goal.F-post g l.passes) test
    → Kept (passes_in l.initial.self test) (operation_at l.initial.self.rows) (answer_of l.initial.self.rows l.given) l.initial.self.used l.initial.self.mark
    l.self.rows l.self.used l.self.mark l.k
