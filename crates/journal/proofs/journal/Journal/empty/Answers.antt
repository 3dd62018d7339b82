use Rattle.std.proofs.Common.{refl}
use Rattle.journal.proofs.Facts.{owed}
use Rattle.journal.proofs.Beginnings.{unused_rows, unused_rows_are_unused, facts_of_no_rows, view_of_no_rows}
use Rattle.journal.proofs.journal.Journal.empty.Goals as goal

pub invariant_of-result : goal.invariant_of-result
invariant_of-result c =
    owed _ _ _ (facts_of_no_rows (unused_rows 256) refl unused_rows_are_unused)

pub returns : goal.returns
returns c = view_of_no_rows (unused_rows 256) refl unused_rows_are_unused
