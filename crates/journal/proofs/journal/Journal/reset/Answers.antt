use Rattle.std.proofs.Common.{refl}
use Rattle.journal.proofs.Facts.{owed}
use Rattle.journal.proofs.Beginnings.{unused_rows, unused_rows_are_unused, facts_of_the_first_value, view_of_the_first_value}
use Rattle.journal.proofs.journal.Journal.reset.Goals as goal

pub invariant_of-self : goal.invariant_of-self
invariant_of-self c =
    owed _ _ _ (facts_of_the_first_value (unused_rows 256) refl unused_rows_are_unused)

pub returns : goal.returns
returns c = view_of_the_first_value (unused_rows 256) refl unused_rows_are_unused
