-- What a call tells, from what it gives back: nothing or a row where it is accepted, else its refusal.
use Rattle.std.specs.Prelude.{Ok, Err, Result}
use Rattle.messages.specs.declared.Row.{Row as RowNumber}
use Rattle.model.specs.declared.Refusal.{Refusal}
use Rattle.model.specs.declared.Outcome.{Outcome}
use Rattle.model.specs.declared.Outcome.TheVariants.{Row, Done, Refused}

-- what a call tells that gives nothing when it is accepted
abbrev pub outcome : Result (Unit {0}) Refusal → Outcome
outcome (Ok nothing) = Done
outcome (Err reason) = Refused reason

-- what a call tells that gives a row when it is accepted
abbrev pub row_outcome : Result RowNumber Refusal → Outcome
row_outcome (Ok row) = Row row.0
row_outcome (Err reason) = Refused reason
