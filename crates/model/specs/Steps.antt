-- What each call of a shelf tells and leaves. Only make and write touch the value rows.
use Rattle.std.specs.Prelude.{◌≡◌, None}
use Rattle.model.specs.declared.Call.{Call}
use Rattle.model.specs.declared.Call.TheVariants.{Write, Read, GiveUp, Turn, Deliver, Crash, Notice, Pick}
use Rattle.model.specs.declared.Outcome.{Outcome}
use Rattle.model.specs.declared.Outcome.TheVariants.{Done}
use Rattle.model.specs.State.{State, Shelf}
use Rattle.model.specs.Refusals.{Told}
use Rattle.model.specs.Operations.{WriteStep, ReadStep, GiveUpStep}
use Rattle.model.specs.Turns.{TurnStep}
use Rattle.model.specs.Deliveries.{DeliverStep}
use Rattle.model.specs.Crashes.{CrashStep, NoticeStep}

module _ {V : Type 0} where
  -- the shelf with another state: the value rows stay
  abbrev pub with_state : Shelf V → State → Shelf V
  with_state s t = record { state = t; rows = s.rows; values = s.values }

  -- a step of the ring and the wiring, which leaves the value rows
  abbrev pub ValuesStay : Shelf V → (Outcome → State → Type 0) → Outcome → Shelf V → Type 0
  ValuesStay s step outcome after = step outcome after.state × (after ≡ with_state s after.state)

  -- what each call tells and leaves; a pick stands for any change of the wiring that leaves what waits
  abbrev pub Step : Shelf V → Call V → Outcome → Shelf V → Type 0
  Step s (Write c p v) = WriteStep s c p v
  Step s (Read c p) = ValuesStay s (ReadStep s.state c p)
  Step s (GiveUp c) = ValuesStay s (GiveUpStep s.state c)
  Step s (Turn p) = ValuesStay s (TurnStep s.state p)
  Step s (Deliver p) = ValuesStay s (DeliverStep s.state p)
  Step s (Crash p) = ValuesStay s (CrashStep s.state p)
  Step s (Notice p x) = ValuesStay s (NoticeStep s.state p x)
  Step s (Pick k) = Told None s Done s
