-- Cases on a test that stands in several places.
use Rattle.std.proofs.Common.{◌≡◌, Bool, true, false, ⊎_elim}
use Rattle.std.proofs.lemmas.Bool.{cases_Bool}

-- What holds whichever way a test comes out.
pub by_test : (b : Bool) {X : Type 0} → (b ≡ true → X) → (b ≡ false → X) → X
by_test b if_true if_false = ⊎_elim if_true if_false (cases_Bool b)
