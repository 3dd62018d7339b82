-- A value that is stored in a slice is stored in the value rows. The idea: every other row keeps its value, also past the end.
use Rattle.std.proofs.Common.{◌≡◌, ℕ, ◌<◌, List, length, get_or, set, arith}
use Rattle.std.proofs.lemmas.List.{get_or-set_same, get_or-set_other}
use Rattle.std.proofs.lemmas.Bool.Decides.{nat_tests}
use Rattle.model.specs.State.{set_at}

pub a_stored_value_stands_in_its_row : {V : Type 0} (values : List V) (i : ℕ) (v d : V) → i < length values → (k : ℕ) → get_or (set values i v) k d ≡ set_at (λ k. get_or values k d) i v k
a_stored_value_stands_in_its_row values i v d room k =
    let here = get_or-set_same values i v d room in
    let there = get_or-set_other values i k v d in
    grind (arith, nat_tests)
