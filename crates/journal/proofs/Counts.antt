-- How many rows pass a test after one row is set: the count moves by what the row itself counts before and after.
use Rattle.std.proofs.Common.{◌≡◌, ℕ, zero, suc, ◌+◌, ◌<◌, Bool, true, false, cond, List, length, set, refl, ap, ◌∙◌, ⊎_elim, arith, get_or-set_other, get_or-set_same}
use Rattle.std.proofs.lemmas.Bool.Decides.{nat_tests}
use Rattle.std.proofs.lemmas.Bool.{cases_eq}
use Rattle.counting.specs.Below.{count}
use Rattle.counting.proofs.Counts.{counts_of_equal_tests_are_equal, nothing_passes}
use Rattle.operation.specs.declared.operation.Operation.{Operation}
use Rattle.operation.specs.declared.operation.State.{State}
use Rattle.journal.specs.Rows.{state_at, how_many}

-- tests that differ at r alone
one_changes : (f g : ℕ → Bool) (r n : ℕ) → r < n → ((k : ℕ) → (k ≡ r → ⊥) → g k ≡ f k) → count g n + cond (f r) 1 0 ≡ count f n + cond (g r) 1 0
unfolding count
one_changes f g r zero l h = absurd (omega arith)
one_changes f g r (suc n) l h = ⊎_elim
    (λ (q : n ≡ r). let a = counts_of_equal_tests_are_equal g f n (λ k low. h k (omega arith)) in let z = ap f q in let y = ap g q in grind (arith, nat_tests))
    (λ (ne : n ≡ r → ⊥). let a = one_changes f g r n (omega arith) h in let z = h n ne in grind (arith, nat_tests))
    (cases_eq n r)

pub one_passes : (f : ℕ → Bool) (r n : ℕ) → r < n → f r ≡ true → ((k : ℕ) → (k ≡ r → ⊥) → f k ≡ false) → count f n ≡ 1
one_passes f r n l e h =
    let a = one_changes (λ k. false) f r n l h in
    let b = nothing_passes (λ k. false) n (λ k l. refl) in
    grind (arith, nat_tests)

pub setting_a_row_moves_the_count : (test : State → Bool) (rows : List Operation) (r : ℕ) (new : Operation) → length rows ≡ 256 → r < 256
    → how_many test (set rows r new) + cond (test (state_at rows r)) 1 0 ≡ how_many test rows + cond (test new.state) 1 0
setting_a_row_moves_the_count test rows r new len low =
    one_changes (λ k. test (state_at rows k)) (λ k. test (state_at (set rows r new) k)) r 256 low (λ k ne. ap (λ o. test o.state) (get_or-set_other rows r k new _ ne))
    ∙ ap (λ o. how_many test rows + cond (test o.state) 1 0) (get_or-set_same rows r new _ (omega arith))
