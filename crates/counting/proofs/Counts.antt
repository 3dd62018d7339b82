-- Laws of counts. Each by induction on the bound.
use Rattle.std.proofs.Common.{◌≡◌, ℕ, zero, suc, ◌<◌, ◌≤◌, Bool, false, refl, arith}
use Rattle.std.proofs.lemmas.Bool.Decides.{nat_tests}
use Rattle.counting.specs.Below.{count}

-- no more numbers below the bound pass than there are
pub a_count_is_at_most_its_bound : (test : ℕ → Bool) (n : ℕ) → count test n ≤ n
unfolding count
a_count_is_at_most_its_bound test zero = omega arith
a_count_is_at_most_its_bound test (suc n) = let a = a_count_is_at_most_its_bound test n in grind (arith, nat_tests)

-- tests that agree below the bound count alike
pub counts_of_equal_tests_are_equal : (f g : ℕ → Bool) (n : ℕ) → ((k : ℕ) → k < n → f k ≡ g k) → count f n ≡ count g n
unfolding count
counts_of_equal_tests_are_equal f g zero h = refl
counts_of_equal_tests_are_equal f g (suc n) h = let a = counts_of_equal_tests_are_equal f g n (λ k l. h k (omega arith)) in let b = h n (omega arith) in grind (arith, nat_tests)

-- a test that no number below the bound passes counts nothing
pub nothing_passes : (test : ℕ → Bool) (n : ℕ) → ((k : ℕ) → k < n → test k ≡ false) → count test n ≡ 0
unfolding count
nothing_passes test zero h = refl
nothing_passes test (suc n) h = let a = nothing_passes test n (λ k l. h k (omega arith)) in let b = h n (omega arith) in grind (arith, nat_tests)
