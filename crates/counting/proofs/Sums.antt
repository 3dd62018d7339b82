-- Laws of sums, and how a sum, also one over a table, changes when one term falls and another rises.
-- Each by induction on the number of terms; a change of one term is a sum of its own, with 0 elsewhere.
use Rattle.std.proofs.Common.{◌≡◌, ℕ, zero, suc, ◌+◌, ◌-◌, ◌*◌, ◌<◌, ◌≤◌, Bool, cond, ◌&&◌, eqb, refl, ⊎_elim, arith}
use Rattle.std.proofs.lemmas.Bool.Decides.{nat_tests}
use Rattle.std.proofs.lemmas.Bool.{cases_eq, cases_lt}
use Rattle.counting.specs.Below.{count, sum, sum_none, sum2}

-- x at i, and 0 elsewhere
abbrev pub only : ℕ → ℕ → ℕ → ℕ
only i x k = cond (eqb k i) x 0

-- to count is to add up 1 for each number that passes
pub count_is_sum : (test : ℕ → Bool) (n : ℕ) → count test n ≡ sum (λ k. cond (test k) 1 0) n
unfolding count sum
count_is_sum test zero = refl
count_is_sum test (suc n) = let a = count_is_sum test n in omega arith

-- one term more
pub sum_suc : (f : ℕ → ℕ) (n : ℕ) → sum f (suc n) ≡ sum f n + f n
unfolding sum
sum_suc f n = refl

-- where no term is larger, the sum is not larger
pub sum_mono : (f g : ℕ → ℕ) (n : ℕ) → ((k : ℕ) → k < n → g k ≤ f k) → sum g n ≤ sum f n
unfolding sum
sum_mono f g zero h = omega arith
sum_mono f g (suc n) h = let a = sum_mono f g n (λ k l. h k (omega arith)) in let b = h n (omega arith) in omega arith

-- where the terms are the same, the sums are
pub sum_same : (f g : ℕ → ℕ) (n : ℕ) → ((k : ℕ) → k < n → f k ≡ g k) → sum f n ≡ sum g n
unfolding sum
sum_same f g zero h = refl
sum_same f g (suc n) h = let a = sum_same f g n (λ k l. h k (omega arith)) in let b = h n (omega arith) in omega arith

-- the sum of sums
pub sum_add : (f g : ℕ → ℕ) (n : ℕ) → sum (λ k. f k + g k) n ≡ sum f n + sum g n
unfolding sum
sum_add f g zero = refl
sum_add f g (suc n) = let a = sum_add f g n in omega arith

-- a sum in two parts
pub sum_split : (f : ℕ → ℕ) (a b : ℕ) → sum f (a + b) ≡ sum f a + sum (λ k. f (a + k)) b
sum_split f a zero = let e : a + 0 ≡ a = omega arith in let z = sum_none (λ k. f (a + k)) in rw e (omega arith)
sum_split f a (suc b) =
    let e : a + suc b ≡ suc (a + b) = omega arith in
    let s = sum_split f a b in
    let t = sum_suc f (a + b) in
    let u = sum_suc (λ k. f (a + k)) b in
    rw e (omega arith)

-- where all terms are 0, the sum is
pub sum_of_zeros : (f : ℕ → ℕ) (n : ℕ) → ((k : ℕ) → k < n → f k ≡ 0) → sum f n ≡ 0
unfolding sum
sum_of_zeros f zero h = refl
sum_of_zeros f (suc n) h = let a = sum_of_zeros f n (λ k l. h k (omega arith)) in let b = h n (omega arith) in omega arith

-- where each term is at most K for each that counts, the sum is at most K times the count
pub sum_bound : (f c : ℕ → ℕ) (K n : ℕ) → ((k : ℕ) → k < n → f k ≤ K * c k) → sum f n ≤ K * sum c n
unfolding sum
sum_bound f c K zero h = omega arith
sum_bound f c K (suc n) h = let a = sum_bound f c K n (λ k l. h k (omega arith)) in let b = h n (omega arith) in omega arith

-- a sum with one term that counts
pub sum_only : (i x n : ℕ) → i < n → sum (only i x) n ≡ x
unfolding sum
sum_only i x zero l = absurd (omega arith)
sum_only i x (suc n) l = ⊎_elim
    (λ (h : i < n). let a = sum_only i x n h in grind (arith, nat_tests))
    (λ (h : n ≤ i). let z = sum_of_zeros (only i x) n (λ k b. grind (arith, nat_tests)) in grind (arith, nat_tests))
    (cases_lt i n)

-- the terms fall by x at i and rise by y at j, at most: so does the sum
pub sum_moves : (f g : ℕ → ℕ) (i j x y n : ℕ) → i < n → j < n → ((k : ℕ) → k < n → g k + only i x k ≤ f k + only j y k) → sum g n + x ≤ sum f n + y
sum_moves f g i j x y n li lj h =
    let a = sum_add g (only i x) n in
    let b = sum_add f (only j y) n in
    let c = sum_mono (λ k. f k + only j y k) (λ k. g k + only i x k) n h in
    omega (arith, sum_only i x n li, sum_only j y n lj)

-- one term falls
pub sum_falls : (f g : ℕ → ℕ) (i x n : ℕ) → i < n → ((k : ℕ) → k < n → g k + only i x k ≤ f k) → sum g n + x ≤ sum f n
sum_falls f g i x n li h = let a = sum_moves f g i i x 0 n li li (λ k l. let b = h k l in grind (arith, nat_tests)) in omega arith

-- one term rises
pub sum_rises : (f g : ℕ → ℕ) (j y n : ℕ) → j < n → ((k : ℕ) → k < n → g k ≤ f k + only j y k) → sum g n ≤ sum f n + y
sum_rises f g j y n lj h = let a = sum_moves f g j j 0 y n lj lj (λ k l. let b = h k l in grind (arith, nat_tests)) in omega arith

-- the same over a table: x at (p, r), y at (q, s)
module _ (f g : ℕ → ℕ → ℕ) (n m : ℕ) where
  -- where no term is larger, the sum is not larger
  pub sum2_mono : ((p : ℕ) → p < n → (r : ℕ) → r < m → g p r ≤ f p r) → sum2 g n m ≤ sum2 f n m
  sum2_mono h = sum_mono (λ p. sum (f p) m) (λ p. sum (g p) m) n (λ p l. sum_mono (f p) (g p) m (h p l))

  -- where each term is at most K for each that counts, the sum is at most K times the count
  pub sum2_bound : (K : ℕ) → ((p : ℕ) → p < n → (r : ℕ) → r < m → f p r ≤ K * g p r) → sum2 f n m ≤ K * sum2 g n m
  sum2_bound K h = sum_bound (λ p. sum (f p) m) (λ p. sum (g p) m) K n (λ p l. sum_bound (f p) (g p) K m (h p l))

  -- one term falls
  pub sum2_falls : (p r x : ℕ) → p < n → r < m → ((i : ℕ) → i < n → (k : ℕ) → k < m → g i k + cond (eqb i p && eqb k r) x 0 ≤ f i k) → sum2 g n m + x ≤ sum2 f n m
  sum2_falls p r x lp lr h = sum_falls (λ i. sum (f i) m) (λ i. sum (g i) m) p x n lp (λ i li. ⊎_elim
      (λ (e : i ≡ p). let a = sum_falls (f i) (g i) r x m lr (λ k lk. let b = h i li k lk in grind (arith, nat_tests)) in grind (arith, nat_tests))
      (λ (ne : i ≡ p → ⊥). let a = sum_mono (f i) (g i) m (λ k lk. let b = h i li k lk in grind (arith, nat_tests)) in grind (arith, nat_tests))
      (cases_eq i p))

  -- one term rises
  pub sum2_rises : (q s y : ℕ) → q < n → s < m → ((i : ℕ) → i < n → (k : ℕ) → k < m → g i k ≤ f i k + cond (eqb i q && eqb k s) y 0) → sum2 g n m ≤ sum2 f n m + y
  sum2_rises q s y lq ls h = sum_rises (λ i. sum (f i) m) (λ i. sum (g i) m) q y n lq (λ i li. ⊎_elim
      (λ (e : i ≡ q). let a = sum_rises (f i) (g i) s y m ls (λ k lk. let b = h i li k lk in grind (arith, nat_tests)) in grind (arith, nat_tests))
      (λ (ne : i ≡ q → ⊥). let a = sum_mono (f i) (g i) m (λ k lk. let b = h i li k lk in grind (arith, nat_tests)) in grind (arith, nat_tests))
      (cases_eq i q))

-- a sum with its first term apart
pub sum_first : (f : ℕ → ℕ) (n : ℕ) → sum f (suc n) ≡ f 0 + sum (λ k. f (suc k)) n
unfolding sum
sum_first f zero = omega arith
sum_first f (suc n) = let a = sum_first f n in omega arith

-- a longer sum is not smaller
pub sum_longer : (f : ℕ → ℕ) (a b : ℕ) → a ≤ b → sum f a ≤ sum f b
sum_longer f a b l = let e : a + (b - a) ≡ b = omega arith in let s = sum_split f a (b - a) in let t = rw e at s in omega arith
