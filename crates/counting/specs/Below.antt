-- What holds of, is found among or adds up over the numbers below a bound.
-- Each recursion is shut, since it would unroll at a literal bound as 256; its two laws, at 0 and at k + 1, stand below it.
use Rattle.std.specs.Prelude.{◌≡◌, ℕ, zero, suc, ◌+◌, max, Bool, true, false, cond, ◌&&◌, ◌||◌, Some, None, Option, nat_lt, refl}
use Rattle.std.proofs.Common.{add-one}

-- every number below the bound passes the test
unfoldable pub all : (ℕ → Bool) → ℕ → Bool
all test zero = true
all test (suc k) = test k && all test k

pub all_none : (test : ℕ → Bool) → all test 0 ≡ true
unfolding all
all_none test = refl

pub all_more : (test : ℕ → Bool) (k : ℕ) → all test (k + 1) ≡ (test k && all test k)
unfolding all
all_more test k = rw add-one

-- some number below the bound passes the test
unfoldable pub any : (ℕ → Bool) → ℕ → Bool
any test zero = false
any test (suc k) = test k || any test k

pub any_none : (test : ℕ → Bool) → any test 0 ≡ false
unfolding any
any_none test = refl

pub any_more : (test : ℕ → Bool) (k : ℕ) → any test (k + 1) ≡ (test k || any test k)
unfolding any
any_more test k = rw add-one

-- how many numbers below the bound pass the test
unfoldable pub count : (ℕ → Bool) → ℕ → ℕ
count test zero = 0
count test (suc k) = count test k + cond (test k) 1 0

pub count_none : (test : ℕ → Bool) → count test 0 ≡ 0
unfolding count
count_none test = refl

pub count_more : (test : ℕ → Bool) (k : ℕ) → count test (k + 1) ≡ count test k + cond (test k) 1 0
unfolding count
count_more test k = rw add-one

-- f 0 + .. + f (n - 1)
unfoldable pub sum : (ℕ → ℕ) → ℕ → ℕ
sum f zero = 0
sum f (suc k) = sum f k + f k

pub sum_none : (f : ℕ → ℕ) → sum f 0 ≡ 0
unfolding sum
sum_none f = refl

pub sum_more : (f : ℕ → ℕ) (k : ℕ) → sum f (k + 1) ≡ sum f k + f k
unfolding sum
sum_more f k = rw add-one

-- the sum over a table of n rows of k numbers each
abbrev pub sum2 : (ℕ → ℕ → ℕ) → ℕ → ℕ → ℕ
sum2 f n k = sum (λ p. sum (f p) k) n

-- the largest f k of the numbers k below the bound that pass the test, 0 if none does
unfoldable pub top : (ℕ → Bool) → (ℕ → ℕ) → ℕ → ℕ
top test f zero = 0
top test f (suc k) = max (top test f k) (cond (test k) (f k) 0)

pub top_none : (test : ℕ → Bool) (f : ℕ → ℕ) → top test f 0 ≡ 0
unfolding top
top_none test f = refl

pub top_more : (test : ℕ → Bool) (f : ℕ → ℕ) (k : ℕ) → top test f (k + 1) ≡ max (top test f k) (cond (test k) (f k) 0)
unfolding top
top_more test f k = rw add-one

-- k, if it passes and its key f k is below that of the best so far, else the best so far
abbrev pub better : (ℕ → Bool) → (ℕ → ℕ) → ℕ → Option ℕ → Option ℕ
better test f k None = cond (test k) (Some k) None
better test f k (Some best) = cond (test k && nat_lt (f k) (f best)) (Some k) (Some best)

-- the number below the bound that passes the test with the smallest key, on a tie the smallest number
unfoldable pub least : (ℕ → Bool) → (ℕ → ℕ) → ℕ → Option ℕ
least test f zero = None
least test f (suc k) = better test f k (least test f k)

pub least_none : (test : ℕ → Bool) (f : ℕ → ℕ) → least test f 0 ≡ None
unfolding least
least_none test f = refl

pub least_more : (test : ℕ → Bool) (f : ℕ → ℕ) (k : ℕ) → least test f (k + 1) ≡ better test f k (least test f k)
unfolding least
least_more test f k = rw add-one
