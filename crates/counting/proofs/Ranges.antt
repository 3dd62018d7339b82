-- What is found among or adds up over the numbers below a bound, said of the list of these numbers, and of a list by its places: as chains of iterators give it.
-- Each by induction on how many of the list's elements are looked at, the one looked at last being the step.
use Rattle.std.proofs.Common.{◌≡◌, ℕ, zero, suc, ◌+◌, ◌<◌, ◌≤◌, Bool, true, false, cond, ◌&&◌, ◌||◌, List, length, take, get_or, refl, sym, ap, ◌∙◌, arith}
use Rattle.std.specs.List.{list_any, list_all, sum_by, filter, range_with_len}
use Rattle.std.proofs.lemmas.List.{take_all}
use Rattle.std.proofs.lemmas.List.Folds.{list_any_more, list_all_more}
use Rattle.std.proofs.lemmas.List.Sums.{sum_by_more, length-filter}
use Rattle.std.proofs.lemmas.List.FromFn.{length-range_with_len, get_or-range_with_len}
use Rattle.counting.specs.Below.{all, any, count, sum}
use Rattle.counting.proofs.Sums.{sum_same, count_is_sum}

-- where two tests agree below the bound, every number passes the one exactly where every number passes the other
pub all_same : (f g : ℕ → Bool) (n : ℕ) → ((k : ℕ) → k < n → f k ≡ g k) → all f n ≡ all g n
unfolding all
all_same f g zero h = refl
all_same f g (suc n) h = let a = all_same f g n (λ k l. h k (omega arith)) in let b = h n (omega arith) in rw (a, b) refl

module _ {X : Type 0} (xs : List X) (d : X) where
  -- of the first n elements some passes exactly where that of some place below n does
  pub any_of_front : (p : X → Bool) (n : ℕ) → n ≤ length xs → list_any p (take n xs) ≡ any (λ k. p (get_or xs k d)) n
  unfolding any
  any_of_front p zero l = refl
  any_of_front p (suc n) l =
      let step : list_any p (take (n + 1) xs) ≡ (list_any p (take n xs) || p (get_or xs n d)) = list_any_more p xs n d (omega arith) in
      let a = any_of_front p n (omega arith) in
      let e : n + 1 ≡ suc n = omega arith in
      rw e at step ∙ (rw a (or_turned (any (λ k. p (get_or xs k d)) n) (p (get_or xs n d))))
    where
      or_turned : (a b : Bool) → (a || b) ≡ (b || a)
      or_turned true true = refl
      or_turned true false = refl
      or_turned false true = refl
      or_turned false false = refl

  -- of the first n elements every one passes exactly where that of every place below n does
  pub all_of_front : (p : X → Bool) (n : ℕ) → n ≤ length xs → list_all p (take n xs) ≡ all (λ k. p (get_or xs k d)) n
  unfolding all
  all_of_front p zero l = refl
  all_of_front p (suc n) l =
      let step : list_all p (take (n + 1) xs) ≡ (list_all p (take n xs) && p (get_or xs n d)) = list_all_more p xs n d (omega arith) in
      let a = all_of_front p n (omega arith) in
      let e : n + 1 ≡ suc n = omega arith in
      rw e at step ∙ (rw a (and_turned (all (λ k. p (get_or xs k d)) n) (p (get_or xs n d))))
    where
      and_turned : (a b : Bool) → (a && b) ≡ (b && a)
      and_turned true true = refl
      and_turned true false = refl
      and_turned false true = refl
      and_turned false false = refl

  -- what the first n elements add up to
  pub sum_of_front : (f : X → ℕ) (n : ℕ) → n ≤ length xs → sum_by f (take n xs) ≡ sum (λ k. f (get_or xs k d)) n
  unfolding sum
  sum_of_front f zero l = refl
  sum_of_front f (suc n) l =
      let step : sum_by f (take (n + 1) xs) ≡ sum_by f (take n xs) + f (get_or xs n d) = sum_by_more f xs n d (omega arith) in
      let a = sum_of_front f n (omega arith) in
      let e : n + 1 ≡ suc n = omega arith in
      rw e at step ∙ rw a refl

  -- how many of the first n elements pass
  pub count_of_front : (p : X → Bool) (n : ℕ) → n ≤ length xs → length (filter p (take n xs)) ≡ count (λ k. p (get_or xs k d)) n
  count_of_front p n l = length-filter p (take n xs) ∙ (sum_of_front (λ x. cond (p x) 1 0) n l ∙ sym (count_is_sum (λ k. p (get_or xs k d)) n))

-- the same of all elements of a list with n of them
module _ {X : Type 0} (xs : List X) (d : X) (n : ℕ) (e : length xs ≡ n) where
  pub any_of_list : (p : X → Bool) → list_any p xs ≡ any (λ k. p (get_or xs k d)) n
  any_of_list p = ap (list_any p) (sym (take_all n xs (omega (arith, e)))) ∙ any_of_front xs d p n (omega (arith, e))

  pub all_of_list : (p : X → Bool) → list_all p xs ≡ all (λ k. p (get_or xs k d)) n
  all_of_list p = ap (list_all p) (sym (take_all n xs (omega (arith, e)))) ∙ all_of_front xs d p n (omega (arith, e))

  pub sum_of_list : (f : X → ℕ) → sum_by f xs ≡ sum (λ k. f (get_or xs k d)) n
  sum_of_list f = ap (sum_by f) (sym (take_all n xs (omega (arith, e)))) ∙ sum_of_front xs d f n (omega (arith, e))

-- and of the numbers below n, as a range gives them: place k holds k
number_at : (n k : ℕ) → k < n → get_or (range_with_len 0 n) k 0 ≡ k
number_at n k l = get_or-range_with_len 0 n k 0 l ∙ omega arith

pub all_of_range : (f : ℕ → Bool) (n : ℕ) → list_all f (range_with_len 0 n) ≡ all f n
all_of_range f n = all_of_list (range_with_len 0 n) 0 n (length-range_with_len 0 n) f ∙ all_same (λ k. f (get_or (range_with_len 0 n) k 0)) f n (λ k l. ap f (number_at n k l))

pub sum_of_range : (f : ℕ → ℕ) (n : ℕ) → sum_by f (range_with_len 0 n) ≡ sum f n
sum_of_range f n = sum_of_list (range_with_len 0 n) 0 n (length-range_with_len 0 n) f ∙ sum_same (λ k. f (get_or (range_with_len 0 n) k 0)) f n (λ k l. ap f (number_at n k l))

pub count_of_range : (f : ℕ → Bool) (n : ℕ) → length (filter f (range_with_len 0 n)) ≡ count f n
count_of_range f n =
    length-filter f (range_with_len 0 n) ∙ (sum_of_range (λ k. cond (f k) 1 0) n ∙ sym (count_is_sum f n))
