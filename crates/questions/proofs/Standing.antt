-- A total over the servers that stand, as a chain of iterators adds it up. The idea: a server that is passed over counts for nothing.
use Rattle.std.proofs.Common.{◌≡◌, ℕ, zero, suc, ◌+◌, ◌*◌, ◌≤◌, Bool, true, false, cond, List, [], ◌∷◌, map, refl, ◌∙◌, arith}
use Rattle.std.proofs.iter.Yields.{nat_range_steps}
use Rattle.std.proofs.lemmas.Bool.Decides.{nat_tests}
use Rattle.std.proofs.lemmas.Iterator.{YieldsList, maps, YieldsList-from_range, YieldsList-from_map}
use Rattle.std.proofs.lemmas.Iterator.Consumers.{YieldsList-at, YieldsList-from_filter}
use Rattle.std.specs.Fn.{Called, CalledAt}
use Rattle.std.specs.Iterator.Adapters.{filter_source, filter_callee, filter_steps, map_source, map_callee}
use Rattle.std.specs.List.{filter, range_with_len, sum_by}
use Rattle.std.specs.declared.iter.Filter.{Filter}
use Rattle.std.specs.declared.iter.Map.{Map}
use Rattle.std.specs.declared.ops.Range.{Range}
use denote.Param.Members.{Mut}
use denote.Ref.{Bor}
use Rattle.std.proofs.lemmas.List.Sums.{sum_by-cons}
use Rattle.counting.specs.Below.{sum}
use Rattle.counting.proofs.Ranges.{sum_of_range}

module _ (test : ℕ → Bool) (f : ℕ → ℕ) where
  -- the terms of the numbers that pass, and of the others 0
  abbrev pub term : ℕ → ℕ
  term k = cond (test k) (f k) 0

  of_a_list : (xs : List ℕ) → sum_by f (filter test xs) ≡ sum_by term xs
  of_a_list [] = refl
  of_a_list (x ∷ xs) =
      let e = of_a_list xs in
      let all = sum_by-cons term x xs in
      let passing : sum_by f (filter test (x ∷ xs)) ≡ term x + sum_by f (filter test xs) = elim (test x) as (λ b. sum_by f (cond b (x ∷ filter test xs) (filter test xs)) ≡ cond b (f x) 0 + sum_by f (filter test xs)) [
        | true ↦ sum_by-cons f x (filter test xs)
        | false ↦ omega arith
      ] in
      omega arith

  -- a chain from the numbers below n that keeps those that pass, and makes of each what f says of it, gives what f says of those that pass
  pub those_that_pass_are_given : {F G : Type 0} {s : Map (Filter (Range ℕ) F) G} {t : Filter (Range ℕ) F} {passing : F} {saying : G} (passes : Mut F (Bor ℕ × Unit {0}) Bool) (says : Mut G (ℕ × Unit {0}) ℕ) (bound n : ℕ) → bound ≡ n
      → filter_source t ≡ record { start = 0; end = bound } → filter_callee t ≡ passing → ((x : ℕ) (b : Bool) (q : F) → CalledAt passes passing x b q → (q ≡ passing) × (b ≡ test x))
      → map_source s ≡ t → map_callee s ≡ saying → ((x r : ℕ) (q : G) → Called says saying (x, tt) r q → (q ≡ saying) × (r ≡ f x))
      → YieldsList (maps (filter_steps nat_range_steps passes) says) (λ r. r) s (map f (filter test (range_with_len 0 n)))
  those_that_pass_are_given passes says bound n e range same tests_each from_these same_too says_each =
      YieldsList-from_map says f (YieldsList-at from_these (YieldsList-from_filter passes test (YieldsList-from_range 0 bound n range (omega (arith, e))) same tests_each)) same_too says_each

  -- what the numbers below n that pass add up to
  pub those_that_pass_add_up : (n : ℕ) → sum_by f (filter test (range_with_len 0 n)) ≡ sum term n
  those_that_pass_add_up n = of_a_list (range_with_len 0 n) ∙ sum_of_range term n

  -- and that is at most so much for each number
  pub so_much_for_each : (m n : ℕ) → ((k : ℕ) → f k ≤ m) → sum term n ≤ m * n
  unfolding sum
  so_much_for_each m zero small = omega arith
  so_much_for_each m (suc n) small = let a = so_much_for_each m n small in let b = small n in grind (arith, nat_tests)
