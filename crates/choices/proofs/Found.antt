-- What the search finds among candidates is what the rules name: the one that waits with the smallest key.
-- The idea: that one is told by being no larger than any that waits, and smaller than those before it.
use Rattle.std.proofs.Common.{◌≡◌, ℕ, zero, suc, ◌<◌, ◌≤◌, Bool, true, false, cond, ◌&&◌, ltb, List, length, get_or, Some, None, Option, sym, refl, ap, ◌∙◌, subst, ⊎_elim, arith}
use Rattle.std.proofs.lemmas.Bool.{cases_Bool, cases_lt, true≢false}
use Rattle.std.proofs.lemmas.Bool.Decides.{nat_tests}
use Rattle.counting.specs.Below.{better, least}
use Rattle.counting.proofs.Searches.{least_passes, none_is_found}
use Rattle.search.specs.Order.{LeastOf}
use Rattle.choices.specs.declared.keys.Candidate.{Candidate}
use Rattle.choices.specs.declared.keys.Candidate.TheVariants.{Absent, Waits}
use Rattle.choices.specs.Keys.{candidate_below, LeastWaiting, waits}

-- the one that passes with the smallest key, smaller than the keys of those before it, is the least
pub the_smallest_is_least : (f : ℕ → Bool) (g : ℕ → ℕ) (n i : ℕ) → i < n → f i ≡ true
    → ((k : ℕ) → k < n → f k ≡ true → g i ≤ g k) → ((k : ℕ) → k < i → f k ≡ true → g i < g k) → least f g n ≡ Some i
unfolding least
the_smallest_is_least f g zero i low passes no_larger smaller = absurd (omega arith)
the_smallest_is_least f g (suc n) i low passes no_larger smaller = ⊎_elim
    (λ (h : i < n). ap (better f g n) (the_smallest_is_least f g n i h passes (λ k l e. no_larger k (omega arith) e) smaller) ∙ stays)
    (λ (h : n ≤ i). let e : i ≡ n = omega arith in rw e (comes e (least f g n) refl))
    (cases_lt i n)
  where
    stays : cond (f n && ltb (g n) (g i)) (Some n) (Some i) ≡ Some i
    stays =
        let test : (f n && ltb (g n) (g i)) ≡ false = ⊎_elim
        (λ (t : f n ≡ true). let l = no_larger n (omega arith) t in grind (arith, nat_tests))
        (λ (t : f n ≡ false). grind (arith, nat_tests))
        (cases_Bool (f n)) in
        ap (λ b. cond b (Some n) (Some i)) test

    comes : i ≡ n → (best : Option ℕ) → least f g n ≡ best → better f g n best ≡ Some n
    comes e None is = ap (λ b. cond b (Some n) None) (ap f (sym e) ∙ passes)
    comes e (Some m) is =
        let found = least_passes f g n m is in
        let l = smaller m (omega (arith, found.0)) found.1 in
        let here = ap f (sym e) ∙ passes in
        let key = ap g e in
        let t : (f n && ltb (g n) (g m)) ≡ true = grind (arith, nat_tests) in
        ap (λ b. cond b (Some n) (Some m)) t

-- the keys of candidates say which pass the test f, and rank them by g
pub record Ranked {K : Type 0} (below : K → K → Bool) (keys : List (Candidate K)) (f : ℕ → Bool) (g : ℕ → ℕ) : Type 0 where
  pub absent : (k : ℕ) → k < length keys → get_or keys k Absent ≡ Absent → f k ≡ false
  pub waiting : (k : ℕ) (a : K) → k < length keys → get_or keys k Absent ≡ Waits a → f k ≡ true
  pub no_larger : (j k : ℕ) (a b : K) → j < length keys → k < length keys → get_or keys j Absent ≡ Waits a → get_or keys k Absent ≡ Waits b → below b a ≡ false → g j ≤ g k
  pub smaller : (j k : ℕ) (a b : K) → k < j → j < length keys → get_or keys j Absent ≡ Waits a → get_or keys k Absent ≡ Waits b → below a b ≡ true → g j < g k

module _ {K : Type 0} (below : K → K → Bool) (keys : List (Candidate K)) (f : ℕ → Bool) (g : ℕ → ℕ) (ranked : Ranked below keys f g) where
  -- the candidate found waits: it is what the rules name
  pub the_key_found_is_least : (i : ℕ) → LeastOf (candidate_below below) keys (length keys) i → (a : K) → get_or keys i Absent ≡ Waits a → Some i ≡ least f g (length keys)
  the_key_found_is_least i found a is = sym (the_smallest_is_least f g (length keys) i found.within (ranked.waiting i a found.within is)
      (λ k l e. no_larger k l e (get_or keys k Absent) refl) (λ k l e. smaller k l e (get_or keys k Absent) refl))
    where
      no_larger : (k : ℕ) → k < length keys → f k ≡ true → (c : Candidate K) → get_or keys k Absent ≡ c → g i ≤ g k
      no_larger k l e Absent at = absurd (true≢false (sym e ∙ ranked.absent k l at))
      no_larger k l e (Waits b) at = ranked.no_larger i k a b found.within l is at
          (subst (λ c. candidate_below below c (Waits a) ≡ false) at (subst (λ c. candidate_below below (get_or keys k Absent) c ≡ false) is (found.none_below Absent k l)))

      smaller : (k : ℕ) → k < i → f k ≡ true → (c : Candidate K) → get_or keys k Absent ≡ c → g i < g k
      smaller k l e Absent at = absurd (true≢false (sym e ∙ ranked.absent k (let w = found.within in omega arith) at))
      smaller k l e (Waits b) at = ranked.smaller i k a b l found.within is at
          (subst (λ c. candidate_below below (Waits a) c ≡ true) at (subst (λ c. candidate_below below c (get_or keys k Absent) ≡ true) is (found.above_before Absent k l)))

  -- the least of what waits is what the rules name, and none is where none waits
  pub the_least_waiting_is_least : (o : Option ℕ) → LeastWaiting below keys o → o ≡ least f g (length keys)
  the_least_waiting_is_least None none = sym (none_is_found f g (length keys) (λ k l. fails k l (get_or keys k Absent) refl))
    where
      fails : (k : ℕ) → k < length keys → (c : Candidate K) → get_or keys k Absent ≡ c → f k ≡ false
      fails k l Absent at = ranked.absent k l at
      fails k l (Waits b) at = absurd (true≢false (sym (ap waits at) ∙ none k l))
  the_least_waiting_is_least (Some i) (found, it_waits) = one (get_or keys i Absent) refl
    where
      one : (c : Candidate K) → get_or keys i Absent ≡ c → Some i ≡ least f g (length keys)
      one Absent at = absurd (true≢false (sym it_waits ∙ ap waits at))
      one (Waits a) at = the_key_found_is_least i found a at
