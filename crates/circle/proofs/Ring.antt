-- What next, stands_in and covers say of every server, and back: from the test to the fact, and from the fact to the test.
-- The first server that is not noticed is found by its number of steps, of which there can be only one.
use Rattle.std.proofs.Common.{◌≡◌, ℕ, zero, suc, ◌+◌, ◌-◌, ◌<◌, ◌≤◌, Bool, true, false, ◌||◌, eqb, sym, refl, ap, ◌∙◌, subst, ⊎_elim, arith}
use Rattle.std.proofs.lemmas.Bool.Decides.{nat_tests}
use Rattle.std.proofs.lemmas.Bool.{cases_Bool, cases_lt, true≢false}
use Rattle.servers.specs.Sets.{has}
use Rattle.circle.specs.Circle.{after, dist, reach, first_unnoticed, next, stands_in, covers}
use Rattle.counting.proofs.Searches.{all_at, all_from}
use Rattle.circle.proofs.Steps.{after_below, after_round, after_dist, dist_below, dist_after, reach_after}

-- next

-- r is the first server after p that is not noticed, so many steps on; p itself is n steps on
pub record Next (n : ℕ) (noticed : ℕ → Bool) (p r : ℕ) : Type 0 where
  pub steps : ℕ
  pub some : 0 < steps
  pub round : steps ≤ n
  pub there : after n p steps ≡ r
  pub skipped : (j : ℕ) → 0 < j → j < steps → noticed (after n p j) ≡ true
  pub fresh : steps < n → noticed r ≡ false

-- the search for the first that is not noticed, d steps on, where all before are noticed
first_is : (n : ℕ) (noticed : ℕ → Bool) (p d k : ℕ) → p < n → 0 < d → d + k ≡ n
    → ((j : ℕ) → 0 < j → j < d → noticed (after n p j) ≡ true) → Next n noticed p (first_unnoticed n noticed p d k)
unfolding first_unnoticed
first_is n noticed p d zero lp ld e before = record {
  steps = n;
  some = omega arith;
  round = omega arith;
  there = after_round n p lp;
  skipped = λ j a b. before j a (omega arith);
  fresh = λ l. absurd (omega arith);
}
first_is n noticed p d (suc k) lp ld e before = ⊎_elim
    (λ (t : noticed (after n p d) ≡ true). rw t (first_is n noticed p (suc d) k lp (omega arith) (omega arith) (λ j a b. ⊎_elim
    (λ (h : j < d). before j a h)
    (λ (h : d ≤ j). let q : j ≡ d = omega arith in rw q t)
    (cases_lt j d))))
    (λ (f : noticed (after n p d) ≡ false). rw f record {
      steps = d;
      some = ld;
      round = omega arith;
      there = refl;
      skipped = before;
      fresh = λ l. f;
    })
    (cases_Bool (noticed (after n p d)))

-- the next is that server
pub next_is : (n : ℕ) (noticed : ℕ → Bool) (p : ℕ) → p < n → Next n noticed p (next n noticed p)
unfolding next
next_is n noticed p lp = first_is n noticed p 1 (n - 1) lp (omega arith) (omega arith) (λ j a b. absurd (omega arith))

-- the next is a server
pub next_below : (n : ℕ) (noticed : ℕ → Bool) (p : ℕ) → p < n → next n noticed p < n
next_below n noticed p lp = let x = next_is n noticed p lp in subst (λ k. k < n) x.there (after_below n p x.steps lp x.round)

-- it is reached after so many steps
pub next_reach : (n : ℕ) (noticed : ℕ → Bool) (p : ℕ) (lp : p < n) → reach n p (next n noticed p) ≡ (next_is n noticed p lp).steps
next_reach n noticed p lp = let x = next_is n noticed p lp in subst (λ k. reach n p k ≡ x.steps) x.there (reach_after n p x.steps lp x.some x.round)

-- the servers between p and its next are noticed
pub next_skips : (n : ℕ) (noticed : ℕ → Bool) (p j : ℕ) → p < n → 0 < j → j < reach n p (next n noticed p) → noticed (after n p j) ≡ true
next_skips n noticed p j lp a l = (next_is n noticed p lp).skipped j a (omega (arith, next_reach n noticed p lp))

-- the next is not noticed, unless it is the server itself
pub next_fresh : (n : ℕ) (noticed : ℕ → Bool) (p : ℕ) → p < n → (next n noticed p ≡ p → ⊥) → noticed (next n noticed p) ≡ false
next_fresh n noticed p lp ne = let x = next_is n noticed p lp in ⊎_elim
    (λ (h : x.steps < n). x.fresh h)
    (λ (h : n ≤ x.steps). let b = x.round in let e : x.steps ≡ n = omega arith in absurd (ne (sym x.there ∙ ap (after n p) e ∙ after_round n p lp)))
    (cases_lt x.steps n)

-- there is one such server
pub next_unique : (n : ℕ) (noticed : ℕ → Bool) (p r : ℕ) → p < n → Next n noticed p r → next n noticed p ≡ r
next_unique n noticed p r lp y = let x = next_is n noticed p lp in
    let some = x.some in let round = x.round in let some2 = y.some in let round2 = y.round in
    ⊎_elim
    (λ (h : x.steps < y.steps). let f = x.fresh (omega arith) in absurd (true≢false (sym (y.skipped x.steps some h) ∙ (ap noticed x.there ∙ f))))
    (λ (h : y.steps ≤ x.steps). ⊎_elim
    (λ (l : y.steps < x.steps). let f = y.fresh (omega arith) in absurd (true≢false (sym (x.skipped y.steps some2 l) ∙ (ap noticed y.there ∙ f))))
    (λ (l : x.steps ≤ y.steps). let e : x.steps ≡ y.steps = omega arith in sym x.there ∙ ap (after n p) e ∙ y.there)
    (cases_lt y.steps x.steps))
    (cases_lt x.steps y.steps)

-- next asks of the servers below n alone
pub next_same : (n : ℕ) (noticed other : ℕ → Bool) (p : ℕ) → p < n → ((q : ℕ) → q < n → noticed q ≡ other q) → next n noticed p ≡ next n other p
next_same n noticed other p lp same = let y = next_is n other p lp in next_unique n noticed p (next n other p) lp record {
  steps = y.steps;
  some = y.some;
  round = y.round;
  there = y.there;
  skipped = λ j a b. let c = y.round in same (after n p j) (after_below n p j lp (omega arith)) ∙ y.skipped j a b;
  fresh = λ l. same (next n other p) (next_below n other p lp) ∙ y.fresh l;
}

-- stands_in

-- a stand-in has noticed each server from o on that comes before it, by steps
pub stands_in_at : (n : ℕ) (noticed : ℕ → Bool) (s o j : ℕ) → stands_in n noticed s o ≡ true → j < dist n o s → noticed (after n o j) ≡ true
unfolding stands_in
stands_in_at n noticed s o j h l = all_at (λ d. noticed (after n o d)) (dist n o s) j h l

-- who has noticed all of them is stand-in
pub stands_in_from : (n : ℕ) (noticed : ℕ → Bool) (s o : ℕ) → ((j : ℕ) → j < dist n o s → noticed (after n o j) ≡ true) → stands_in n noticed s o ≡ true
unfolding stands_in
stands_in_from n noticed s o h = all_from (λ d. noticed (after n o d)) (dist n o s) h

-- the same, by the servers from o on that come before s
pub stands_in_seen : (n : ℕ) (noticed : ℕ → Bool) (s o q : ℕ) → o < n → q < n → stands_in n noticed s o ≡ true → dist n o q < dist n o s → noticed q ≡ true
stands_in_seen n noticed s o q lo lq h l = subst (λ k. noticed k ≡ true) (after_dist n o q lo lq) (stands_in_at n noticed s o (dist n o q) h l)

-- who has noticed all servers from o on that come before it is stand-in
pub stands_in_by : (n : ℕ) (noticed : ℕ → Bool) (s o : ℕ) → o < n → s < n → ((q : ℕ) → q < n → dist n o q < dist n o s → noticed q ≡ true) → stands_in n noticed s o ≡ true
stands_in_by n noticed s o lo ls h = let b = dist_below n o s lo ls in stands_in_from n noticed s o (λ j l.
    h (after n o j) (after_below n o j lo (omega arith)) (omega (arith, dist_after n o j lo (omega arith))))

-- who notices more stays stand-in
pub stands_in_more : (n : ℕ) (noticed more : ℕ → Bool) (s o : ℕ) → ((q : ℕ) → noticed q ≡ true → more q ≡ true) → stands_in n noticed s o ≡ true → stands_in n more s o ≡ true
stands_in_more n noticed more s o h a = stands_in_from n more s o (λ j l. h (after n o j) (stands_in_at n noticed s o j a l))

-- covers

-- where a mask covers, each other server that is not noticed is in it
pub covers_at : (n : ℕ) (noticed : ℕ → Bool) (s mask q : ℕ) → covers n noticed s mask ≡ true → q < n → noticed q ≡ false → (q ≡ s → ⊥) → has mask q ≡ true
unfolding covers
covers_at n noticed s mask q h l f ne = let a = all_at (λ q. noticed q || (eqb q s || has mask q)) n q h l in grind (arith, nat_tests)

-- where each of them is in it, it covers
pub covers_from : (n : ℕ) (noticed : ℕ → Bool) (s mask : ℕ) → ((q : ℕ) → q < n → noticed q ≡ false → (q ≡ s → ⊥) → has mask q ≡ true) → covers n noticed s mask ≡ true
unfolding covers
covers_from n noticed s mask h = all_from (λ q. noticed q || (eqb q s || has mask q)) n (λ q l. let a = h q l in grind (arith, nat_tests))
