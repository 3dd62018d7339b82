-- Where every standing server has noticed exactly those that do not stand, the next is the next standing server, the stand-in is the first standing server from the origin on, and a mask covers when all other standing servers are in it.
-- What is noticed is then a function of who stands, so the facts about next, stands_in and covers can be read with it.
use Rattle.std.proofs.Common.{◌≡◌, ℕ, ◌<◌, Bool, true, false, not, eqb, sym, refl, ap, ◌∙◌, subst, ⊎_elim, arith}
use Rattle.std.proofs.lemmas.Bool.Decides.{nat_tests}
use Rattle.std.proofs.lemmas.Bool.{cases_eq, cases_Bool, true≢false, eq-eqb, ne_eqb}
use Rattle.servers.specs.Sets.{has}
use Rattle.circle.specs.Circle.{after, dist, next, next_standing, first_standing, stands_in, covers}
use Rattle.circle.specs.StandIns.{Honest}
use Rattle.circle.proofs.Steps.{dist_below, dist_self, reach_dist}
use Rattle.circle.proofs.Ring.{next_below, next_skips, next_fresh, next_same, stands_in_by, covers_at, covers_from}
use Rattle.circle.proofs.Crashed.{Bare, bare_at, one_stand_in}

-- what is not so is false
not_true : (b : Bool) → not b ≡ true → b ≡ false
not_true b e = grind (arith, nat_tests)

-- what is not not so is true
not_not : (b : Bool) → not b ≡ false → b ≡ true
not_not b e = grind (arith, nat_tests)

module _ (n : ℕ) (standing : ℕ → Bool) where
  -- the first standing server after p is a server
  pub next_standing_below : (p : ℕ) → p < n → next_standing n standing p < n
  next_standing_below p lp = next_below n (λ q. not (standing q)) p lp

  -- none strictly between p and the first standing server after it stands
  pub next_standing_bare : (p : ℕ) → p < n → Bare n standing p (next_standing n standing p)
  next_standing_bare p lp j a l = not_true (standing (after n p j)) (next_skips n (λ q. not (standing q)) p j lp a l)

  -- it stands, if any server does
  pub next_standing_stands : (p w : ℕ) → p < n → w < n → standing w ≡ true → standing (next_standing n standing p) ≡ true
  next_standing_stands p w lp lw uw = ⊎_elim
      (λ (e : next_standing n standing p ≡ p). ⊎_elim
      (λ (q : p ≡ w). ap standing e ∙ (ap standing q ∙ uw))
      (λ (ne : p ≡ w → ⊥). absurd (true≢false (sym uw ∙ bare_at n standing p (next_standing n standing p) w lp lw (next_standing_bare p lp) ne (let b = dist_below n p w lp lw in grind (arith, nat_tests)))))
      (cases_eq p w))
      (λ (ne : next_standing n standing p ≡ p → ⊥). not_not (standing (next_standing n standing p)) (next_fresh n (λ q. not (standing q)) p lp ne))
      (cases_eq (next_standing n standing p) p)

  module _ (w : ℕ) (lw : w < n) (uw : standing w ≡ true) where
    -- the first standing server from o on is a server
    pub first_standing_below : (o : ℕ) → o < n → first_standing n standing o < n
    unfolding first_standing
    first_standing_below o lo = let b = next_standing_below o lo in grind (arith, nat_tests)

    -- it stands
    pub first_standing_stands : (o : ℕ) → o < n → standing (first_standing n standing o) ≡ true
    unfolding first_standing
    first_standing_stands o lo = let b = next_standing_stands o w lo lw uw in ⊎_elim
        (λ (t : standing o ≡ true). rw t t)
        (λ (f : standing o ≡ false). rw f b)
        (cases_Bool (standing o))

    -- none before it, from o on, stands
    pub first_standing_first : (o q : ℕ) → o < n → q < n → dist n o q < dist n o (first_standing n standing o) → standing q ≡ false
    unfolding first_standing
    first_standing_first o q lo lq l = ⊎_elim
        (λ (t : standing o ≡ true). let z = dist_self n o in let same : first_standing n standing o ≡ o = rw t refl in absurd (omega (arith, rw same at l)))
        (λ (f : standing o ≡ false). ⊎_elim
        (λ (e : o ≡ q). sym (ap standing e) ∙ f)
        (λ (ne : o ≡ q → ⊥).
        let same : first_standing n standing o ≡ next_standing n standing o = rw f refl in
        let apart : o ≡ next_standing n standing o → ⊥ = (λ e. true≢false (sym (next_standing_stands o w lo lw uw) ∙ (sym (ap standing e) ∙ f))) in
        let far = reach_dist n o (next_standing n standing o) apart in
        let near : dist n o q < dist n o (next_standing n standing o) = rw same at l in
        bare_at n standing o (next_standing n standing o) q lo lq (next_standing_bare o lo) ne (omega arith))
        (cases_eq o q))
        (cases_Bool (standing o))

  module _ (noticed : ℕ → ℕ → Bool)
      (honest : Honest standing noticed)
      (complete : (p q : ℕ) → p < n → q < n → standing p ≡ true → standing q ≡ false → noticed p q ≡ true) where
    -- a standing server has noticed just those that do not stand
    pub noticed_are_the_crashed : (p q : ℕ) → p < n → q < n → standing p ≡ true → noticed p q ≡ not (standing q)
    noticed_are_the_crashed p q lp lq u = let a = honest p q u in let b = complete p q lp lq u in grind (arith, nat_tests)

    -- the next of a standing server is the first standing one after it
    pub next_is_up : (p : ℕ) → p < n → standing p ≡ true → next n (noticed p) p ≡ next_standing n standing p
    next_is_up p lp u = next_same n (noticed p) (λ q. not (standing q)) p lp (λ q lq. noticed_are_the_crashed p q lp lq u)

    -- the first standing server from o on is stand-in for o, and no other is
    pub first_stands_in : (o w : ℕ) → o < n → w < n → standing w ≡ true → stands_in n (noticed (first_standing n standing o)) (first_standing n standing o) o ≡ true
    first_stands_in o w lo lw uw =
        let f = first_standing n standing o in
        let lf = first_standing_below w lw uw o lo in
        stands_in_by n (noticed f) f o lo lf (λ q lq l. complete f q lf lq (first_standing_stands w lw uw o lo) (first_standing_first w lw uw o q lo lq l))

    -- so being stand-in is being that server
    pub stands_in_is : (s o : ℕ) → s < n → o < n → standing s ≡ true → stands_in n (noticed s) s o ≡ eqb s (first_standing n standing o)
    stands_in_is s o ls lo us =
        let f = first_standing n standing o in
        let one = one_stand_in n standing noticed honest s f o ls (first_standing_below s ls us o lo) lo us (first_standing_stands s ls us o lo) in
        let is = first_stands_in o s lo ls us in
        ⊎_elim
        (λ (e : s ≡ f). let so : stands_in n (noticed s) s o ≡ true = subst (λ k. stands_in n (noticed k) k o ≡ true) (sym e) is in so ∙ sym (eq-eqb s f e))
        (λ (ne : s ≡ f → ⊥). ⊎_elim
        (λ (t : stands_in n (noticed s) s o ≡ true). absurd (ne (one t is)))
        (λ (not_so : stands_in n (noticed s) s o ≡ false). not_so ∙ sym (ne_eqb s f ne))
        (cases_Bool (stands_in n (noticed s) s o)))
        (cases_eq s f)

    -- a mask covers when all other standing servers are in it
    pub covers_standing : (s mask : ℕ) → s < n → standing s ≡ true → covers n (noticed s) s mask ≡ true → (q : ℕ) → q < n → standing q ≡ true → (q ≡ s → ⊥) → has mask q ≡ true
    covers_standing s mask ls us c q lq uq ne = covers_at n (noticed s) s mask q c lq (noticed_are_the_crashed s q ls lq us ∙ ap not uq) ne

    -- and where all other standing servers are in it, it covers
    pub standing_covers : (s mask : ℕ) → s < n → standing s ≡ true → ((q : ℕ) → q < n → standing q ≡ true → (q ≡ s → ⊥) → has mask q ≡ true) → covers n (noticed s) s mask ≡ true
    standing_covers s mask ls us h = covers_from n (noticed s) s mask (λ q lq f ne. h q lq (not_not (standing q) (sym (noticed_are_the_crashed s q ls lq us) ∙ f)) ne)
