-- A circle some of whose servers have crashed, where a standing server has noticed only crashed ones: a next that stands is the first standing server, at most one server is stand-in, and what is handed on from next to next reaches every standing server.
-- Each step to the next comes nearer to the goal, since no standing server is skipped.
use Rattle.std.proofs.Common.{◌≡◌, ℕ, zero, suc, ◌+◌, ◌-◌, ◌<◌, ◌≤◌, Bool, true, false, ◌⊎◌, sym, refl, ap, ◌∙◌, subst, inl, inr, ⊎_elim, arith}
use Rattle.std.proofs.lemmas.Bool.{cases_eq, cases_Bool, cases_lt, true≢false}
use Rattle.circle.specs.Circle.{after, dist, reach, next, stands_in}
use Rattle.circle.specs.StandIns.{Honest}
use Rattle.circle.proofs.Steps.{after_below, after_none, after_after, after_dist, dist_below, dist_self, dist_pos, dist_rest, reach_pos, after_reach, reach_dist}
use Rattle.circle.proofs.Ring.{next_below, next_skips, stands_in_seen}

-- the last number below k that passes, where one does
pub last_passing : (test : ℕ → Bool) (k i : ℕ) → i < k → test i ≡ true → (j : ℕ) × (j < k) × (test j ≡ true) × ((l : ℕ) → j < l → l < k → test l ≡ false)
last_passing test zero i l t = absurd (omega arith)
last_passing test (suc k) i l t = ⊎_elim
    (λ (y : test k ≡ true). (k, omega arith, y, λ l a b. absurd (omega arith)))
    (λ (f : test k ≡ false). ⊎_elim
    (λ (e : i ≡ k). absurd (true≢false (sym t ∙ (ap test e ∙ f))))
    (λ (ne : i ≡ k → ⊥). let r = last_passing test k i (omega arith) t in (
      r.0,
      omega (arith, r.1),
      r.2,
      λ l a b. ⊎_elim
          (λ (e : l ≡ k). ap test e ∙ f)
          (λ (ne : l ≡ k → ⊥). r.3 l a (omega arith))
          (cases_eq l k),
    ))
    (cases_eq i k))
    (cases_Bool (test k))

module _ (n : ℕ) (standing : ℕ → Bool) where
  -- none strictly between a and b, going forward, stands
  abbrev pub Bare : ℕ → ℕ → Type 0
  Bare a b = (j : ℕ) → 0 < j → j < reach n a b → standing (after n a j) ≡ false

  -- the same of each server by its name
  pub bare_at : (a b q : ℕ) → a < n → q < n → Bare a b → (a ≡ q → ⊥) → dist n a q < reach n a b → standing q ≡ false
  bare_at a b q la lq h ne l = subst (λ k. standing k ≡ false) (after_dist n a q la lq) (h (dist n a q) (dist_pos n a q la lq ne) l)

  -- v, j steps after w and before x, is another than x, and where none after it stands, none between v and x does
  nearest : (w x j v : ℕ) → w < n → x < n → j < dist n w x → v ≡ after n w j → ((l : ℕ) → j < l → l < dist n w x → standing (after n w l) ≡ false) → (v ≡ x → ⊥) × Bare v x
  nearest w x j v lw lx lj is none =
      let ld = dist_below n w x lw lx in
      let back : dist n v x ≡ dist n w x - j = rw is (dist_rest n w x j lw lx (omega arith)) in
      let apart : v ≡ x → ⊥ = (λ e. let z = dist_self n x in let y : dist n v x ≡ 0 = rw e z in omega arith) in (
        apart,
        λ i a b.
            let far : reach n v x ≡ dist n v x = reach_dist n v x apart in
            let on : after n v i ≡ after n w (j + i) = rw is (after_after n w j i lw (omega arith)) in
            ap standing on ∙ none (j + i) (omega arith) (omega arith),
      )

  -- where another server than x stands, one stands before x with none between
  pub standing_before : (x w : ℕ) → x < n → w < n → standing w ≡ true → (w ≡ x → ⊥) → (v : ℕ) × (v < n) × (standing v ≡ true) × (v ≡ x → ⊥) × Bare v x
  standing_before x w lx lw uw ne =
      let ld = dist_below n w x lw lx in
      let r = last_passing (λ j. standing (after n w j)) (dist n w x) 0 (dist_pos n w x lw lx ne) (ap standing (after_none n w lw) ∙ uw) in
      let lj = r.1 in
      let z = nearest w x r.0 (after n w r.0) lw lx r.1 refl r.3 in
      (after n w r.0, after_below n w r.0 lw (omega arith), r.2, z.0, z.1)

  module _ (noticed : ℕ → ℕ → Bool) (honest : Honest standing noticed) where
    -- the next of a server, by what that server has noticed
    abbrev next_of : ℕ → ℕ
    next_of p = next n (noticed p) p

    -- none strictly between a standing server and its next stands
    pub next_bare : (p : ℕ) → p < n → standing p ≡ true → Bare p (next_of p)
    next_bare p lp u j a l = honest p (after n p j) u (next_skips n (noticed p) p j lp a l)

    -- the next comes no later than any standing server
    pub next_soon : (p b : ℕ) → p < n → b < n → standing p ≡ true → standing b ≡ true → (p ≡ b → ⊥) → reach n p (next_of p) ≤ dist n p b
    next_soon p b lp lb u ub ne = ⊎_elim
        (λ (h : dist n p b < reach n p (next_of p)). absurd (true≢false (sym ub ∙ bare_at p (next_of p) b lp lb (next_bare p lp u) ne h)))
        (λ (h : reach n p (next_of p) ≤ dist n p b). h)
        (cases_lt (dist n p b) (reach n p (next_of p)))

    -- so it lies nearer to it
    pub next_closer : (p b : ℕ) → p < n → b < n → standing p ≡ true → standing b ≡ true → (p ≡ b → ⊥) → dist n (next_of p) b < dist n p b
    next_closer p b lp lb u ub ne =
        let nb = next_below n (noticed p) p lp in
        let soon = next_soon p b lp lb u ub ne in
        let pos = reach_pos n p (next_of p) lp nb in
        let rest = dist_rest n p b (reach n p (next_of p)) lp lb soon in
        let at : dist n (after n p (reach n p (next_of p))) b ≡ dist n (next_of p) b = ap (λ k. dist n k b) (after_reach n p (next_of p) lp nb) in
        omega arith

    -- a server whose next comes no later than a server that it has not noticed
    pub next_cut : (v x : ℕ) → v < n → x < n → standing v ≡ true → standing x ≡ false → noticed v x ≡ false → Bare v x → standing (next_of v) ≡ false
    next_cut v x lv lx uv ux un bare =
        let ne : v ≡ x → ⊥ = (λ e. true≢false (sym uv ∙ (ap standing e ∙ ux))) in
        let nb = next_below n (noticed v) v lv in
        let pos = reach_pos n v (next_of v) lv nb in
        let far : reach n v x ≡ dist n v x = reach_dist n v x ne in
        let there = after_reach n v (next_of v) lv nb in
        let at : after n v (dist n v x) ≡ x = after_dist n v x lv lx in
        ⊎_elim
        (λ (h : reach n v (next_of v) < dist n v x). sym (ap standing there) ∙ bare (reach n v (next_of v)) pos (omega arith))
        (λ (h : dist n v x ≤ reach n v (next_of v)). ⊎_elim
        (λ (e : reach n v (next_of v) ≡ dist n v x). sym (ap standing there) ∙ (ap (λ k. standing (after n v k)) e ∙ (ap standing at ∙ ux)))
        (λ (apart : reach n v (next_of v) ≡ dist n v x → ⊥).
        absurd (true≢false (sym (next_skips n (noticed v) v (dist n v x) lv (dist_pos n v x lv lx ne) (omega arith)) ∙ (ap (noticed v) at ∙ un))))
        (cases_eq (reach n v (next_of v)) (dist n v x)))
        (cases_lt (reach n v (next_of v)) (dist n v x))

    -- at most one standing server is stand-in
    pub one_stand_in : (s t o : ℕ) → s < n → t < n → o < n → standing s ≡ true → standing t ≡ true → stands_in n (noticed s) s o ≡ true → stands_in n (noticed t) t o ≡ true → s ≡ t
    one_stand_in s t o ls lt lo us ut is it = ⊎_elim
        (λ (h : dist n o s < dist n o t). absurd (true≢false (sym us ∙ honest t s ut (stands_in_seen n (noticed t) t o s lo ls it h))))
        (λ (h : dist n o t ≤ dist n o s). ⊎_elim
        (λ (g : dist n o t < dist n o s). absurd (true≢false (sym ut ∙ honest s t us (stands_in_seen n (noticed s) s o t lo lt is g))))
        (λ (g : dist n o s ≤ dist n o t). let e : dist n o s ≡ dist n o t = omega arith in sym (after_dist n o s lo ls) ∙ (ap (after n o) e ∙ after_dist n o t lo lt))
        (cases_lt (dist n o t) (dist n o s)))
        (cases_lt (dist n o s) (dist n o t))

    -- going from next to next, what each step hands on reaches b
    module _ (P : ℕ → Type 0) (Goal : Type 0) (b : ℕ) (lb : b < n) (ub : standing b ≡ true)
        (step : (y : ℕ) → y < n → standing y ≡ true → (y ≡ b → ⊥) → P y → Goal ⊎ ((standing (next_of y) ≡ true) × P (next_of y))) where
      -- within k steps
      walk_within : (k a : ℕ) → a < n → standing a ≡ true → dist n a b < k → P a → Goal ⊎ P b
      walk_within zero a la ua l pa = absurd (omega arith)
      walk_within (suc k) a la ua l pa = ⊎_elim
          (λ (e : a ≡ b). inr (subst P e pa))
          (λ (ne : a ≡ b → ⊥). ⊎_elim
          inl
          (λ (h : (standing (next_of a) ≡ true) × P (next_of a)). walk_within k (next_of a) (next_below n (noticed a) a la) h.0 (let c = next_closer a b la lb ua ub ne in omega arith) h.1)
          (step a la ua ne pa))
          (cases_eq a b)

      -- however far b is
      pub walk : (a : ℕ) → a < n → standing a ≡ true → P a → Goal ⊎ P b
      walk a la ua pa = walk_within (suc (dist n a b)) a la ua (omega arith) pa
