-- How many standing servers an entry has passed on its way from home, and whether its mask has all of them: one more at each standing server, none at the first, all but one back at home.
-- Sums over the servers between home and the entry, which may begin anywhere on the circle.
use Rattle.std.proofs.Common.{◌≡◌, ℕ, suc, ◌+◌, ◌-◌, ◌<◌, ◌≤◌, Bool, true, false, cond, not, ◌||◌, eqb, sym, ap, ◌∙◌, subst, ⊎_elim, arith}
use Rattle.std.proofs.lemmas.Bool.Decides.{nat_tests}
use Rattle.std.proofs.lemmas.Bool.{cases_eq, cases_lt, true≢false}
use Rattle.servers.specs.Sets.{has, join, one}
use Rattle.servers.proofs.Members.{has_join, has_only}
use Rattle.circle.specs.Circle.{after, dist, reach, next_standing}
use Rattle.counting.specs.Below.{sum, count}
use Rattle.circle.specs.Costs.{standing_count, gap, passed}
use Rattle.circle.proofs.Steps.{after_below, after_none, after_after, after_dist, dist_below, dist_pos, dist_self, dist_after, reach_pos, reach_le, after_reach}
use Rattle.counting.proofs.Searches.{all_at, all_from}
use Rattle.circle.proofs.Crashed.{bare_at}
use Rattle.circle.proofs.Noticed.{next_standing_below, next_standing_bare}
use Rattle.counting.proofs.Sums.{count_is_sum, sum_first, sum_same, sum_split, sum_of_zeros, sum_longer}

-- a sum over the circle may begin anywhere
pub sum_turned : (f : ℕ → ℕ) (n p : ℕ) → p < n → sum (λ d. f (after n p d)) n ≡ sum f n
sum_turned f n p l =
    let e : n - p + p ≡ n = omega arith in
    let e2 : p + (n - p) ≡ n = omega arith in
    let a : sum (λ d. f (after n p d)) (n - p + p) ≡ _ = sum_split (λ d. f (after n p d)) (n - p) p in
    let b : sum f (p + (n - p)) ≡ _ = sum_split f p (n - p) in
    let low = sum_same (λ d. f (after n p d)) (λ k. f (p + k)) (n - p) (λ k h. ap f (grind (arith, nat_tests))) in
    let high = sum_same (λ k. f (after n p (n - p + k))) f p (λ k h. ap f (grind (arith, nat_tests))) in
    let turned_parts = rw e at a in
    let parts = rw e2 at b in
    omega arith

-- going on from y, not home, to a server no farther than home
reach_on : (n home y e : ℕ) → home < n → y < n → (y ≡ home → ⊥) → 0 < e → e ≤ dist n y home → reach n home (after n y e) ≡ reach n home y + e
reach_on n home y e lh ly ne pos le = grind (arith, nat_tests)

-- an implication as a test
or_not : (a b : Bool) → (a ≡ true → b ≡ true) → (not a || b) ≡ true
or_not a b h = grind (arith, nat_tests)

-- of the tests at 1, 2, .. below d + e, those below d, the one at d that passes, and those after it that fail
count_on : (test : ℕ → Bool) (d e : ℕ) → 0 < d → 0 < e → test d ≡ true → ((j : ℕ) → 0 < j → j < e → test (d + j) ≡ false)
    → count (λ j. test (suc j)) (d + e - 1) ≡ 1 + count (λ j. test (suc j)) (d - 1)
count_on test d e pd pe here none =
    let f : ℕ → ℕ = λ j. cond (test (suc j)) 1 0 in
    let long : d - 1 + suc (e - 1) ≡ d + e - 1 = omega arith in
    let parts = sum_split f (d - 1) (suc (e - 1)) in
    let first = sum_first (λ k. f (d - 1 + k)) (e - 1) in
    let at : suc (d - 1 + 0) ≡ d = omega arith in
    let here_one : f (d - 1 + 0) ≡ 1 = ap (λ b. cond b 1 0) (ap test at ∙ here) in
    let then_none = sum_of_zeros (λ k. f (d - 1 + suc k)) (e - 1) (λ k l.
    let on : suc (d - 1 + suc k) ≡ d + suc k = omega arith in
    ap (λ b. cond b 1 0) (ap test on ∙ none (suc k) (omega arith) (omega arith))) in
    let whole = rw long at parts in
    omega (arith, count_is_sum (λ j. test (suc j)) (d + e - 1), count_is_sum (λ j. test (suc j)) (d - 1))

module _ (n : ℕ) (standing : ℕ → Bool) (home : ℕ) (lh : home < n) (uh : standing home ≡ true) where
  -- the next standing server comes no later than home
  next_standing_soon : (y : ℕ) → y < n → (y ≡ home → ⊥) → reach n y (next_standing n standing y) ≤ dist n y home
  next_standing_soon y ly ne = ⊎_elim
      (λ (h : dist n y home < reach n y (next_standing n standing y)). absurd (true≢false (sym uh ∙ bare_at n standing y (next_standing n standing y) home ly lh (next_standing_bare n standing y ly) ne h)))
      (λ (h : reach n y (next_standing n standing y) ≤ dist n y home). h)
      (cases_lt (dist n y home) (reach n y (next_standing n standing y)))

  -- the next standing server lies just as much farther from home
  pub next_standing_reach : (y : ℕ) → y < n → (y ≡ home → ⊥) → reach n home (next_standing n standing y) ≡ reach n home y + reach n y (next_standing n standing y)
  next_standing_reach y ly ne =
      let lz = next_standing_below n standing y ly in
      let on = reach_on n home y (reach n y (next_standing n standing y)) lh ly ne (reach_pos n y (next_standing n standing y) ly lz) (next_standing_soon y ly ne) in
      subst (λ k. reach n home k ≡ reach n home y + reach n y (next_standing n standing y)) (after_reach n y (next_standing n standing y) ly lz) on

  -- the servers between y and the next standing one, seen from home
  next_standing_after : (y j : ℕ) → y < n → (y ≡ home → ⊥) → 0 < j → j < reach n y (next_standing n standing y) → standing (after n home (reach n home y + j)) ≡ false
  next_standing_after y j ly ne pos l =
      let soon = next_standing_soon y ly ne in
      let far : reach n home y + dist n y home ≡ n = grind (arith, nat_tests) in
      let on = after_after n home (reach n home y) j lh (omega arith) in
      let there = after_reach n home y lh ly in
      sym (ap standing on) ∙ (ap (λ k. standing (after n k j)) there ∙ next_standing_bare n standing y ly j pos l)

  -- those that stand are home and all between home and home
  pub standing_gap : standing_count n standing ≡ 1 + gap n standing home home
  unfolding gap
  standing_gap =
      let f : ℕ → ℕ = λ q. cond (standing q) 1 0 in
      let turned = sum_turned f n home lh in
      let long : suc (n - 1) ≡ n = omega arith in
      let first = rw long at (sum_first (λ d. f (after n home d)) (n - 1)) in
      let here : f (after n home 0) ≡ 1 = ap (λ b. cond b 1 0) (ap standing (after_none n home lh) ∙ uh) in
      let round : reach n home home ≡ n = grind (arith, nat_tests) in
      rw round (omega (arith, count_is_sum standing n, count_is_sum (λ j. standing (after n home (suc j))) (n - 1)))

  -- none stands between home and the first standing server after it
  pub gap_first : gap n standing home (next_standing n standing home) ≡ 0
  unfolding gap
  gap_first = count_is_sum _ (reach n home (next_standing n standing home) - 1) ∙ sum_of_zeros _ (reach n home (next_standing n standing home) - 1) (λ k l. ap (λ b. cond b 1 0) (next_standing_bare n standing home lh (suc k) (omega arith) (omega arith)))

  -- home itself is never among those passed
  pub gap_below : (z : ℕ) → z < n → gap n standing home z < standing_count n standing
  unfolding gap
  gap_below z lz =
      let round : reach n home home ≡ n = grind (arith, nat_tests) in
      let le = reach_le n home z lh lz in
      let more = sum_longer (λ j. cond (standing (after n home (suc j))) 1 0) (reach n home z - 1) (reach n home home - 1) (omega arith) in
      omega (arith, standing_gap, count_is_sum (λ j. standing (after n home (suc j))) (reach n home z - 1), count_is_sum (λ j. standing (after n home (suc j))) (reach n home home - 1))

  -- at the next standing server one more is passed
  pub gap_next : (y : ℕ) → y < n → standing y ≡ true → (y ≡ home → ⊥) → gap n standing home (next_standing n standing y) ≡ 1 + gap n standing home y
  unfolding gap
  gap_next y ly uy ne =
      rw (next_standing_reach y ly ne) (count_on (λ d. standing (after n home d)) (reach n home y) (reach n y (next_standing n standing y))
      (reach_pos n home y lh ly) (reach_pos n y (next_standing n standing y) ly (next_standing_below n standing y ly))
      (ap standing (after_reach n home y lh ly) ∙ uy) (λ j a b. next_standing_after y j ly ne a b))

  -- passed: each standing server between home and z is in the mask
  pub passed_at : (z mask j : ℕ) → passed n standing home z mask ≡ true → 0 < j → j < reach n home z → standing (after n home j) ≡ true → has mask (after n home j) ≡ true
  unfolding passed
  passed_at z mask j h pos l u =
      let a = all_at (λ j. not (standing (after n home (suc j))) || has mask (after n home (suc j))) (reach n home z - 1) (j - 1) h (omega arith) in
      let e : suc (j - 1) ≡ j = omega arith in
      let b : (not (standing (after n home j)) || has mask (after n home j)) ≡ true = rw e at a in
      grind (arith, nat_tests)

  -- where each of them is in it, all are passed
  pub passed_from : (z mask : ℕ) → ((j : ℕ) → 0 < j → j < reach n home z → standing (after n home j) ≡ true → has mask (after n home j) ≡ true) → passed n standing home z mask ≡ true
  unfolding passed
  passed_from z mask h = all_from _ (reach n home z - 1) (λ j l. or_not (standing (after n home (suc j))) (has mask (after n home (suc j))) (h (suc j) (omega arith) (omega arith)))

  -- a larger mask has passed them too
  pub passed_more : (z mask more : ℕ) → ((q : ℕ) → has mask q ≡ true → has more q ≡ true) → passed n standing home z mask ≡ true → passed n standing home z more ≡ true
  passed_more z mask more h p = passed_from z more (λ j a b u. h (after n home j) (passed_at z mask j p a b u))

  -- at the first standing server after home nothing was passed yet
  pub passed_first : (mask : ℕ) → passed n standing home (next_standing n standing home) mask ≡ true
  passed_first mask = passed_from (next_standing n standing home) mask (λ j a b u. absurd (true≢false (sym u ∙ next_standing_bare n standing home lh j a b)))

  -- a server that forwards an entry joins its mask
  pub passed_next : (y mask : ℕ) → y < n → (y ≡ home → ⊥) → passed n standing home y mask ≡ true → passed n standing home (next_standing n standing y) (join mask (one y)) ≡ true
  passed_next y mask ly ne p = passed_from (next_standing n standing y) (join mask (one y)) (λ j a b u.
      let on = next_standing_reach y ly ne in
      let q = after n home j in
      let grown : has (join mask (one y)) q ≡ (has mask q || eqb q y) = has_join mask (one y) q ∙ ap (λ c. has mask q || c) (has_only y q) in
      ⊎_elim
      (λ (h : j < reach n home y). let old = passed_at y mask j p a h u in grind (arith, nat_tests))
      (λ (h : reach n home y ≤ j). ⊎_elim
      (λ (e : j ≡ reach n home y). let here : q ≡ y = ap (after n home) e ∙ after_reach n home y lh ly in grind (arith, nat_tests))
      (λ (apart : j ≡ reach n home y → ⊥).
      let i = j - reach n home y in
      let back : reach n home y + i ≡ j = omega arith in
      absurd (true≢false (sym u ∙ (sym (ap (λ k. standing (after n home k)) back) ∙ next_standing_after y i ly ne (omega arith) (omega arith)))))
      (cases_eq j (reach n home y)))
      (cases_lt j (reach n home y)))

  -- at home: all other standing servers are in the mask
  pub passed_home : (mask q : ℕ) → passed n standing home home mask ≡ true → q < n → standing q ≡ true → (q ≡ home → ⊥) → has mask q ≡ true
  passed_home mask q p lq u ne =
      let round : reach n home home ≡ n = grind (arith, nat_tests) in
      let low = dist_below n home q lh lq in
      let there = after_dist n home q lh lq in
      subst (λ k. has mask k ≡ true) there (passed_at home mask (dist n home q) p (dist_pos n home q lh lq (λ e. ne (sym e))) (omega arith) (ap standing there ∙ u))

  -- and where they are, all are passed
  pub home_passed : (mask : ℕ) → ((q : ℕ) → q < n → standing q ≡ true → (q ≡ home → ⊥) → has mask q ≡ true) → passed n standing home home mask ≡ true
  home_passed mask h =
      let round : reach n home home ≡ n = grind (arith, nat_tests) in
      passed_from home mask (λ j a b u. h (after n home j) (after_below n home j lh (omega arith)) u (λ e. away j a (omega arith) e))
    where
      away : (j : ℕ) → 0 < j → j < n → after n home j ≡ home → ⊥
      away j a b e = let c = dist_after n home j lh b in let d = dist_self n home in let f : dist n home (after n home j) ≡ dist n home home = ap (dist n home) e in omega arith
