-- Each step of an entry on its way home lowers its cost, a larger mask never raises it, and no entry costs 6 m or more.
-- Each step passes one more standing server, which counts two, and puts it into the mask.
use Rattle.std.proofs.Common.{◌≡◌, ℕ, ◌+◌, ◌*◌, ◌<◌, ◌≤◌, Bool, true, false, ◌&&◌, sym, ◌∙◌, subst, ⊎_elim, arith}
use Rattle.std.proofs.lemmas.Bool.Decides.{nat_tests}
use Rattle.std.proofs.lemmas.Bool.{cases_eq}
use Rattle.servers.specs.Sets.{has, join, one}
use Rattle.circle.specs.Circle.{next_standing, first_standing, stands_in, covers}
use Rattle.circle.specs.Costs.{standing_count, gap, passed, on_wire, to_forward, write_lap, queued_cost}
use Rattle.circle.specs.StandIns.{Honest}
use Rattle.circle.proofs.Noticed.{next_standing_below, stands_in_is, covers_standing, standing_covers}
use Rattle.circle.proofs.Gaps.{standing_gap, gap_first, gap_below, gap_next, passed_more, passed_first, passed_next, passed_home, home_passed}

module _ (n : ℕ) (standing : ℕ → Bool) (home : ℕ) (lh : home < n) (uh : standing home ≡ true) where
  -- forwarding: y joins the mask, and the entry goes on the wire to the next standing server
  pub forward_falls : (y mask : ℕ) → y < n → standing y ≡ true → on_wire n standing home (next_standing n standing y) (join mask (one y)) + 1 ≤ to_forward n standing home y mask
  forward_falls y mask ly uy = ⊎_elim
      (λ (e : y ≡ home).
      let g : gap n standing home (next_standing n standing y) ≡ 0 = rw e (gap_first n standing home lh uh) in
      let p : passed n standing home (next_standing n standing y) (join mask (one y)) ≡ true = subst (λ k. passed n standing home (next_standing n standing k) (join mask (one y)) ≡ true) (sym e) (passed_first n standing home lh uh (join mask (one y))) in
      let s = standing_gap n standing home lh uh in
      grind (arith, nat_tests))
      (λ (ne : y ≡ home → ⊥).
      let g = gap_next n standing home lh uh y ly uy ne in
      let b = gap_below n standing home lh uh (next_standing n standing y) (next_standing_below n standing y ly) in
      let p = passed_next n standing home lh uh y mask ly ne in
      grind (arith, nat_tests))
      (cases_eq y home)

  -- a delivery, where the entry does not end
  pub deliver_falls : (z mask : ℕ) → z < n → (z ≡ home → passed n standing home z mask ≡ false) → to_forward n standing home z mask + 1 ≤ on_wire n standing home z mask
  deliver_falls z mask lz h =
      let s = standing_gap n standing home lh uh in
      grind (arith, nat_tests)

  -- a pre-write that ends at home, and the write that home sends
  pub turn_falls : (mask new : ℕ) → on_wire n standing home (next_standing n standing home) new + 1 ≤ on_wire n standing home home mask + write_lap n standing
  turn_falls mask new =
      let g = gap_first n standing home lh uh in
      let p = passed_first n standing home lh uh new in
      let s = standing_gap n standing home lh uh in
      grind (arith, nat_tests)

  -- a queued write that starts at home
  pub start_falls : (new : ℕ) → on_wire n standing home (next_standing n standing home) new + write_lap n standing + 1 ≤ queued_cost n standing
  start_falls new =
      let g = gap_first n standing home lh uh in
      let p = passed_first n standing home lh uh new in
      let s = standing_gap n standing home lh uh in
      grind (arith, nat_tests)

  -- a larger mask on the wire costs no more
  pub on_wire_more : (z mask more : ℕ) → ((q : ℕ) → has mask q ≡ true → has more q ≡ true) → on_wire n standing home z more ≤ on_wire n standing home z mask
  on_wire_more z mask more h = let p = passed_more n standing home lh uh z mask more h in grind (arith, nat_tests)

  -- nor does one to forward
  pub to_forward_more : (y mask more : ℕ) → ((q : ℕ) → has mask q ≡ true → has more q ≡ true) → to_forward n standing home y more ≤ to_forward n standing home y mask
  to_forward_more y mask more h = let p = passed_more n standing home lh uh y mask more h in grind (arith, nat_tests)

  -- an entry on the wire costs less than 6 m
  pub on_wire_bound : (z mask : ℕ) → on_wire n standing home z mask + write_lap n standing + 1 ≤ 6 * standing_count n standing
  on_wire_bound z mask = let s = standing_gap n standing home lh uh in grind (arith, nat_tests)

  -- so does one to forward
  pub to_forward_bound : (y mask : ℕ) → to_forward n standing home y mask + write_lap n standing + 1 ≤ 6 * standing_count n standing
  to_forward_bound y mask = let s = standing_gap n standing home lh uh in grind (arith, nat_tests)

module _ (n : ℕ) (standing : ℕ → Bool) (noticed : ℕ → ℕ → Bool)
    (honest : Honest standing noticed)
    (complete : (p q : ℕ) → p < n → q < n → standing p ≡ true → standing q ≡ false → noticed p q ≡ true) where
  -- two tests that imply each other are equal
  equal_tests : (a b : Bool) → (a ≡ true → b ≡ true) → (b ≡ true → a ≡ true) → a ≡ b
  equal_tests a b f g = grind (arith, nat_tests)

  -- where every crash is noticed, an entry at home has passed all others exactly if its mask covers
  pub passed_covers : (home mask : ℕ) → home < n → standing home ≡ true → passed n standing home home mask ≡ covers n (noticed home) home mask
  passed_covers home mask lh uh = equal_tests (passed n standing home home mask) (covers n (noticed home) home mask)
      (λ t. standing_covers n standing noticed honest complete home mask lh uh (λ q lq uq ne. passed_home n standing home lh uh mask q t lq uq ne))
      (λ t. home_passed n standing home lh uh mask (covers_standing n standing noticed honest complete home mask lh uh t))

  -- an entry of origin o ends at home only, and once it has passed all others
  pub ends_home : (z o mask : ℕ) → z < n → o < n → standing z ≡ true → (stands_in n (noticed z) z o && covers n (noticed z) z mask) ≡ true → z ≡ first_standing n standing o
  ends_home z o mask lz lo uz e = let a = stands_in_is n standing noticed honest complete z o lz lo uz in grind (arith, nat_tests)

  -- an entry that home keeps has not passed all others
  pub kept_unpassed : (z o mask : ℕ) → z < n → o < n → standing z ≡ true → (stands_in n (noticed z) z o && covers n (noticed z) z mask) ≡ false
      → z ≡ first_standing n standing o → passed n standing (first_standing n standing o) z mask ≡ false
  kept_unpassed z o mask lz lo uz e is =
      let a = stands_in_is n standing noticed honest complete z o lz lo uz in
      let b = passed_covers z mask lz uz in
      let c : covers n (noticed z) z mask ≡ false = grind (arith, nat_tests) in
      subst (λ h. passed n standing h z mask ≡ false) is (b ∙ c)
