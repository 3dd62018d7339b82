-- Where every crash is noticed, each accepted turn and delivery lowers the load.
-- What a message or an entry still costs falls with each step round the circle; here the calls of the rules are matched with the steps for which that is shown.
use Rattle.std.proofs.Common.{◌≡◌, ℕ, suc, ◌+◌, ◌-◌, ◌*◌, ◌<◌, ◌≤◌, Bool, true, false, cond, ◌&&◌, eqb, ltb, ◌⊎◌, Some, None, Option, sym, refl, ap, ◌∙◌, subst, inl, inr, ⊎_elim, le_trans, mul-le-mul_left, arith}
use Rattle.std.proofs.lemmas.Bool.Decides.{nat_tests}
use Rattle.std.proofs.lemmas.Bool.{cases_eq, cases_Bool, and_parts, or_cases, true≢false, ltb-true}
use Rattle.servers.specs.Sets.{join, one}
use Rattle.circle.specs.Circle.{next_standing, first_standing}
use Rattle.counting.specs.Below.{any, least}
use Rattle.circle.specs.Costs.{standing_count, load}
use Rattle.circle.proofs.Noticed.{next_is_up, next_standing_stands}
use Rattle.counting.proofs.Sums.{sum2_mono, sum2_falls}
use Rattle.circle.proofs.Costs.{ends_home, kept_unpassed}
use Rattle.circle.proofs.Loads.{Homes, forwards_prewrite_falls, forwards_write_falls, keeps_prewrite_falls, keeps_write_falls, turns_prewrite_falls, ends_write_falls, starts_falls}
use Rattle.model.specs.State.{State, tag_server, is_queued, tag_of}
use Rattle.model.specs.Sending.{next_of, sent, gone}
use Rattle.model.specs.Operations.{answered}
use Rattle.model.specs.Turns.{forwards, forwards_prewrite, forwards_write, starts, fresh_number, counted, has_entry, has_entry_of, group_waits, forwards_or_starts, turns}
use Rattle.model.specs.Deliveries.{ends_at, took, raised, took_and_returned, keeps_prewrite, keeps_write, delivered}
use Rattle.model.specs.Draining.{AllNoticed}
use Rattle.counting.proofs.Searches.{some_passes, least_passes, none_is_least}
use Rattle.model.proofs.Inv.{Inv, holds, settles, returns}
use Rattle.model.proofs.Events.{Queued, queued_says}
use Rattle.drained.proofs.SharedChanges.{empty_before, posted_otherwise}
use Rattle.drained.proofs.LoadIsBounded.{home, queued_sum, load_of, origin_below, homes_stand}

-- the load rises with the number of queued writes
fewer_queued_cost_less : (n : ℕ) (stands : ℕ → Bool) (home : ℕ → ℕ) (waiting : ℕ → ℕ → ℕ → ℕ) (forward_prewrite forward_write : ℕ → ℕ → ℕ) (q fewer : ℕ) → fewer ≤ q → load n 256 stands home waiting forward_prewrite forward_write fewer ≤ load n 256 stands home waiting forward_prewrite forward_write q
fewer_queued_cost_less n stands home waiting forward_prewrite forward_write q fewer l = let a = mul-le-mul_left (4 * standing_count n stands - 1) l in omega arith

-- answers add nothing to what is queued
answers_queue_nothing : (s : State) (due : ℕ → Bool) (r : ℕ) → queued_sum (answered s due r) ≤ queued_sum s
answers_queue_nothing s due r = sum2_mono (λ x k. cond (s.servers.standing x && is_queued s.journal x k) 1 0) (λ x k. cond (s.servers.standing x && is_queued (answered s due r).journal x k) 1 0) s.size 256 (λ x lx k lk. grind (arith, nat_tests))

-- a message that is put to wait for a standing server
posted_joins : (w : ℕ → ℕ → ℕ) (stands : ℕ → Bool) (q z r m : ℕ) (b : Bool) → q ≡ z → stands z ≡ true → b ≡ true → (x k : ℕ) → cond (stands q && (eqb x q && (eqb k r && b))) (join (w x k) m) (w x k) ≡ cond (eqb x z && eqb k r) (join (w x k) m) (w x k)
posted_joins w stands q z r m b e u t x k = rw (e, u, t) (grind (arith, nat_tests))

module _ (s : State) (i : Inv s) (noticed : AllNoticed s) (p : ℕ) (lp : p < s.size) (u : s.servers.standing p ≡ true) where
  -- how many servers there are
  abbrev n : ℕ
  n = s.size

  -- who stands
  abbrev stands : ℕ → Bool
  stands = s.servers.standing

  -- only crashed servers are noticed
  honest : (x y : ℕ) → stands x ≡ true → s.servers.noticed x y ≡ true → stands y ≡ false
  honest x y h = i.base.true_crash x y

  -- the next of p is the next standing server
  next_is : next_of s p ≡ next_standing n stands p
  next_is = next_is_up n stands s.servers.noticed honest noticed p lp u

  -- and it stands
  next_stands : stands (next_standing n stands p) ≡ true
  next_stands = next_standing_stands n stands p p lp lp u

  -- the home of each row stands
  homes : Homes n 256 stands (home s)
  homes = homes_stand s i p lp u

  -- p forwards
  forwarding_lowers_load : (j r : ℕ) → r < 256 → has_entry s.servers p r ≡ true → load_of (forwards (counted s p j) p r) < load_of s
  forwarding_lowers_load j r lr h = go (cases_Bool (ltb 0 (s.servers.forward_write p r)))
    where
      go : (ltb 0 (s.servers.forward_write p r) ≡ true) ⊎ (ltb 0 (s.servers.forward_write p r) ≡ false) → load_of (forwards (counted s p j) p r) < load_of s
      go (inl e) = rw e (forwards_write_falls n 256 stands (home s) homes s.waiting (forwards_write s p r).waiting s.servers.forward_prewrite s.servers.forward_prewrite s.servers.forward_write (forwards_write s p r).servers.forward_write p r lp u lr (ltb-true 0 (s.servers.forward_write p r) e)
          (posted_otherwise (λ x k. s.waiting x k 1) _ _ r _ _ refl)
          (posted_joins (λ x k. s.waiting x k 2) stands _ _ r _ _ next_is next_stands refl)
          (λ x k. refl) (λ x k. refl) (queued_sum s))
      go (inr e) = rw e (let w : 0 < s.servers.forward_prewrite p r = grind (arith, nat_tests) in
          forwards_prewrite_falls n 256 stands (home s) homes s.waiting (forwards_prewrite s p r).waiting s.servers.forward_prewrite (forwards_prewrite s p r).servers.forward_prewrite s.servers.forward_write s.servers.forward_write p r lp u lr w
          (posted_joins (λ x k. s.waiting x k 1) stands _ _ r _ _ next_is next_stands refl)
          (posted_otherwise (λ x k. s.waiting x k 2) _ _ r _ _ refl)
          (λ x k. refl) (λ x k. refl) (queued_sum s))

  -- p, which stands, is its own stand-in
  home_of_own : first_standing n stands p ≡ p
  unfolding first_standing
  home_of_own = rw u refl

  -- there are at most 8 servers
  small : p < 8
  small = let b = i.base.small in omega arith

  -- p starts a queued write
  starting_lowers_load : (r : ℕ) → Queued s p r → load_of (starts s p r) < load_of s
  starting_lowers_load r w =
      let lr : r < 256 = (let a = w.low in let b = i.base.room in omega arith) in
      let v = starts s p r in
      let t = tag_of (fresh_number s p) p in
      let few = small in
      let names_p : tag_server t ≡ p = omega arith in
      let fresh : v.journal.tag r ≡ t = grind (arith, nat_tests) in
      let home_r : home v r ≡ p = rw (fresh, names_p) home_of_own in
      let none : s.journal.tag r ≡ 0 = w.no_tag in
      let others : (k : ℕ) → (k ≡ r → ⊥) → home v k ≡ home s k = (λ k ne. let e : v.journal.tag k ≡ s.journal.tag k = grind (arith, nat_tests) in ap (λ x. first_standing n stands (tag_server x)) e) in
      let homes_then : Homes n 256 stands (home v) = (λ k lk. ⊎_elim
      (λ (e : k ≡ r). let e2 : home v k ≡ p = ap (home v) e ∙ home_r in rw e2 (lp, u))
      (λ (ne : k ≡ r → ⊥). rw (others k ne) (homes k lk))
      (cases_eq k r)) in
      let next_is_from_home : next_of s p ≡ next_standing n stands (home v r) = next_is ∙ ap (next_standing n stands) (sym home_r) in
      let fewer : queued_sum v + 1 ≤ queued_sum s = sum2_falls (λ x k. cond (stands x && is_queued s.journal x k) 1 0) (λ x k. cond (stands x && is_queued v.journal x k) 1 0) n 256 p r 1 lp lr (λ x lx k lk. let a = w.low in let b = w.is_write in let c = w.open_yet in let d = w.here in grind (arith, nat_tests)) in
      let falls = starts_falls n 256 stands (home s) (home v) homes_then s.waiting v.waiting s.servers.forward_prewrite s.servers.forward_write s.servers.forward_prewrite s.servers.forward_write r (queued_sum v) (one p) lr others
      (λ x f. empty_before (i.names.waiting x r f) none) (λ x. empty_before (i.names.forward_prewrite x r) none) (λ x. empty_before (i.names.forward_write x r) none)
      (posted_joins (λ x k. s.waiting x k 1) stands _ _ r _ _ next_is_from_home (rw home_r next_stands) refl)
      (posted_otherwise (λ x k. s.waiting x k 2) _ _ r _ _ refl)
      (λ x k. refl) (λ x k. refl) in
      le_trans falls (fewer_queued_cost_less n stands (home s) s.waiting s.servers.forward_prewrite s.servers.forward_write (queued_sum s) (suc (queued_sum v)) (omega arith))

  -- what was found in the chosen group is forwarded or started
  forwarding_or_starting_lowers_load : (j : ℕ) (a b : Option ℕ) → ((r : ℕ) → a ≡ Some r → (r < 256) × (has_entry s.servers p r ≡ true)) → ((r : ℕ) → b ≡ Some r → Queued s p r) → ((a ≡ None) → (b ≡ None) → ⊥) → load_of (forwards_or_starts (counted s p j) p a b) < load_of s
  forwarding_or_starting_lowers_load j (Some r) b h g some = let e = h r refl in forwarding_lowers_load j r e.0 e.1
  forwarding_or_starting_lowers_load j None (Some r) h g some = starting_lowers_load r (g r refl)
  forwarding_or_starting_lowers_load j None None h g some = absurd (some refl refl)

  -- an accepted turn
  pub turn_lowers_load : (j : ℕ) → group_waits s p j ≡ true → load_of (turns s p (Some j)) < load_of s
  turn_lowers_load j h = forwarding_or_starting_lowers_load j (least (has_entry_of s p j) s.journal.tag 256) (least (is_queued s.journal p) (λ k. k) 256)
      (λ r e. let f = least_passes (has_entry_of s p j) s.journal.tag 256 r e in (f.0, (and_parts _ _ f.1).0))
      (λ r e. queued_says s p r (least_passes (is_queued s.journal p) (λ k. k) 256 r e).1)
      (λ a b. ⊎_elim
      (λ (e : any (has_entry_of s p j) 256 ≡ true). let f = some_passes (has_entry_of s p j) 256 e in true≢false (sym f.2 ∙ none_is_least _ _ 256 a f.0 f.1))
      (λ (e : (eqb j p && any (is_queued s.journal p) 256) ≡ true). let f = some_passes (is_queued s.journal p) 256 (and_parts _ _ e).1 in true≢false (sym f.2 ∙ none_is_least _ _ 256 b f.0 f.1))
      (or_cases _ _ h))

  -- the message to p of row r and phase f is delivered
  module _ (r : ℕ) (lr : r < 256) where
    -- the server that the tag of the row names
    abbrev origin : ℕ
    origin = tag_server (s.journal.tag r)

    -- it is a server of the ring
    origin_low : origin < n
    origin_low = origin_below s i p lp r

    -- taking a row answers reads, and queues nothing
    taking_queues_nothing : (f : ℕ) → queued_sum (took (gone s p r f) p r) ≤ queued_sum s
    taking_queues_nothing f = answers_queue_nothing (holds (gone s p r f) p r) (settles (gone s p r f) p r) r

    -- nor does returning its tag
    returning_queues_nothing : (f : ℕ) → queued_sum (took_and_returned (gone s p r f) p r) ≤ queued_sum s
    returning_queues_nothing f = let t = raised (took (gone s p r f) p r) p (s.journal.tag r) in le_trans (answers_queue_nothing t (returns t p) 0) (taking_queues_nothing f)

    -- a pre-write is delivered: it ends at its home, which sends a write, or is kept
    pub prewrite_lowers_load : 0 < s.waiting p r 1 → load_of (delivered s p r 1) < load_of s
    prewrite_lowers_load w = go (ends_at s p r (s.waiting p r 1)) refl
      where
        go : (b : Bool) → ends_at s p r (s.waiting p r 1) ≡ b → load_of (cond b (sent (took (gone s p r 1) p r) p r 2 (one p)) (keeps_prewrite (gone s p r 1) p r (s.waiting p r 1))) < load_of s
        go true e =
            let v = sent (took (gone s p r 1) p r) p r 2 (one p) in
            let is : p ≡ home s r = ends_home n stands s.servers.noticed honest noticed p origin (s.waiting p r 1) lp origin_low u e in
            let next_is_from_home : next_of s p ≡ next_standing n stands (home s r) = next_is ∙ ap (next_standing n stands) is in
            let next_stands_from_home : stands (next_standing n stands (home s r)) ≡ true = ap (λ x. stands (next_standing n stands x)) (sym is) ∙ next_stands in
            let waits_at_home : 0 < s.waiting (home s r) r 1 = subst (λ x. 0 < s.waiting x r 1) is w in
            let falls = turns_prewrite_falls n 256 stands (home s) homes s.waiting v.waiting s.servers.forward_prewrite s.servers.forward_prewrite s.servers.forward_write s.servers.forward_write r lr waits_at_home (one p)
            (λ x k. taken_at_home (s.waiting x k 1) x k (home s r) is)
            (posted_joins_at_home next_is_from_home next_stands_from_home)
            (λ x k. refl) (λ x k. refl) (queued_sum v) in
            le_trans falls (fewer_queued_cost_less n stands (home s) s.waiting s.servers.forward_prewrite s.servers.forward_write (queued_sum s) (queued_sum v) (taking_queues_nothing 1))
          where
            taken_at_home : (a x k h : ℕ) → p ≡ h → cond (stands (next_of s p) && (eqb x (next_of s p) && (eqb k r && eqb 1 2))) (join (cond (eqb x p && (eqb k r && eqb 1 1)) 0 a) (one p)) (cond (eqb x p && (eqb k r && eqb 1 1)) 0 a) ≡ cond (eqb x h && eqb k r) 0 a
            taken_at_home a x k h e = rw (← e) (grind (arith, nat_tests))

            posted_joins_at_home : next_of s p ≡ next_standing n stands (home s r) → stands (next_standing n stands (home s r)) ≡ true → (x k : ℕ) → (sent (took (gone s p r 1) p r) p r 2 (one p)).waiting x k 2 ≡ cond (eqb x (next_standing n stands (home s r)) && eqb k r) (join (s.waiting x k 2) (one p)) (s.waiting x k 2)
            posted_joins_at_home a b x k = let c = ap s.servers.standing a ∙ b in grind (arith, nat_tests)
        go false e = keeps_prewrite_falls n 256 stands (home s) homes s.waiting (gone s p r 1).waiting s.servers.forward_prewrite (keeps_prewrite (gone s p r 1) p r (s.waiting p r 1)).servers.forward_prewrite s.servers.forward_write s.servers.forward_write p r lp lr w
            (kept_unpassed n stands s.servers.noticed honest noticed p origin (s.waiting p r 1) lp origin_low u e)
            (λ x k. grind (arith, nat_tests)) (λ x k. grind (arith, nat_tests)) (λ x k. grind (arith, nat_tests)) (λ x k. refl) (queued_sum s)

    -- a write is delivered: it ends or is kept
    pub write_lowers_load : 0 < s.waiting p r 2 → load_of (delivered s p r 2) < load_of s
    write_lowers_load w = go (ends_at s p r (s.waiting p r 2)) refl
      where
        go : (b : Bool) → ends_at s p r (s.waiting p r 2) ≡ b → load_of (cond b (took_and_returned (gone s p r 2) p r) (keeps_write (took_and_returned (gone s p r 2) p r) p r (s.waiting p r 2))) < load_of s
        go true e =
            let v = took_and_returned (gone s p r 2) p r in
            let falls = ends_write_falls n 256 stands (home s) homes s.waiting v.waiting s.servers.forward_prewrite s.servers.forward_prewrite s.servers.forward_write s.servers.forward_write p r lp lr w
            (λ x k. grind (arith, nat_tests)) (λ x k. grind (arith, nat_tests)) (λ x k. refl) (λ x k. refl) (queued_sum v) in
            le_trans falls (fewer_queued_cost_less n stands (home s) s.waiting s.servers.forward_prewrite s.servers.forward_write (queued_sum s) (queued_sum v) (returning_queues_nothing 2))
        go false e =
            let v = keeps_write (took_and_returned (gone s p r 2) p r) p r (s.waiting p r 2) in
            let falls = keeps_write_falls n 256 stands (home s) homes s.waiting v.waiting s.servers.forward_prewrite s.servers.forward_prewrite s.servers.forward_write v.servers.forward_write p r lp lr w
            (kept_unpassed n stands s.servers.noticed honest noticed p origin (s.waiting p r 2) lp origin_low u e)
            (λ x k. grind (arith, nat_tests)) (λ x k. grind (arith, nat_tests)) (λ x k. refl) (λ x k. grind (arith, nat_tests)) (queued_sum v) in
            le_trans falls (fewer_queued_cost_less n stands (home s) s.waiting s.servers.forward_prewrite s.servers.forward_write (queued_sum s) (queued_sum v) (returning_queues_nothing 2))
