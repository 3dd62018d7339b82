-- Once every crash is noticed and only turns, deliveries and picks come, at most 6 m (w + q) turns and deliveries are accepted.
-- Each leaves the ring as it is and lowers the load by one at least, so there are no more of them than the load was at first.
use Rattle.std.proofs.Common.{◌≡◌, ℕ, zero, suc, ◌+◌, ◌-◌, ◌<◌, ◌≤◌, Bool, true, false, cond, eqb, ltb, ◌⊎◌, Some, None, Option, sym, refl, ap, ◌∙◌, subst, inl, inr, ⊎_elim, le_trans, arith}
use Rattle.std.proofs.lemmas.Bool.{cases_eq}
use Rattle.counting.specs.Below.{sum, sum_none, least}
use Rattle.counting.proofs.Sums.{sum_suc}
use Rattle.model.specs.declared.Call.{Call}
use Rattle.model.specs.declared.Call.TheVariants.{Write, Read, GiveUp, Turn, Deliver, Crash, Notice, Pick}
use Rattle.model.specs.declared.Refusal.{Refusal}
use Rattle.model.specs.declared.Outcome.{Outcome}
use Rattle.model.specs.declared.Outcome.TheVariants.{Done}
use Rattle.model.specs.State.{State, Shelf, is_queued}
use Rattle.model.specs.Refusals.{refuse_server, unless_found, Told}
use Rattle.model.specs.Sending.{gone, sent}
use Rattle.model.specs.Turns.{refuse_turn, chosen_group, has_entry_of, counted, forwards_or_starts, turns, forwards_prewrite, forwards_write, group_waits, counts_before}
use Rattle.model.specs.Deliveries.{ends_at, took, took_and_returned, keeps_prewrite, keeps_write, hears_prewrite, hears_write, delivered, HandsOut, Delivers}
use Rattle.model.specs.Questions.{amounts}
use Rattle.model.specs.Steps.{Step}
use Rattle.model.specs.Runs.{Run, last}
use Rattle.model.specs.Draining.{drain_bound, AllNoticed, accepted, moves, Drives, moved, WindsDown}
use Rattle.messages.specs.Phases.{phase_number}
use Rattle.servers.specs.Sets.{one}
use Rattle.model.proofs.Events.{phase_one_two, waits_some}
use Rattle.model.proofs.Refusals.{server_passed}
use Rattle.model.proofs.Inv.{Inv}
use Rattle.model.proofs.AlongRuns.{inv_at}
use Rattle.counting.proofs.Searches.{least_passes}
use Rattle.drained.proofs.CrashedHaveNothing.{crashed_idle_at}
use Rattle.drained.proofs.LoadIsBounded.{load_of, load_is_bounded}
use Rattle.drained.proofs.LoadFalls.{turn_lowers_load, prewrite_lowers_load, write_lowers_load}
use Rattle.drained.proofs.DrainedHasNothing.{waits_for_a_started_write}

-- the ring and what was noticed stay
record RingStays (s t : State) : Type 0 where
  size : t.size ≡ s.size
  standing : t.servers.standing ≡ s.servers.standing
  noticed : t.servers.noticed ≡ s.servers.noticed

-- where nothing happens
ring_is_itself : (s : State) → RingStays s s
ring_is_itself s = record { size = refl; standing = refl; noticed = refl }

-- from s to t, and on to v
ring_stays_twice : (s t v : State) → RingStays s t → RingStays t v → RingStays s v
ring_stays_twice s t v a b = record { size = b.size ∙ a.size; standing = b.standing ∙ a.standing; noticed = b.noticed ∙ a.noticed }

-- a turn and a delivery leave the ring: who stands and what was noticed
turn_leaves_ring : (s : State) (p j : ℕ) (a b : Option ℕ) → RingStays s (forwards_or_starts (counted s p j) p a b)
turn_leaves_ring s p j (Some r) b = go (ltb 0 (s.servers.forward_write p r))
  where
    go : (c : Bool) → RingStays s (cond c (forwards_write (counted s p j) p r) (forwards_prewrite (counted s p j) p r))
    go true = record { size = refl; standing = refl; noticed = refl }
    go false = record { size = refl; standing = refl; noticed = refl }
turn_leaves_ring s p j None (Some r) = record { size = refl; standing = refl; noticed = refl }
turn_leaves_ring s p j None None = record { size = refl; standing = refl; noticed = refl }

-- of a message of either phase, whether it ends or is kept
delivery_leaves_ring : (s : State) (p r f : ℕ) → RingStays s (delivered s p r f)
delivery_leaves_ring s p r f = go (eqb f 1)
  where
    of_a_prewrite : (b : Bool) → RingStays s (cond b (sent (took (gone s p r f) p r) p r 2 (one p)) (keeps_prewrite (gone s p r f) p r (s.waiting p r f)))
    of_a_prewrite true = record { size = refl; standing = refl; noticed = refl }
    of_a_prewrite false = record { size = refl; standing = refl; noticed = refl }

    of_a_write : (b : Bool) → RingStays s (cond b (took_and_returned (gone s p r f) p r) (keeps_write (took_and_returned (gone s p r f) p r) p r (s.waiting p r f)))
    of_a_write true = record { size = refl; standing = refl; noticed = refl }
    of_a_write false = record { size = refl; standing = refl; noticed = refl }

    go : (b : Bool) → RingStays s (cond b (hears_prewrite (gone s p r f) p r (s.waiting p r f)) (hears_write (gone s p r f) p r (s.waiting p r f)))
    go true = of_a_prewrite (ends_at (gone s p r f) p r (s.waiting p r f))
    go false = of_a_write (ends_at (gone s p r f) p r (s.waiting p r f))

-- where the ring stays, all is noticed still
noticed_still : (s t : State) → RingStays s t → AllNoticed s → AllNoticed t
noticed_still s t e h p x lp lx u d =
    let a = h p x (subst (λ k. p < k) e.size lp) (subst (λ k. x < k) e.size lx) (sym (ap (λ (f : ℕ → Bool). f p) e.standing) ∙ u) (sym (ap (λ (f : ℕ → Bool). f x) e.standing) ∙ d) in
    ap (λ (f : ℕ → ℕ → Bool). f p x) e.noticed ∙ a

-- what a turn, a delivery or a pick does: the ring stays, the load falls if it is accepted, and then some server stands
record Driven (s t : State) (c : ℕ) : Type 0 where
  same : RingStays s t
  falls : c + load_of t ≤ load_of s
  someone : 0 < c → (p : ℕ) × (p < s.size) × (s.servers.standing p ≡ true)

-- the sums of a bound are done over plain numbers
one_less : (a b : ℕ) → a < b → 1 + a ≤ b
one_less a b h = omega arith

first_part : (a b x : ℕ) → a + b ≤ x → a ≤ x
first_part a b x h = omega arith

falls_add_up : (a b x y z : ℕ) → a + y ≤ x → b + z ≤ y → a + b + z ≤ x
falls_add_up a b x y z h g = omega arith

-- a call that is refused, or a pick
nothing_driven : (s : State) → Driven s s 0
nothing_driven s = record { same = ring_is_itself s; falls = omega arith; someone = λ l. absurd (omega arith) }

-- one after the other
driven_twice : (s t v : State) (a b : ℕ) → Driven s t a → Driven t v b → Driven s v (a + b)
driven_twice s t v a b x y = record {
  same = ring_stays_twice s t v x.same y.same;
  falls = falls_add_up a b _ _ _ x.falls y.falls;
  someone = λ l. ⊎_elim
      (λ (z : a ≡ 0).
      let w = y.someone (omega arith) in
      let e = x.same in
      (w.0, subst (λ k. w.0 < k) e.size w.1, sym (ap (λ (f : ℕ → Bool). f w.0) e.standing) ∙ w.2))
      (λ nz. x.someone (omega arith))
      (cases_eq a 0);
}

-- an accepted turn
turn_driven : (s : State) (p j : ℕ) → Inv s → AllNoticed s → p < s.size → s.servers.standing p ≡ true → group_waits s p j ≡ true → Driven s (turns s p (Some j)) 1
turn_driven s p j i h lp u g = record {
  same = turn_leaves_ring s p j (least (has_entry_of s p j) s.journal.tag 256) (least (is_queued s.journal p) (λ k. k) 256);
  falls = one_less _ _ (turn_lowers_load s i h p lp u j g);
  someone = λ l. (p, lp, u);
}

-- an accepted delivery
deliver_driven : (s : State) (p r f : ℕ) → Inv s → AllNoticed s → p < s.size → s.servers.standing p ≡ true → (f ≡ 1) ⊎ (f ≡ 2) → 0 < s.waiting p r f → Driven s (delivered s p r f) 1
deliver_driven s p r f i h lp u ph w = record {
  same = delivery_leaves_ring s p r f;
  falls = go ph;
  someone = λ l. (p, lp, u);
}
  where
    lr : r < 256
    lr = let a = i.base.tag_used r (i.names.waiting p r f w) in let b = i.base.room in omega arith

    go : (f ≡ 1) ⊎ (f ≡ 2) → 1 + load_of (delivered s p r f) ≤ load_of s
    go (inl e) = rw e (one_less _ _ (prewrite_lowers_load s i h p lp u r lr (rw e at w)))
    go (inr e) = rw e (one_less _ _ (write_lowers_load s i h p lp u r lr (rw e at w)))

-- an accepted turn serves a group that waits
record Turning (s : State) (p : ℕ) : Type 0 where
  low : p < s.size
  standing : s.servers.standing p ≡ true
  serves : ℕ
  is : chosen_group s p ≡ Some serves
  waits : group_waits s p serves ≡ true

-- what is not refused for want of it was found
found : (e : Refusal) (o : Option ℕ) → unless_found e o ≡ None → (r : ℕ) × (o ≡ Some r)
found e (Some r) h = (r, refl)
found e None h = absurd (let z : ◌≡◌ {A = ℕ} 0 1 = cc in omega arith)

-- what an accepted turn says
turn_is : (s : State) (p : ℕ) → refuse_turn s p ≡ None → Turning s p
turn_is s p h =
    let a = server_passed s p _ h in
    let b = found _ (chosen_group s p) a.2 in
    record { low = a.0; standing = a.1; serves = b.0; is = b.1; waits = (least_passes (group_waits s p) (counts_before s.servers p) 8 b.0 b.1).1 }

-- a turn, refused or accepted
told_turn_driven : (o : Option Refusal) (s : State) (p : ℕ) (out : Outcome) (after : State) → refuse_turn s p ≡ o → Told o s Done (turns s p (chosen_group s p)) out after
    → Inv s → AllNoticed s → Driven s after (accepted out)
told_turn_driven (Some e) s p out after q h i c = rw (h.1, h.0) (nothing_driven s)
told_turn_driven None s p out after q h i c = let w = turn_is s p q in rw (h.1, h.0, w.is) (turn_driven s p w.serves i c w.low w.standing w.waits)

-- a message is handed out: in a run it is not stray, so it is delivered
handed_out_driven : (s : State) (p : ℕ) (out : Outcome) (after : State) → p < s.size → s.servers.standing p ≡ true → HandsOut s p out after → Inv s → AllNoticed s → Driven s after (accepted out)
handed_out_driven s p out after lp u w i c =
    let r = w.message.row.0 in
    let f = phase_number w.message.phase in
    let some = waits_some s.waiting p w.message w.waits in
    let e = waits_for_a_started_write s p r f some i in
    let h = rw e at w.leaves in
    let g = rw e at w.told in
    rw (h, g) (deliver_driven s p r f i c lp u (phase_one_two w.message.phase) some)

-- a delivery, refused or accepted
delivers_driven : (o : Option Refusal) (s : State) (p : ℕ) (out : Outcome) (after : State) → refuse_server s p None ≡ o → Delivers o s p out after
    → Inv s → AllNoticed s → Driven s after (accepted out)
delivers_driven (Some e) s p out after q h i c = rw (h.1, h.0) (nothing_driven s)
delivers_driven None s p out after q (inl h) i c = rw (h.2, h.1) (nothing_driven s)
delivers_driven None s p out after q (inr w) i c = let a = server_passed s p None q in handed_out_driven s p out after a.0 a.1 w i c

module _ {V : Type 0} where
  -- each call that drives the shelf
  step_driven : (s : Shelf V) (c : Call V) (out : Outcome) (t : Shelf V) → Step s c out t → Drives c → Inv s.state → AllNoticed s.state → Driven s.state t.state (moves c out)
  step_driven s (Write c p v) out t h d i n = absurd d
  step_driven s (Read c p) out t h d i n = absurd d
  step_driven s (GiveUp c) out t h d i n = absurd d
  step_driven s (Turn p) out t h d i n = told_turn_driven _ s.state p out t.state refl h.0 i n
  step_driven s (Deliver p) out t h d i n = delivers_driven _ s.state p out t.state refl h.0 i n
  step_driven s (Crash p) out t h d i n = absurd d
  step_driven s (Notice p x) out t h d i n = absurd d
  step_driven s (Pick k) out t h d i n = rw h.1 (nothing_driven s.state)

  module _ (run : Run V) (k : ℕ) (w : WindsDown run k) where
    -- 1 for each turn or delivery accepted in call k + i
    abbrev counts : ℕ → ℕ
    counts i = moves (run.call (k + i)) (run.outcome (k + i))

    -- the calls from k on, together
    driven_from : (j : ℕ) → k + j ≤ run.length → Driven (run.at k).state (run.at (k + j)).state (sum counts j)
    driven_from zero l = let e : k + 0 ≡ k = omega arith in rw (e, sum_none counts) (nothing_driven (run.at k).state)
    driven_from (suc j) l =
        let e : k + suc j ≡ suc (k + j) = omega arith in
        let before = driven_from j (omega arith) in
        let now = step_driven (run.at (k + j)) (run.call (k + j)) (run.outcome (k + j)) (run.at (suc (k + j))) (run.steps (k + j) (omega arith)) (w.drives (k + j) (omega arith) (omega arith)) (inv_at run (k + j) (omega arith))
        (noticed_still _ _ before.same w.noticed) in
        rw (e, sum_suc counts j) (driven_twice _ _ _ _ _ before now)

    -- and every standing server has noticed every crash, to the end
    pub noticed_to_the_end : AllNoticed (last run).state
    noticed_to_the_end =
        let l = w.within in
        let e : k + (run.length - k) ≡ run.length = omega arith in
        noticed_still _ _ (rw e at (driven_from (run.length - k) (omega arith)).same) w.noticed

    -- no more are accepted than the load was at first
    pub drains_soon : moved run k ≤ drain_bound (amounts (run.at k).state)
    drains_soon =
        let l = w.within in
        let d = driven_from (run.length - k) (omega arith) in
        ⊎_elim
        (λ (z : moved run k ≡ 0). rw z (omega arith))
        (λ nz. let p = d.someone (omega arith) in let a = load_is_bounded (run.at k).state (inv_at run k l) (crashed_idle_at run k l) p.0 p.1 p.2 in le_trans (first_part _ _ _ d.falls) a)
        (cases_eq (moved run k) 0)
