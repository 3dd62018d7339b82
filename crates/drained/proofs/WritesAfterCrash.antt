-- What holds of writes under way is kept when a server crashes and when a crash is noticed.
-- After a crash some standing server is cut off, since a held tag cannot be handed on round the circle for ever; who notices that its next has crashed sends its held row again.
use Rattle.std.proofs.Common.{◌≡◌, ℕ, ◌<◌, ◌≤◌, Bool, true, cond, eqb, ◌⊎◌, ap, subst, ⊎_elim, le_trans, arith}
use mathlib.Core.Path.{fun_ext}
use Rattle.std.proofs.lemmas.Bool.Decides.{nat_tests}
use Rattle.std.proofs.lemmas.Bool.{cases_eq, cases_lt}
use Rattle.servers.specs.Sets.{has, one}
use Rattle.servers.proofs.Members.{sets, has_only, has_none}
use Rattle.drained.proofs.SharedChanges.{posted, posted_keeps, posted_waits, in_posted, standing_after, cleared, stood_before, was_there, in_cleared, others_stay}
use Rattle.drained.proofs.WritesUnderWay.{HasTaken, Writes}

module _ {tag : ℕ → ℕ} {standing : ℕ → Bool} {held returned next : ℕ → ℕ} {stand_in : ℕ → ℕ → Bool} {forward_write waiting : ℕ → ℕ → ℕ} (i : Writes tag standing held returned next stand_in forward_write waiting) where
  -- c crashes, and nothing can be handed on round the circle for ever: someone is cut off
  module _ (c : ℕ) (falls : (h : ℕ) → ((y : ℕ) → standing_after c standing y ≡ true → h ≤ tag (held y) → (standing_after c standing (next y) ≡ true) × (h ≤ tag (held (next y)))) → (a : ℕ) → standing_after c standing a ≡ true → h ≤ tag (held a) → ⊥) where
    -- who stands then
    abbrev stands : ℕ → Bool
    stands = standing_after c standing

    -- what others hand on to a next that stands is as it was
    crash_onward : (y : ℕ) → stands y ≡ true → stands (next y) ≡ true → tag (held (next y)) < tag (held y) → ((k : ℕ) → 0 < cleared c waiting (next y) k → tag k < tag (held y)) → 0 < cleared c forward_write y (held y)
    crash_onward y v w l none =
        let a = stood_before c standing y v in
        let b = stood_before c standing (next y) w in
        rw (others_stay c forward_write y (held y) a.1) (i.onward y a.0 b.0 l (λ k h. none k (rw (others_stay c waiting (next y) k b.1) h)))

    -- a held tag that is neither returned nor under way would be handed on for ever
    pub crashing_keeps_writes : Writes tag stands held returned next stand_in (cleared c forward_write) (cleared c waiting)
    crashing_keeps_writes = record {
      forwarder_returned = λ x k h. i.forwarder_returned x k (was_there c forward_write x k h);
      returned_below_held = i.returned_below_held;
      in_forwarded_took = λ x k q h v. i.in_forwarded_took x k q (in_cleared c forward_write x k q h) (stood_before c standing q v).0;
      in_waiting_took = λ x k q h v. i.in_waiting_took x k q (in_cleared c waiting x k q h) (stood_before c standing q v).0;
      holder_stands_in = λ x v l. i.holder_stands_in x (stood_before c standing x v).0 l;
      onward = crash_onward;
      live = λ x v no_waiting no_forward no_cut. absurd (falls (tag (held x))
          (λ y w l.
          let s = no_cut y w l in (
            s,
            ⊎_elim
                (λ (lt : tag (held (next y)) < tag (held x)).
                let a = crash_onward y w s (le_trans lt l) (λ k h. le_trans (no_waiting (next y) k h) l) in
                let b = no_forward y (held y) a in
                absurd (omega arith))
                (λ (ge : tag (held x) ≤ tag (held (next y))). ge)
                (cases_lt (tag (held (next y))) (tag (held x))),
          ))
          x v (omega arith));
    }

  -- a crash is noticed, by which a stand-in stays one
  module _ (next_then : ℕ → ℕ) (stand_in_then : ℕ → ℕ → Bool) (grows : (q o : ℕ) → stand_in q o ≡ true → stand_in_then q o ≡ true) where
    -- who has taken a row has taken it still
    taken_then : {r q : ℕ} → HasTaken tag held returned stand_in r q → HasTaken tag held returned stand_in_then r q
    taken_then {r} {q} h = record { holds = h.holds; or_stands_in = λ l. grows q _ (h.or_stands_in l) }

    -- all keep their next
    pub noticing_keeps_writes : ((y : ℕ) → next y ≡ next_then y) → Writes tag standing held returned next_then stand_in_then forward_write waiting
    noticing_keeps_writes same = subst (λ f. Writes tag standing held returned f stand_in_then forward_write waiting) (fun_ext same) record {
      forwarder_returned = i.forwarder_returned;
      returned_below_held = i.returned_below_held;
      in_forwarded_took = λ x k q h v. taken_then (i.in_forwarded_took x k q h v);
      in_waiting_took = λ x k q h v. taken_then (i.in_waiting_took x k q h v);
      holder_stands_in = λ x v l. grows x _ (i.holder_stands_in x v l);
      onward = i.onward;
      live = i.live;
    }

    -- p, whose next has crashed, gets another next, and sends it a write of its held row unless that is row 0
    module _ (p : ℕ) (u : standing p ≡ true) (same : (y : ℕ) → (y ≡ p → ⊥) → next y ≡ next_then y) (zero_tag : tag 0 ≡ 0) where
      -- the mask of that write
      abbrev mask : ℕ
      mask = cond (eqb (held p) 0) 0 (one p)

      -- what waits then
      abbrev resent : ℕ → ℕ → ℕ
      resent = posted standing waiting (next_then p) (held p) mask

      resent_keeps : (x k : ℕ) → 0 < waiting x k → 0 < resent x k
      resent_keeps = posted_keeps standing waiting (next_then p) (held p) mask

      in_resent : (x k q : ℕ) → has (resent x k) q ≡ true → (has (waiting x k) q ≡ true) ⊎ ((k ≡ held p) × (q ≡ p))
      in_resent x k q h = let a = in_posted standing waiting (next_then p) (held p) mask x k q h in let c = has_only p q in let d = has_none q in grind (arith, nat_tests)

      resent_waits : standing (next_then p) ≡ true → 0 < tag (held p) → 0 < resent (next_then p) (held p)
      resent_waits v l =
          let ne : held p ≡ 0 → ⊥ = (λ e. let a = ap tag e in omega arith) in
          let some : 0 < mask = grind (arith, nat_tests, sets) in
          posted_waits standing waiting (next_then p) (held p) mask v some

      -- p itself has taken its held row
      own_row_taken : HasTaken tag held returned stand_in_then (held p) p
      own_row_taken = record { holds = omega arith; or_stands_in = λ l. grows p _ (i.holder_stands_in p u l) }

      pub turning_on_keeps_writes : Writes tag standing held returned next_then stand_in_then forward_write resent
      turning_on_keeps_writes = record {
        forwarder_returned = i.forwarder_returned;
        returned_below_held = i.returned_below_held;
        in_forwarded_took = λ x k q h v. taken_then (i.in_forwarded_took x k q h v);
        in_waiting_took = λ x k q h v. ⊎_elim (λ a. taken_then (i.in_waiting_took x k q a v)) (λ a. rw (a.0, a.1) own_row_taken) (in_resent x k q h);
        holder_stands_in = λ x v l. grows x _ (i.holder_stands_in x v l);
        onward = λ y v w l none. ⊎_elim
            (λ (e : y ≡ p).
            let w2 : standing (next_then p) ≡ true = rw e at w in
            let l2 : tag (held (next_then p)) < tag (held p) = rw e at l in
            let n2 = rw e at (none (held p)) in
            let a = n2 (resent_waits w2 (omega arith)) in
            absurd (omega arith))
            (λ (ne : y ≡ p → ⊥).
            let e = same y ne in
            i.onward y v (rw (← e) at w) (rw (← e) at l) (λ k h. none k (resent_keeps (next_then y) k (rw e at h))))
            (cases_eq y p);
        live = λ x v no_waiting no_forward no_cut. ⊎_elim
            (λ (z : tag (held x) ≡ 0). rw z (omega arith))
            (λ nz. i.live x v
            (λ y k h. no_waiting y k (resent_keeps y k h))
            no_forward
            (λ y w l. ⊎_elim
            (λ (e : y ≡ p).
            let l2 : tag (held x) ≤ tag (held p) = rw e at l in
            let s = no_cut p u l2 in
            let a = no_waiting (next_then p) (held p) (resent_waits s (omega arith)) in
            absurd (omega arith))
            (λ (ne : y ≡ p → ⊥). rw (same y ne) (no_cut y w l))
            (cases_eq y p)))
            (cases_eq (tag (held x)) 0);
      }
