-- What holds of pre-writes under way: no row is pending unless its pre-write is under way, a server with the row pending is cut off, or a standing server holds no less.
-- Said over plain functions, one for each thing that the servers keep, so that what a call leaves alone needs no proof; one lemma for each kind of change.
use Rattle.std.proofs.Common.{◌≡◌, ℕ, ◌<◌, Bool, true, cond, ◌&&◌, eqb, ltb, leb, sym, subst, ⊎_elim, arith}
use mathlib.Core.Path.{fun_ext}
use Rattle.std.proofs.lemmas.Bool.Decides.{nat_tests}
use Rattle.std.proofs.lemmas.Bool.{cases_eq}
use Rattle.servers.specs.Sets.{join, one}
use Rattle.servers.proofs.Members.{sets}
use Rattle.drained.proofs.SharedChanges.{below_more, empty_before, posted, posted_keeps, posted_waits, taken, kept, kept_keeps, released, others_released_no, held_after, holds_no_less, tag_after, other_tags_stay, standing_after, cleared, stood_before, others_stay}

-- next p: the next of p (p is cut off if that has crashed); waiting p r: the mask of the pre-write of row r that waits for p
pub record Prewrites (tag : ℕ → ℕ) (standing : ℕ → Bool) (held next : ℕ → ℕ) (pending forward_prewrite waiting : ℕ → ℕ → ℕ) : Type 0 where
  -- a row pending at a server is pending at its next, or under way there, or the next holds no less
  pub onward : (y k : ℕ) → standing y ≡ true → 0 < pending y k → standing (next y) ≡ true → tag (held (next y)) < tag k → waiting (next y) k ≡ 0 → forward_prewrite (next y) k ≡ 0 → 0 < pending (next y) k
  -- where no pre-write of the row is under way, nobody with the row pending is cut off and all hold less, it is pending nowhere
  pub live : (y k : ℕ) → standing y ≡ true → 0 < pending y k → ((x : ℕ) → waiting x k ≡ 0) → ((x : ℕ) → forward_prewrite x k ≡ 0)
      → ((x : ℕ) → standing x ≡ true → 0 < pending x k → standing (next x) ≡ true) → ((x : ℕ) → standing x ≡ true → tag (held x) < tag k) → ⊥

module _ {tag : ℕ → ℕ} {standing : ℕ → Bool} {held next : ℕ → ℕ} {pending forward_prewrite waiting : ℕ → ℕ → ℕ} (i : Prewrites tag standing held next pending forward_prewrite waiting) where
  -- the same pre-writes wait
  pub same_prewrites : (other : ℕ → ℕ → ℕ) → ((p r : ℕ) → other p r ≡ waiting p r) → Prewrites tag standing held next pending forward_prewrite other
  same_prewrites other same = subst (λ w. Prewrites tag standing held next pending forward_prewrite w) (fun_ext (λ p. fun_ext (λ r. sym (same p r)))) i

  -- a pre-write of row r comes to p, and is to be forwarded
  module _ (p r : ℕ) where
    -- the pre-writes to forward then
    abbrev forwards : ℕ → ℕ → ℕ
    forwards = kept forward_prewrite p r (waiting p r)

    -- what waits no longer is to be forwarded
    kept_if_not_waiting : (x k : ℕ) → taken waiting p r true x k ≡ 0 → forwards x k ≡ 0 → waiting x k ≡ 0
    kept_if_not_waiting x k a b = grind (arith, nat_tests, sets)

    -- what is not to be forwarded now was not before
    none_before : (x k : ℕ) → forwards x k ≡ 0 → forward_prewrite x k ≡ 0
    none_before x k = empty_before (kept_keeps forward_prewrite p r (waiting p r) x k)

    -- a row under way on the wiring is under way at its server
    pub keeping_keeps_prewrites : Prewrites tag standing held next pending forwards (taken waiting p r true)
    keeping_keeps_prewrites = record {
      onward = λ y k v h w l a b. i.onward y k v h w l (kept_if_not_waiting (next y) k a b) (none_before (next y) k b);
      live = λ y k v h a b c d. i.live y k v h (λ x. kept_if_not_waiting x k (a x) (b x)) (λ x. none_before x k (b x)) c d;
    }

  -- p takes row r; pending entries with tags not above it go, and so does the pre-write of row r if that has come to p
  module _ (p r : ℕ) (u : standing p ≡ true) (came : Bool) where
    -- what the servers hold then
    abbrev holds : ℕ → ℕ
    holds = held_after tag held p r

    -- the masks that are pending then
    abbrev pends : ℕ → ℕ → ℕ
    pends x k = cond (ltb (tag (held p)) (tag r) && (eqb x p && leb (tag k) (tag r))) 0 (pending x k)

    -- the pre-writes that wait then
    abbrev waits : ℕ → ℕ → ℕ
    waits = taken waiting p r came

    -- no row becomes pending
    was_pending : (x k : ℕ) → 0 < pends x k → 0 < pending x k
    was_pending x k h = grind (arith, nat_tests)

    -- a row above what the server holds is pending still
    still_pending : (x k : ℕ) → tag (holds x) < tag k → 0 < pending x k → 0 < pends x k
    still_pending x k l h = grind (arith, nat_tests)

    -- a pre-write of a row above what the server holds waits still
    above_waits_still : (x k : ℕ) → tag (holds x) < tag k → waits x k ≡ 0 → waiting x k ≡ 0
    above_waits_still x k l h = grind (arith, nat_tests)

    -- and so do all pre-writes for others
    elsewhere_waits_still : (x k : ℕ) → (x ≡ p → ⊥) → waits x k ≡ 0 → waiting x k ≡ 0
    elsewhere_waits_still x k ne h = grind (arith, nat_tests)

    -- what goes has a tag not above the row that p holds then
    pub taking_keeps_prewrites : Prewrites tag standing holds next pends forward_prewrite waits
    taking_keeps_prewrites =
        let less = λ (x k : ℕ) (l : tag (holds x) < tag k). below_more (holds_no_less tag held p r x) l in
        record {
          onward = λ y k v h w l a b. still_pending (next y) k l (i.onward y k v (was_pending y k h) w (less (next y) k l) (above_waits_still (next y) k l a) b);
          live = λ y k v h a b c d. i.live y k v (was_pending y k h)
              (λ x. ⊎_elim (λ (e : x ≡ p). above_waits_still x k (rw e (d p u)) (a x)) (λ ne. elsewhere_waits_still x k ne (a x)) (cases_eq x p))
              b
              (λ x w g. c x w (still_pending x k (d x w) g))
              (λ x w. less x k (d x w));
        }

  -- p forwards its pre-write of row r, with mask m, to its next; the row is pending at p if it is above what p holds
  module _ (p r m : ℕ) (u : standing p ≡ true) (some : 0 < m) where
    -- the masks that are pending then
    abbrev pends_sent : ℕ → ℕ → ℕ
    pends_sent x k = cond (ltb (tag (held p)) (tag r) && (eqb x p && eqb k r)) (join (pending x k) m) (pending x k)

    -- the pre-writes that wait then
    abbrev waits_sent : ℕ → ℕ → ℕ
    waits_sent = posted standing waiting (next p) r m

    -- what does not wait now did not wait before
    not_waiting_before : (x k : ℕ) → waits_sent x k ≡ 0 → waiting x k ≡ 0
    not_waiting_before x k = empty_before (posted_keeps standing waiting (next p) r m x k)

    -- the pre-write waits for the next if that stands
    sent_waits : standing (next p) ≡ true → waits_sent (next p) r ≡ 0 → ⊥
    sent_waits w z = let a = posted_waits standing waiting (next p) r m w some in omega arith

    -- what was pending is pending still
    pending_still : (x k : ℕ) → 0 < pending x k → 0 < pends_sent x k
    pending_still x k h = grind (arith, nat_tests, sets)

    -- the row is pending at p if it is above what p holds
    pending_here : tag (held p) < tag r → 0 < pends_sent p r
    pending_here l = grind (arith, nat_tests, sets)

    -- nothing else becomes pending
    pending_before : (x k : ℕ) → (x ≡ p → k ≡ r → ⊥) → 0 < pends_sent x k → 0 < pending x k
    pending_before x k ne h = grind (arith, nat_tests)

    -- a row pending at a server is pending at its next, or under way there
    forwarding_onward : (y k : ℕ) → standing y ≡ true → 0 < pends_sent y k → standing (next y) ≡ true → tag (held (next y)) < tag k → waits_sent (next y) k ≡ 0 → released forward_prewrite p r (next y) k ≡ 0 → 0 < pends_sent (next y) k
    forwarding_onward y k v h w l a b =
        let not_p_and_r = λ (was : 0 < pending y k) (ne : next y ≡ p → k ≡ r → ⊥). pending_still (next y) k (i.onward y k v was w l (not_waiting_before (next y) k a) (others_released_no forward_prewrite p r (next y) k ne b)) in
        let old = λ (was : 0 < pending y k). ⊎_elim
        (λ (d : k ≡ r). ⊎_elim
        (λ (e : next y ≡ p). let l2 : tag (held p) < tag r = rw (e, d) at l in rw (e, d) (pending_here l2))
        (λ (ne : next y ≡ p → ⊥). not_p_and_r was (λ e _. ne e))
        (cases_eq (next y) p))
        (λ (nd : k ≡ r → ⊥). not_p_and_r was (λ _ d. nd d))
        (cases_eq k r) in
        ⊎_elim
        (λ (d : k ≡ r). ⊎_elim
        (λ (e : y ≡ p).
        let w2 : standing (next p) ≡ true = rw e at w in
        let a2 : waits_sent (next p) r ≡ 0 = rw (e, d) at a in
        absurd (sent_waits w2 a2))
        (λ (ne : y ≡ p → ⊥). old (pending_before y k (λ e _. ne e) h))
        (cases_eq y p))
        (λ (nd : k ≡ r → ⊥). old (pending_before y k (λ _ d. nd d) h))
        (cases_eq k r)

    -- the pre-write has gone from p to its next, and p has the row pending
    pub forwarding_keeps_prewrites : Prewrites tag standing held next pends_sent (released forward_prewrite p r) waits_sent
    forwarding_keeps_prewrites = record {
      onward = forwarding_onward;
      live = λ y k v h a b c d. ⊎_elim
          (λ (e : k ≡ r).
          let l : tag (held p) < tag r = rw e at (d p u) in
          let z : waits_sent (next p) r ≡ 0 = rw e at (a (next p)) in
          sent_waits (c p u (rw e (pending_here l))) z)
          (λ (ne : k ≡ r → ⊥). i.live y k v (pending_before y k (λ _ f. ne f) h) (λ x. not_waiting_before x k (a x)) (λ x. others_released_no forward_prewrite p r x k (λ _ f. ne f) (b x)) (λ x w g. c x w (pending_still x k g)) d)
          (cases_eq k r);
    }

  -- a row that is pending nowhere and that nobody holds gets a tag, and is pending at p; p sends its pre-write to its next
  module _ (p r t : ℕ) (u : standing p ≡ true) (none_pending : (x : ℕ) → pending x r ≡ 0) (not_held : (x : ℕ) → held x ≡ r → ⊥) where
    -- the masks that are pending then
    abbrev pends_started : ℕ → ℕ → ℕ
    pends_started x k = cond (eqb x p && eqb k r) (one p) (pending x k)

    -- the pre-writes that wait then
    abbrev waits_started : ℕ → ℕ → ℕ
    waits_started = posted standing waiting (next p) r (one p)

    -- the pre-write waits for the next if that stands
    started_waits : standing (next p) ≡ true → waits_started (next p) r ≡ 0 → ⊥
    started_waits w z = let a = posted_waits standing waiting (next p) r (one p) w (grind (arith, nat_tests, sets)) in omega arith

    -- the row is pending at p
    started_pending : 0 < pends_started p r
    started_pending = grind (arith, nat_tests, sets)

    -- and nowhere else
    pending_only_here : (y : ℕ) → 0 < pends_started y r → y ≡ p
    pending_only_here y h = let a = none_pending y in grind (arith, nat_tests)

    -- nothing else changes what is pending
    others_pending_stay : (x k : ℕ) → (k ≡ r → ⊥) → pends_started x k ≡ pending x k
    others_pending_stay x k ne = grind (arith, nat_tests)

    -- the new row is pending at p, and under way to the next of p
    pub starting_keeps_prewrites : Prewrites (tag_after tag r t) standing held next pends_started forward_prewrite waits_started
    starting_keeps_prewrites =
        let tag_kept = other_tags_stay tag r t in
        let not_before = λ (x k : ℕ) (z : waits_started x k ≡ 0). empty_before (posted_keeps standing waiting (next p) r (one p) x k) z in
        record {
          onward = λ y k v h w l a b. ⊎_elim
              (λ (e : k ≡ r).
              let d : y ≡ p = pending_only_here y (rw e at h) in
              let w2 : standing (next p) ≡ true = rw d at w in
              let a2 : waits_started (next p) r ≡ 0 = rw (d, e) at a in
              absurd (started_waits w2 a2))
              (λ (ne : k ≡ r → ⊥).
              rw (others_pending_stay (next y) k ne) (i.onward y k v (rw (others_pending_stay y k ne) at h) w (rw (tag_kept k ne, tag_kept (held (next y)) (not_held (next y))) at l) (not_before (next y) k a) b))
              (cases_eq k r);
          live = λ y k v h a b c d. ⊎_elim
              (λ (e : k ≡ r).
              let z : waits_started (next p) r ≡ 0 = rw e at (a (next p)) in
              started_waits (c p u (rw e started_pending)) z)
              (λ (ne : k ≡ r → ⊥). i.live y k v (rw (others_pending_stay y k ne) at h) (λ x. not_before x k (a x)) b
              (λ x w g. c x w (rw (others_pending_stay x k ne) g))
              (λ x w. rw (tag_kept k ne, tag_kept (held x) (not_held x)) at (d x w)))
              (cases_eq k r);
        }

  -- c crashes, and nothing can be handed on round the circle for ever: someone is cut off
  module _ (c : ℕ) (falls : (k : ℕ) → ((y : ℕ) → standing_after c standing y ≡ true → 0 < cleared c pending y k → (standing_after c standing (next y) ≡ true) × (0 < cleared c pending (next y) k)) → (a : ℕ) → standing_after c standing a ≡ true → 0 < cleared c pending a k → ⊥) where
    -- who stands then
    abbrev stands : ℕ → Bool
    stands = standing_after c standing

    -- what others hand on to a next that stands is as it was
    crash_onward : (y k : ℕ) → stands y ≡ true → 0 < cleared c pending y k → stands (next y) ≡ true → tag (held (next y)) < tag k → cleared c waiting (next y) k ≡ 0 → cleared c forward_prewrite (next y) k ≡ 0 → 0 < cleared c pending (next y) k
    crash_onward y k v h w l a b =
        let s = stood_before c standing y v in
        let z = stood_before c standing (next y) w in
        let ne = z.1 in
        rw (others_stay c pending (next y) k ne) (i.onward y k s.0 (rw (others_stay c pending y k s.1) at h) z.0 l (rw (others_stay c waiting (next y) k ne) at a) (rw (others_stay c forward_prewrite (next y) k ne) at b))

    -- a pending row that is not under way would be handed on for ever
    pub crashing_keeps_prewrites : Prewrites tag stands held next (cleared c pending) (cleared c forward_prewrite) (cleared c waiting)
    crashing_keeps_prewrites = record {
      onward = crash_onward;
      live = λ y k v h a b s d. falls k (λ x w g. let z = s x w g in (z, crash_onward x k w g z (d (next x) z) (a (next x)) (b (next x)))) y v h;
    }

  -- a crash is noticed, and all keep their next
  pub noticing_keeps_prewrites : (next_then : ℕ → ℕ) → ((y : ℕ) → next y ≡ next_then y) → Prewrites tag standing held next_then pending forward_prewrite waiting
  noticing_keeps_prewrites next_then same = subst (λ f. Prewrites tag standing held f pending forward_prewrite waiting) (fun_ext same) i

  -- p, whose next has crashed, gets another next, and sends it a pre-write of each row pending at p
  module _ (p : ℕ) (u : standing p ≡ true) (next_then : ℕ → ℕ) (same : (y : ℕ) → (y ≡ p → ⊥) → next y ≡ next_then y) (low : (k : ℕ) → 0 < pending p k → k < 256) where
    -- the pre-writes that wait then
    abbrev resent : ℕ → ℕ → ℕ
    resent x k = cond (standing (next_then p) && (eqb x (next_then p) && (true && ltb k 256))) (join (waiting x k) (pending p k)) (waiting x k)

    -- what waited waits still
    resent_keeps : (x k : ℕ) → 0 < waiting x k → 0 < resent x k
    resent_keeps x k h = grind (arith, nat_tests, sets)

    -- each row pending at p waits for the new next if that stands
    resent_waits : (k : ℕ) → standing (next_then p) ≡ true → 0 < pending p k → 0 < resent (next_then p) k
    resent_waits k v h = let l = low k h in grind (arith, nat_tests, sets)

    -- p is no longer cut off, and what is pending at p is under way to its next
    pub turning_on_keeps_prewrites : Prewrites tag standing held next_then pending forward_prewrite resent
    turning_on_keeps_prewrites = record {
      onward = λ y k v h w l a b. ⊎_elim
          (λ (e : y ≡ p).
          let w2 : standing (next_then p) ≡ true = rw e at w in
          let h2 : 0 < pending p k = rw e at h in
          let a2 : resent (next_then p) k ≡ 0 = rw e at a in
          absurd (let z = resent_waits k w2 h2 in omega arith))
          (λ (ne : y ≡ p → ⊥).
          let e = same y ne in
          rw (← e) (i.onward y k v h (rw (← e) at w) (rw (← e) at l) (rw (← e) at (empty_before (resent_keeps (next_then y) k) a)) (rw (← e) at b)))
          (cases_eq y p);
      live = λ y k v h a b c d. i.live y k v h (λ x. empty_before (resent_keeps x k) (a x)) b
          (λ x w g. ⊎_elim
          (λ (e : x ≡ p).
          let g2 : 0 < pending p k = rw e at g in
          let z = resent_waits k (c p u g2) g2 in
          let f = a (next_then p) in
          absurd (omega arith))
          (λ (ne : x ≡ p → ⊥). rw (same x ne) (c x w g))
          (cases_eq x p))
          d;
    }
