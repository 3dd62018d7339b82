-- What holds of writes under way: every standing server in the mask of a write has taken its row, and a held row's tag is returned unless a write of no less is under way or a server that holds no less is cut off.
-- Said over plain functions, one for each thing that the servers keep, so that what a call leaves alone needs no proof; here for forwarding, ending a pre-write and starting.
use Rattle.std.proofs.Common.{◌≡◌, ℕ, ◌<◌, ◌≤◌, Bool, true, false, ◌&&◌, eqb, ltb, ◌⊎◌, sym, subst, ⊎_elim, le_trans, arith}
use mathlib.Core.Path.{fun_ext}
use Rattle.std.proofs.lemmas.Bool.Decides.{nat_tests}
use Rattle.std.proofs.lemmas.Bool.{cases_Bool}
use Rattle.servers.specs.Sets.{has, join, one}
use Rattle.servers.proofs.Members.{sets, has_join, has_only}
use Rattle.model.specs.State.{tag_server}
use Rattle.drained.proofs.SharedChanges.{below_more, posted, posted_keeps, in_posted, released, in_released, held_after, holds_no_less, holds_the_row, tag_after, other_tags_stay}

-- q has taken row r: it holds the row or one above, and has returned its tag or is stand-in for it
pub record HasTaken (tag held returned : ℕ → ℕ) (stand_in : ℕ → ℕ → Bool) (r q : ℕ) : Type 0 where
  pub holds : tag r ≤ tag (held q)
  pub or_stands_in : returned q < tag r → stand_in q (tag_server (tag r)) ≡ true

-- next p: the next of p (p is cut off if that has crashed); stand_in p o: p is stand-in for o; waiting p r: the mask of the write of row r that waits for p
pub record Writes (tag : ℕ → ℕ) (standing : ℕ → Bool) (held returned next : ℕ → ℕ) (stand_in : ℕ → ℕ → Bool) (forward_write waiting : ℕ → ℕ → ℕ) : Type 0 where
  -- a server that is to forward a write has returned its tag, and no server has returned a tag above its held row's
  pub forwarder_returned : (p r : ℕ) → 0 < forward_write p r → tag r ≤ returned p
  pub returned_below_held : (p : ℕ) → returned p ≤ tag (held p)
  -- every standing server in the mask of a write, to be forwarded or waiting, has taken its row
  pub in_forwarded_took : (p r q : ℕ) → has (forward_write p r) q ≡ true → standing q ≡ true → HasTaken tag held returned stand_in r q
  pub in_waiting_took : (p r q : ℕ) → has (waiting p r) q ≡ true → standing q ≡ true → HasTaken tag held returned stand_in r q
  -- who has not returned the tag of its held row is stand-in for it
  pub holder_stands_in : (p : ℕ) → standing p ≡ true → returned p < tag (held p) → stand_in p (tag_server (tag (held p))) ≡ true
  -- the next holds no less, or a write of no less waits for it, or the held row is to be forwarded
  pub onward : (y : ℕ) → standing y ≡ true → standing (next y) ≡ true → tag (held (next y)) < tag (held y) → ((k : ℕ) → 0 < waiting (next y) k → tag k < tag (held y)) → 0 < forward_write y (held y)
  -- where no write of no less is under way and nobody who holds no less is cut off, the held row's tag is returned
  pub live : (p : ℕ) → standing p ≡ true → ((y k : ℕ) → 0 < waiting y k → tag k < tag (held p)) → ((y k : ℕ) → 0 < forward_write y k → tag k < tag (held p))
      → ((y : ℕ) → standing y ≡ true → tag (held p) ≤ tag (held y) → standing (next y) ≡ true) → tag (held p) ≤ returned p

-- who has taken a row has it still, where it holds and has returned no less
pub has_it_still : {tag held returned : ℕ → ℕ} {stand_in : ℕ → ℕ → Bool} {r q : ℕ} (held_then returned_then : ℕ → ℕ) → tag (held q) ≤ tag (held_then q) → returned q ≤ returned_then q
    → HasTaken tag held returned stand_in r q → HasTaken tag held_then returned_then stand_in r q
has_it_still held_then returned_then holds_more returned_more h = record { holds = le_trans h.holds holds_more; or_stands_in = λ l. h.or_stands_in (below_more returned_more l) }

module _ {tag : ℕ → ℕ} {standing : ℕ → Bool} {held returned next : ℕ → ℕ} {stand_in : ℕ → ℕ → Bool} {forward_write waiting : ℕ → ℕ → ℕ} (i : Writes tag standing held returned next stand_in forward_write waiting) where
  -- the same writes wait
  pub same_writes : (other : ℕ → ℕ → ℕ) → ((p r : ℕ) → other p r ≡ waiting p r) → Writes tag standing held returned next stand_in forward_write other
  same_writes other same = subst (λ w. Writes tag standing held returned next stand_in forward_write w) (fun_ext (λ p. fun_ext (λ r. sym (same p r)))) i

  -- p forwards its write of row r, with itself in the mask, to its next
  module _ (p r : ℕ) (u : standing p ≡ true) (some : 0 < forward_write p r) where
    -- the mask that is sent
    abbrev forwarded : ℕ
    forwarded = join (forward_write p r) (one p)

    -- who is in it was in the mask to forward, or is p
    in_forwarded : (q : ℕ) → has forwarded q ≡ true → (has (forward_write p r) q ≡ true) ⊎ (q ≡ p)
    in_forwarded q h = let a = has_join (forward_write p r) (one p) q in let b = has_only p q in grind (arith, nat_tests)

    -- what y is to forward it still is, unless just that has gone to the next of y
    still_to_forward : (y : ℕ) → standing (next y) ≡ true → 0 < forward_write y (held y)
        → (0 < posted standing waiting (next p) r forwarded (next y) r → tag r < tag (held y)) → 0 < released forward_write p r y (held y)
    still_to_forward y w old new = grind (arith, nat_tests, sets)

    -- the write has gone from p, which has taken its row, to the next of p
    pub forwarding_keeps_writes : Writes tag standing held returned next stand_in (released forward_write p r) (posted standing waiting (next p) r forwarded)
    forwarding_keeps_writes =
        let f = i.forwarder_returned p r some in
        let g = i.returned_below_held p in
        record {
          forwarder_returned = λ x k h. let a = i.forwarder_returned x k in grind (arith, nat_tests);
          returned_below_held = i.returned_below_held;
          in_forwarded_took = λ x k q h v. i.in_forwarded_took x k q (in_released forward_write p r x k q h) v;
          in_waiting_took = λ x k q h v. ⊎_elim
              (λ a. i.in_waiting_took x k q a v)
              (λ a. rw a.0 (⊎_elim (λ b. i.in_forwarded_took p r q b v) (λ (e : q ≡ p). rw e record { holds = omega arith; or_stands_in = λ l. absurd (omega arith) }) (in_forwarded q a.1)))
              (in_posted standing waiting (next p) r forwarded x k q h);
          holder_stands_in = i.holder_stands_in;
          onward = λ y v w l none.
              let old = i.onward y v w l (λ k h. none k (posted_keeps standing waiting (next p) r forwarded (next y) k h)) in
              still_to_forward y w old (none r);
          live = λ x v no_waiting no_forward no_cut. i.live x v
              (λ y k h. no_waiting y k (posted_keeps standing waiting (next p) r forwarded y k h))
              (λ y k h.
              let a = no_waiting (next p) r in
              let b = no_forward y k in
              let c = no_cut p u in
              grind (arith, nat_tests, sets))
              no_cut;
        }

  -- a pre-write of row r ends at p, which is stand-in: p takes the row and sends a write of it, with mask {p}, to its next
  module _ (p r : ℕ) (u : standing p ≡ true) (stands : stand_in p (tag_server (tag r)) ≡ true) where
    -- what the servers hold then
    abbrev holds : ℕ → ℕ
    holds = held_after tag held p r

    -- who is in a mask that waits was in it, or is p
    in_sent : (x k q : ℕ) → has (posted standing waiting (next p) r (one p) x k) q ≡ true → (has (waiting x k) q ≡ true) ⊎ ((k ≡ r) × (q ≡ p))
    in_sent x k q h = let a = in_posted standing waiting (next p) r (one p) x k q h in let b = has_only p q in grind (arith, nat_tests)

    -- what p has taken and not returned is under way as a write, and p is stand-in for it
    pub ending_prewrite_keeps_writes : Writes tag standing holds returned next stand_in forward_write (posted standing waiting (next p) r (one p))
    ending_prewrite_keeps_writes =
        let more : (x : ℕ) → tag (held x) ≤ tag (holds x) = holds_no_less tag held p r in
        let here : tag r ≤ tag (holds p) = holds_the_row tag held p r in
        record {
          forwarder_returned = i.forwarder_returned;
          returned_below_held = λ x. le_trans (i.returned_below_held x) (more x);
          in_forwarded_took = λ x k q h v. has_it_still holds returned (more q) (omega arith) (i.in_forwarded_took x k q h v);
          in_waiting_took = λ x k q h v. ⊎_elim (λ a. has_it_still holds returned (more q) (omega arith) (i.in_waiting_took x k q a v)) (λ a. rw (a.0, a.1) record { holds = here; or_stands_in = λ l. stands }) (in_sent x k q h);
          holder_stands_in = λ x v l. let a = i.holder_stands_in x v in grind (arith, nat_tests);
          onward = λ y v w l none.
              ⊎_elim
              (λ (t : (ltb (tag (held p)) (tag r) && eqb y p) ≡ true). let new = none r in grind (arith, nat_tests, sets))
              (λ (t : (ltb (tag (held p)) (tag r) && eqb y p) ≡ false).
              rw t (i.onward y v w (below_more (more (next y)) (rw t at l)) (λ k h. let a = rw t at (none k) in a (posted_keeps standing waiting (next p) r (one p) (next y) k h))))
              (cases_Bool (ltb (tag (held p)) (tag r) && eqb y p));
          live = λ x v no_waiting no_forward no_cut.
              ⊎_elim
              (λ (t : (ltb (tag (held p)) (tag r) && eqb x p) ≡ true). let a = no_waiting (next p) r in let b = no_cut p u in grind (arith, nat_tests, sets))
              (λ (t : (ltb (tag (held p)) (tag r) && eqb x p) ≡ false).
              rw t (i.live x v
              (λ y k h. let a = rw t at (no_waiting y k) in a (posted_keeps standing waiting (next p) r (one p) y k h))
              (λ y k h. let a = rw t at (no_forward y k) in a h)
              (λ y w l. let a = rw t at (no_cut y w) in a (le_trans l (more y)))))
              (cases_Bool (ltb (tag (held p)) (tag r) && eqb x p));
        }

  -- a row that no write names and nobody holds gets a tag
  module _ (r t : ℕ) (none_forwarded : (x : ℕ) → forward_write x r ≡ 0) (none_waits : (x : ℕ) → waiting x r ≡ 0) (not_held : (x : ℕ) → held x ≡ r → ⊥) where
    -- the tags then
    abbrev tags : ℕ → ℕ
    tags = tag_after tag r t

    -- held rows keep their tags
    held_tag_stays : (x : ℕ) → tags (held x) ≡ tag (held x)
    held_tag_stays x = other_tags_stay tag r t (held x) (not_held x)

    -- where the masks of row r are empty, the tag of a row with a mask stays
    masked_tag_stays : (m k : ℕ) → 0 < m → (k ≡ r → m ≡ 0) → tags k ≡ tag k
    masked_tag_stays m k h z = other_tags_stay tag r t k (λ e. let a = z e in omega arith)

    -- so do rows of writes to forward
    forwarded_tag_stays : (x k : ℕ) → 0 < forward_write x k → tags k ≡ tag k
    forwarded_tag_stays x k h = masked_tag_stays (forward_write x k) k h (λ e. rw e (none_forwarded x))

    -- and rows of writes that wait
    waiting_tag_stays : (x k : ℕ) → 0 < waiting x k → tags k ≡ tag k
    waiting_tag_stays x k h = masked_tag_stays (waiting x k) k h (λ e. rw e (none_waits x))

    -- a mask with a member is not empty
    not_empty : (m q : ℕ) → has m q ≡ true → 0 < m
    not_empty m q h = grind (arith, nat_tests, sets)

    -- who has taken a row that keeps its tag has taken it still
    taken_before : (k q : ℕ) → tags k ≡ tag k → HasTaken tag held returned stand_in k q → HasTaken tags held returned stand_in k q
    taken_before k q e h = record { holds = rw (e, held_tag_stays q) h.holds; or_stands_in = λ l. rw e (h.or_stands_in (rw e at l)) }

    -- writes under way keep their tags, and so does what is held
    pub tagging_keeps_writes : Writes tags standing held returned next stand_in forward_write waiting
    tagging_keeps_writes = record {
      forwarder_returned = λ x k h. rw (forwarded_tag_stays x k h) (i.forwarder_returned x k h);
      returned_below_held = λ x. rw (held_tag_stays x) (i.returned_below_held x);
      in_forwarded_took = λ x k q h v. taken_before k q (forwarded_tag_stays x k (not_empty _ q h)) (i.in_forwarded_took x k q h v);
      in_waiting_took = λ x k q h v. taken_before k q (waiting_tag_stays x k (not_empty _ q h)) (i.in_waiting_took x k q h v);
      holder_stands_in = λ x v l. let e = held_tag_stays x in rw e (i.holder_stands_in x v (rw e at l));
      onward = λ y v w l none.
          let e = held_tag_stays y in
          let d = held_tag_stays (next y) in
          i.onward y v w (rw (d, e) at l) (λ k h. rw (waiting_tag_stays (next y) k h, e) at (none k h));
      live = λ x v no_waiting no_forward no_cut.
          let e = held_tag_stays x in
          rw e (i.live x v (λ y k h. rw (waiting_tag_stays y k h, e) at (no_waiting y k h)) (λ y k h. rw (forwarded_tag_stays y k h, e) at (no_forward y k h)) (λ y w l. no_cut y w (rw (e, held_tag_stays y) l)));
    }
