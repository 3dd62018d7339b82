-- What holds of writes under way is kept when a write is delivered, whether it is to be forwarded or ends.
-- Who hears a write holds and has returned no less than its row; where it ends, all that stand are in its mask, and have taken its row before.
use Rattle.std.proofs.Common.{◌≡◌, ℕ, ◌<◌, ◌≤◌, Bool, true, false, cond, ◌&&◌, eqb, ltb, leb, ⊎_elim, le_trans, arith}
use Rattle.std.proofs.lemmas.Bool.Decides.{nat_tests}
use Rattle.std.proofs.lemmas.Bool.{cases_eq, cases_Bool, cases_lt}
use Rattle.servers.specs.Sets.{has}
use Rattle.servers.proofs.Members.{sets}
use Rattle.model.specs.State.{tag_server}
use Rattle.drained.proofs.SharedChanges.{below_more, taken, in_taken, kept, kept_keeps, in_kept, held_after, holds_no_less, holds_the_row}
use Rattle.drained.proofs.WritesUnderWay.{Writes, has_it_still}

-- a write of row r comes to p, which takes the row and returns its tag
module _ {tag : ℕ → ℕ} {standing : ℕ → Bool} {held returned next : ℕ → ℕ} {stand_in : ℕ → ℕ → Bool} {forward_write waiting : ℕ → ℕ → ℕ}
    (i : Writes tag standing held returned next stand_in forward_write waiting) (p r : ℕ) (some : 0 < waiting p r) where
  -- what the servers hold then
  abbrev holds : ℕ → ℕ
  holds = held_after tag held p r

  -- the tags that they have returned then
  abbrev returns : ℕ → ℕ
  returns x = cond (eqb x p) (cond (ltb (returned p) (tag r)) (tag r) (returned p)) (returned x)

  -- the writes that wait then
  abbrev waits : ℕ → ℕ → ℕ
  waits = taken waiting p r true

  -- the writes to forward, if this one is kept
  abbrev forwards : ℕ → ℕ → ℕ
  forwards = kept forward_write p r (waiting p r)

  -- nobody holds less than before
  holds_more : (x : ℕ) → tag (held x) ≤ tag (holds x)
  holds_more = holds_no_less tag held p r

  -- nobody has returned less than before
  returns_more : (x : ℕ) → returned x ≤ returns x
  returns_more x = grind (arith, nat_tests)

  -- p returns the tag of a row that it has taken
  returns_below_held : (x : ℕ) → returns x ≤ tag (holds x)
  returns_below_held x = let a = i.returned_below_held x in grind (arith, nat_tests)

  -- p has returned the tag of what it takes, and others hold what they held
  holder_still_stands_in : (x : ℕ) → standing x ≡ true → returns x < tag (holds x) → stand_in x (tag_server (tag (holds x))) ≡ true
  holder_still_stands_in x v l = let a = i.holder_stands_in x v in grind (arith, nat_tests)

  -- where p held no more than row r, it has returned what it holds
  settled_here : (x : ℕ) → (eqb x p && leb (tag (held p)) (tag r)) ≡ true → tag (holds x) ≤ returns x
  settled_here x t = let e : x ≡ p = grind (arith, nat_tests) in let l : tag (held p) ≤ tag r = grind (arith, nat_tests) in rw e (grind (arith, nat_tests))

  -- else all hold what they held
  unmoved_elsewhere : (x : ℕ) → (eqb x p && leb (tag (held p)) (tag r)) ≡ false → holds x ≡ held x
  unmoved_elsewhere x t = grind (arith, nat_tests)

  -- and if p held more, row r is below it
  row_is_below : (x : ℕ) → x ≡ p → (eqb x p && leb (tag (held p)) (tag r)) ≡ false → tag r < tag (held p)
  row_is_below x e t = grind (arith, nat_tests)

  -- the message that came
  is_this_one : (y k : ℕ) → (eqb y p && eqb k r) ≡ true → (y ≡ p) × (k ≡ r)
  is_this_one y k d = grind (arith, nat_tests)

  -- every other waits still
  still_waits : (y k : ℕ) → (eqb y p && eqb k r) ≡ false → 0 < waiting y k → 0 < waits y k
  still_waits y k d h = grind (arith, nat_tests)

  -- of each write that waited: it waits still, or it is the one that came to p
  waits_or_came : (b y k : ℕ) → (0 < waits y k → tag k < b) → (y ≡ p → tag r < b) → 0 < waiting y k → tag k < b
  waits_or_came b y k other this h = ⊎_elim
      (λ (d : (eqb y p && eqb k r) ≡ true). let e = is_this_one y k d in rw e.1 (this e.0))
      (λ (d : (eqb y p && eqb k r) ≡ false). other (still_waits y k d h))
      (cases_Bool (eqb y p && eqb k r))

  -- where nothing of no less than x holds is under way but the write that came, and that is needed by p alone, x has returned what it holds
  delivered_live : (x : ℕ) → standing x ≡ true
      → ((x ≡ p → ⊥) → tag r < tag (holds x))
      → ((y k : ℕ) → 0 < waits y k → tag k < tag (holds x))
      → ((y k : ℕ) → 0 < forward_write y k → tag k < tag (holds x))
      → ((y : ℕ) → standing y ≡ true → tag (holds x) ≤ tag (holds y) → standing (next y) ≡ true)
      → tag (holds x) ≤ returns x
  delivered_live x v below no_waiting no_forward no_cut = ⊎_elim
      (λ (t : (eqb x p && leb (tag (held p)) (tag r)) ≡ true). settled_here x t)
      (λ (t : (eqb x p && leb (tag (held p)) (tag r)) ≡ false).
      let same : holds x ≡ held x = unmoved_elsewhere x t in
      let this : tag r < tag (held x) = ⊎_elim (λ (e : x ≡ p). rw e (row_is_below x e t)) (λ ne. rw same at (below ne)) (cases_eq x p) in
      let old = i.live x v
      (λ y k. waits_or_came (tag (held x)) y k (λ h. rw same at (no_waiting y k h)) (λ e. this))
      (λ y k h. rw same at (no_forward y k h))
      (λ y w l. no_cut y w (rw same (le_trans l (holds_more y)))) in
      rw same (le_trans old (returns_more x)))
      (cases_Bool (eqb x p && leb (tag (held p)) (tag r)))

  -- the next of a server that has not just taken row r holds no less, or a write of no less waits for it, or the held row is to be forwarded
  delivered_onward : (y : ℕ) → standing y ≡ true → standing (next y) ≡ true → tag (holds (next y)) < tag (held y) → ((k : ℕ) → 0 < waits (next y) k → tag k < tag (held y)) → 0 < forward_write y (held y)
  delivered_onward y v w l none = i.onward y v w (below_more (holds_more (next y)) l) (λ k. waits_or_came (tag (held y)) (next y) k (none k) (λ e. let here : tag (holds p) < tag (held y) = rw e at l in below_more (holds_the_row tag held p r) here))

  -- the write is to be forwarded
  pub keeping_keeps_writes : Writes tag standing holds returns next stand_in forwards waits
  keeping_keeps_writes = record {
    forwarder_returned = λ x k h. let a = i.forwarder_returned x k in let b = returns_more x in grind (arith, nat_tests, sets);
    returned_below_held = returns_below_held;
    in_forwarded_took = λ x k q h v. has_it_still holds returns (holds_more q) (returns_more q) (⊎_elim (λ a. i.in_forwarded_took x k q a v) (λ a. rw a.0 (i.in_waiting_took p r q a.1 v)) (in_kept forward_write p r (waiting p r) x k q h));
    in_waiting_took = λ x k q h v. has_it_still holds returns (holds_more q) (returns_more q) (i.in_waiting_took x k q (in_taken waiting p r true x k q h) v);
    holder_stands_in = holder_still_stands_in;
    onward = λ y v w l none. ⊎_elim
        (λ (t : (ltb (tag (held p)) (tag r) && eqb y p) ≡ true). grind (arith, nat_tests, sets))
        (λ (t : (ltb (tag (held p)) (tag r) && eqb y p) ≡ false).
        rw t (kept_keeps forward_write p r (waiting p r) y (held y) (delivered_onward y v w (rw t at l) (λ k h. let a = rw t at (none k) in a h))))
        (cases_Bool (ltb (tag (held p)) (tag r) && eqb y p));
    live = λ x v no_waiting no_forward no_cut. delivered_live x v
        (λ ne. no_forward p r (grind (arith, nat_tests, sets)))
        no_waiting
        (λ y k h. no_forward y k (kept_keeps forward_write p r (waiting p r) y k h))
        no_cut;
  }

  -- it ends: p is the only stand-in, and all others that stand are in the mask
  module _ (cover : (q : ℕ) → standing q ≡ true → (q ≡ p → ⊥) → has (waiting p r) q ≡ true) (alone : (q : ℕ) → standing q ≡ true → stand_in q (tag_server (tag r)) ≡ true → q ≡ p) where
    -- who is in the mask and is not stand-in has returned the tag
    others_have_returned : (x : ℕ) → standing x ≡ true → (x ≡ p → ⊥) → tag r ≤ returned x
    others_have_returned x v ne = ⊎_elim (λ (l : returned x < tag r). absurd (ne (alone x v ((i.in_waiting_took p r x (cover x v ne) v).or_stands_in l)))) (λ (l : tag r ≤ returned x). l) (cases_lt (returned x) (tag r))

    -- and all that stand hold no less
    all_hold_no_less : (x : ℕ) → standing x ≡ true → tag r ≤ tag (holds x)
    all_hold_no_less x v = ⊎_elim (λ (e : x ≡ p). rw e (holds_the_row tag held p r)) (λ ne. le_trans (i.in_waiting_took p r x (cover x v ne) v).holds (holds_more x)) (cases_eq x p)

    -- nobody needs the write that ends
    pub ending_keeps_writes : Writes tag standing holds returns next stand_in forward_write waits
    ending_keeps_writes = record {
      forwarder_returned = λ x k h. le_trans (i.forwarder_returned x k h) (returns_more x);
      returned_below_held = returns_below_held;
      in_forwarded_took = λ x k q h v. has_it_still holds returns (holds_more q) (returns_more q) (i.in_forwarded_took x k q h v);
      in_waiting_took = λ x k q h v. has_it_still holds returns (holds_more q) (returns_more q) (i.in_waiting_took x k q (in_taken waiting p r true x k q h) v);
      holder_stands_in = holder_still_stands_in;
      onward = λ y v w l none. ⊎_elim
          (λ (t : (ltb (tag (held p)) (tag r) && eqb y p) ≡ true). absurd (let a = all_hold_no_less (next y) w in let b : tag (holds (next y)) < tag r = rw t at l in omega arith))
          (λ (t : (ltb (tag (held p)) (tag r) && eqb y p) ≡ false). rw t (delivered_onward y v w (rw t at l) (λ k h. let a = rw t at (none k) in a h)))
          (cases_Bool (ltb (tag (held p)) (tag r) && eqb y p));
      live = λ x v no_waiting no_forward no_cut.
          let when_below = λ (below : (x ≡ p → ⊥) → tag r < tag (holds x)). delivered_live x v below no_waiting no_forward no_cut in
          ⊎_elim
          (λ (e : x ≡ p). when_below (λ ne. absurd (ne e)))
          (λ (ne : x ≡ p → ⊥). ⊎_elim
          (λ (l : tag r < tag (holds x)). when_below (λ n2. l))
          (λ (l : tag (holds x) ≤ tag r). le_trans l (le_trans (others_have_returned x v ne) (returns_more x)))
          (cases_lt (tag r) (tag (holds x))))
          (cases_eq x p);
    }
