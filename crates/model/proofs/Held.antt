-- The changes of what servers know keep the invariant: holding a row, forwarding a pre-write, starting a write, and a crash; X_inv says it of X.
-- Of each it is shown first that nothing known is lost (X_mono), so that all that was known before is known after.
use Rattle.std.proofs.Common.{◌≡◌, ℕ, ◌<◌, ◌≤◌, true, false, ◌&&◌, eqb, sym, ap, ◌∙◌, ⊎_elim, le_trans, arith}
use Rattle.std.proofs.lemmas.Bool.Decides.{nat_tests}
use Rattle.std.proofs.lemmas.Bool.{cases_eq, cases_Bool, or_cases}
use Rattle.servers.specs.Sets.{has, join, one}
use Rattle.servers.proofs.Members.{sets, has_none, has_join, has_only}
use Rattle.model.specs.State.{State, tag_server, set_at}
use Rattle.model.specs.Turns.{releases_prewrite, tagged}
use Rattle.model.specs.Crashes.{crashes}
use Rattle.model.specs.Questions.{named_row}
use Rattle.model.proofs.Events.{Queued}
use Rattle.model.proofs.Changes.{in_a_joined_mask}
use Rattle.model.proofs.Inv.{held_is_at_most_highest, pending_is_at_most_highest, highest_is_at_most, best, Base, Know, Inv, Mono, holds}

-- what is held or pending is known
pub best_held : (s : State) (q : ℕ) → s.journal.tag (s.servers.held q) ≤ best s q
best_held s q = held_is_at_most_highest s.journal.tag (s.servers.held q) (s.servers.pending q)

-- what is pending is known
pub best_of_pending : (s : State) (q k : ℕ) → k < 256 → 0 < s.servers.pending q k → s.journal.tag k ≤ best s q
best_of_pending s q k = pending_is_at_most_highest s.journal.tag (s.servers.held q) (s.servers.pending q) k

-- nothing else is known
pub best_le : (s : State) (q x : ℕ) → s.journal.tag (s.servers.held q) ≤ x → ((k : ℕ) → k < 256 → 0 < s.servers.pending q k → s.journal.tag k ≤ x) → best s q ≤ x
best_le s q x = highest_is_at_most s.journal.tag (s.servers.held q) (s.servers.pending q) x

module _ (s : State) (p r : ℕ) where
  -- holding a row loses nothing
  pub holds_mono : Mono s (holds s p r)
  holds_mono q u = let t = holds s p r in let a = best_held t q in best_le s q (best t q) (grind (arith, nat_tests)) (λ k l h. let b = best_of_pending t q k l in grind (arith, nat_tests))

  -- holding a row that all others know keeps the invariant
  pub holds_inv : 0 < s.journal.tag r → s.servers.standing p ≡ true → ((q : ℕ) → s.servers.standing q ≡ true → (q ≡ p → ⊥) → s.journal.tag r ≤ best s q) → Inv s → Inv (holds s p r)
  holds_inv is u all i = let base = i.base in let names = i.names in let ranks = i.ranks in let know = i.know in let m = holds_mono in let here = best_held (holds s p r) p in
      record {
        base = grind (arith, nat_tests);
        names = grind (arith, nat_tests);
        ranks = record { apart = ranks.apart; above = grind (arith, nat_tests); own = grind (arith, nat_tests) };
        know = record {
          pending = λ x k q h v. let b = has_none q in let old : has (s.servers.pending x k) q ≡ true = grind (arith, nat_tests) in le_trans (know.pending x k q old v) (m q v);
          forward_prewrite = λ x k q h v. le_trans (know.forward_prewrite x k q h v) (m q v);
          first = λ x k q h v. le_trans (know.first x k q h v) (m q v);
          forward_write = λ x k q h v. le_trans (know.forward_write x k q h v) (m q v);
          second = λ x k q h v. le_trans (know.second x k q h v) (m q v);
          held = λ x q h v. let old = know.held x q h v in let new = m q v in let y = all q v in grind (arith, nat_tests);
          returned = λ x q h v. le_trans (know.returned x q h v) (m q v);
          answered = λ a q h v. le_trans (know.answered a q h v) (m q v);
        };
      }

  -- p joins the mask of a pre-write that it forwards: the row is pending there, or p holds a tag not below
  pub releases_prewrite_mono : Mono s (releases_prewrite s p r)
  releases_prewrite_mono q u = let t = releases_prewrite s p r in let a = best_held t q in best_le s q (best t q) a (λ k l h. let b = best_of_pending t q k l in grind (arith, nat_tests, sets))

  -- p itself knows it then
  pub releases_prewrite_here : r < 256 → s.journal.tag r ≤ best (releases_prewrite s p r) p
  releases_prewrite_here l = let t = releases_prewrite s p r in let a = best_held t p in let b = best_of_pending t p r l in grind (arith, nat_tests, sets)

  -- so p may stand in its mask
  pub releases_prewrite_inv : 0 < s.journal.tag r → Inv s → Inv (releases_prewrite s p r)
  releases_prewrite_inv is i = let base = i.base in let names = i.names in let ranks = i.ranks in let know = i.know in let m = releases_prewrite_mono in
      let low : r < 256 = (let a = base.tag_used r is in let b = base.room in omega arith) in
      let here = releases_prewrite_here low in
      record {
        base = grind (arith, nat_tests);
        names = grind (arith, nat_tests, sets);
        ranks = record { apart = ranks.apart; above = grind (arith, nat_tests); own = λ k h v. le_trans (ranks.own k h v) (m (s.journal.server k) v) };
        know = record {
          pending = λ x k q h v. pends x k q m here know h v;
          forward_prewrite = λ x k q h v. let b = has_none q in let old : has (s.servers.forward_prewrite x k) q ≡ true = grind (arith, nat_tests) in le_trans (know.forward_prewrite x k q old v) (m q v);
          first = λ x k q h v. le_trans (know.first x k q h v) (m q v);
          forward_write = λ x k q h v. le_trans (know.forward_write x k q h v) (m q v);
          second = λ x k q h v. le_trans (know.second x k q h v) (m q v);
          held = λ x q h v. le_trans (know.held x q h v) (m q v);
          returned = λ x q h v. le_trans (know.returned x q h v) (m q v);
          answered = λ a q h v. le_trans (know.answered a q h v) (m q v);
        };
      }
    where
      pends : (x k q : ℕ) → Mono s (releases_prewrite s p r) → s.journal.tag r ≤ best (releases_prewrite s p r) p → Know s → has ((releases_prewrite s p r).servers.pending x k) q ≡ true → s.servers.standing q ≡ true → s.journal.tag k ≤ best (releases_prewrite s p r) q
      pends x k q m here know h v = in_a_joined_mask _ (s.servers.pending x k) (join (s.servers.forward_prewrite p r) (one p)) q h
          (λ g. le_trans (know.pending x k q g v) (m q v))
          (λ c g. let e : k ≡ r = grind (arith, nat_tests) in rw e (⊎_elim (λ g2. le_trans (know.forward_prewrite p r q g2 v) (m q v)) (λ g2. let e2 : q ≡ p = (let z = has_only p q in grind (arith, nat_tests)) in rw e2 here) (or_cases (has (s.servers.forward_prewrite p r) q) (has (one p) q) (sym (has_join (s.servers.forward_prewrite p r) (one p) q) ∙ g))))

-- a mask with a server in it is not empty
pub not_empty_with_a_server_in_it : (m q : ℕ) → has m q ≡ true → 0 < m
not_empty_with_a_server_in_it m q h = grind (arith, nat_tests, sets)

-- a tag is given to a row that had none
pub kept_tag_is_at_most : (tag : ℕ → ℕ) (r t k b c : ℕ) → tag r ≡ 0 → 0 < tag k → tag k ≤ b → b ≤ c → set_at tag r t k ≤ c
kept_tag_is_at_most tag r t k b c z pos l m = grind (arith, nat_tests)

-- the other rows keep their tags
pub kept_tag : (tag : ℕ → ℕ) (r t k : ℕ) → tag r ≡ 0 → (0 < k → 0 < tag k) → 0 < r → set_at tag r t k ≡ tag k
kept_tag tag r t k z pos n = grind (arith, nat_tests)

module _ (s : State) (p r t : ℕ) where
  -- starting a write loses nothing
  pub tagged_mono : s.journal.tag r ≡ 0 → Mono s (tagged s p r t)
  tagged_mono z q u = let v = tagged s p r t in let a = best_held v q in best_le s q (best v q) (grind (arith, nat_tests)) (λ k l h. let b = best_of_pending v q k l in grind (arith, nat_tests, sets))

  -- its server knows it
  pub tagged_here : r < 256 → t ≤ best (tagged s p r t) p
  tagged_here l = let v = tagged s p r t in let b = best_of_pending v p r l in grind (arith, nat_tests, sets)

  -- a write with this tag would be known at its server, and the tag is above all that is known there
  no_write_has_it_yet : s.servers.standing p ≡ true → best s p < t → tag_server t ≡ p → Inv s → (b : ℕ) → 0 < s.journal.tag b → s.journal.tag b ≡ t → ⊥
  no_write_has_it_yet u over so i b h e =
      let z : s.journal.server b ≡ p = sym (i.base.tag_at b h) ∙ ap tag_server e ∙ so in
      let l : s.journal.tag b ≤ best s p = rw z at (i.ranks.own b h (ap s.servers.standing z ∙ u)) in
      omega arith

  -- so tags still differ
  tagged_apart : s.journal.tag r ≡ 0 → ((b : ℕ) → 0 < s.journal.tag b → s.journal.tag b ≡ t → ⊥) → ((a b : ℕ) → 0 < s.journal.tag a → 0 < s.journal.tag b → s.journal.tag a ≡ s.journal.tag b → a ≡ b)
      → (a b : ℕ) → 0 < set_at s.journal.tag r t a → 0 < set_at s.journal.tag r t b → set_at s.journal.tag r t a ≡ set_at s.journal.tag r t b → a ≡ b
  tagged_apart z none old a b ha hb e = let na = none a in let nb = none b in let o = old a b in grind (arith, nat_tests)

  -- a write is started with a tag above all that its server knows
  pub tagged_inv : Queued s p r → s.servers.standing p ≡ true → best s p < t → tag_server t ≡ p → Inv s → Inv (tagged s p r t)
  tagged_inv w u over so i =
      let base = i.base in let names = i.names in let ranks = i.ranks in let know = i.know in
      let z = w.no_tag in
      let m = tagged_mono z in
      let low : r < 256 = (let a = w.low in let b = base.room in omega arith) in
      let here = tagged_here low in
      let pos : 0 < r = grind (arith, nat_tests) in
      let tag = s.journal.tag in
      record {
        base = grind (arith, nat_tests);
        names = grind (arith, nat_tests, sets);
        ranks = record {
          apart = tagged_apart z (no_write_has_it_yet u over so i) ranks.apart;
          above = λ x k h. let e = kept_tag tag r t (s.servers.held x) z (base.held_tag x) pos in let old = ranks.above x k in let b = best_held s p in rw e (grind (arith, nat_tests));
          own = λ k h v. ⊎_elim
              (λ e. let g : best (tagged s p r t) p ≡ best (tagged s p r t) (s.journal.server k) = ap (best (tagged s p r t)) (sym (ap s.journal.server e ∙ w.here)) in rw (← g) (grind (arith, nat_tests)))
              (λ ne. let g : 0 < tag k = grind (arith, nat_tests) in kept_tag_is_at_most tag r t k _ _ z g (ranks.own k g v) (m (s.journal.server k) v))
              (cases_eq k r);
        };
        know = record {
          pending = λ x k q h v. ⊎_elim
              (λ (e : (eqb x p && eqb k r) ≡ true). let e2 : k ≡ r = grind (arith, nat_tests) in let e3 : q ≡ p = (let y = has_only p q in grind (arith, nat_tests)) in rw (e2, e3) (grind (arith, nat_tests)))
              (λ e. let g : has (s.servers.pending x k) q ≡ true = rw e at h in kept_tag_is_at_most tag r t k _ _ z (names.pending x k (not_empty_with_a_server_in_it _ q g)) (know.pending x k q g v) (m q v))
              (cases_Bool (eqb x p && eqb k r));
          forward_prewrite = λ x k q h v. kept_tag_is_at_most tag r t k _ _ z (names.forward_prewrite x k (not_empty_with_a_server_in_it _ q h)) (know.forward_prewrite x k q h v) (m q v);
          first = λ x k q h v. kept_tag_is_at_most tag r t k _ _ z (names.waiting x k 1 (not_empty_with_a_server_in_it _ q h)) (know.first x k q h v) (m q v);
          forward_write = λ x k q h v. kept_tag_is_at_most tag r t k _ _ z (names.forward_write x k h) (know.forward_write x k q h v) (m q v);
          second = λ x k q h v. kept_tag_is_at_most tag r t k _ _ z (names.waiting x k 2 h) (know.second x k q h v) (m q v);
          held = λ x q h v. rw (kept_tag tag r t (s.servers.held x) z (base.held_tag x) pos) (le_trans (know.held x q h v) (m q v));
          returned = λ x q h v. le_trans (know.returned x q h v) (m q v);
          answered = λ a q h v. rw (kept_tag tag r t (named_row s.journal a) z (named_tag a base h) pos) (le_trans (know.answered a q h v) (m q v));
        };
      }
    where
      named_tag : (a : ℕ) → Base s.size s.journal s.servers → s.journal.answered a ≡ true → 0 < named_row s.journal a → 0 < s.journal.tag (named_row s.journal a)
      named_tag a b h pos = grind (arith, nat_tests)

module _ (s : State) (p : ℕ) where
  -- a crash takes no knowledge from those that stand
  pub crashes_mono : Mono s (crashes s p)
  crashes_mono q u = let t = crashes s p in let a = best_held t q in best_le s q (best t q) a (λ k l h. let b = best_of_pending t q k l in grind (arith, nat_tests))

  -- a crash keeps the invariant
  pub crashes_inv : Inv s → Inv (crashes s p)
  crashes_inv i = let base = i.base in let names = i.names in let ranks = i.ranks in let know = i.know in let m = crashes_mono in
      let was : (q : ℕ) → set_at s.servers.standing p false q ≡ true → s.servers.standing q ≡ true = (λ q h. grind (arith, nat_tests)) in
      record {
        base = grind (arith, nat_tests);
        names = grind (arith, nat_tests);
        ranks = record { apart = ranks.apart; above = grind (arith, nat_tests); own = λ k h v. le_trans (ranks.own k h (was _ v)) (m _ v) };
        know = record {
          pending = λ x k q h v. let b = has_none q in let old : has (s.servers.pending x k) q ≡ true = grind (arith, nat_tests) in le_trans (know.pending x k q old (was q v)) (m q v);
          forward_prewrite = λ x k q h v. let b = has_none q in let old : has (s.servers.forward_prewrite x k) q ≡ true = grind (arith, nat_tests) in le_trans (know.forward_prewrite x k q old (was q v)) (m q v);
          first = λ x k q h v. let b = has_none q in let old : has (s.waiting x k 1) q ≡ true = grind (arith, nat_tests) in le_trans (know.first x k q old (was q v)) (m q v);
          forward_write = λ x k q h v. let old : 0 < s.servers.forward_write x k = grind (arith, nat_tests) in le_trans (know.forward_write x k q old (was q v)) (m q v);
          second = λ x k q h v. let old : 0 < s.waiting x k 2 = grind (arith, nat_tests) in le_trans (know.second x k q old (was q v)) (m q v);
          held = λ x q h v. le_trans (know.held x q (was x h) (was q v)) (m q v);
          returned = λ x q h v. le_trans (know.returned x q (was x h) (was q v)) (m q v);
          answered = λ a q h v. le_trans (know.answered a q h (was q v)) (m q v);
        };
      }
