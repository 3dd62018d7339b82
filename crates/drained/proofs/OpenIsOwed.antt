-- What is owed to open operations at standing servers: the server of a started write has not yet returned its tag, and what a read waits for is pending there.
-- Each kind of change keeps this: what settles an operation answers it in the same call, and a new threshold or tag is one that is still to come.
use Rattle.std.proofs.Common.{◌≡◌, ℕ, ◌<◌, Bool, true, false, leb, ap, ◌∙◌, subst, ⊎_elim, arith}
use Rattle.std.proofs.lemmas.Bool.Decides.{nat_tests}
use Rattle.std.proofs.lemmas.Bool.{cases_eq, cases_Bool}
use Rattle.servers.proofs.Members.{sets}
use Rattle.counting.specs.Below.{any}
use Rattle.model.specs.State.{Journal, State, set_at, is_open, is_pending, highest_pending}
use Rattle.model.specs.Operations.{begun, answered, given_up, asked, read}
use Rattle.model.specs.Turns.{tagged, releases_prewrite}
use Rattle.model.specs.Deliveries.{took, raised, took_and_returned}
use Rattle.model.specs.Crashes.{crashes}
use Rattle.counting.proofs.Searches.{some_passes, top_is_reached}
use Rattle.model.proofs.Inv.{holds, settles, returns}

-- over the journal and what the servers keep: of each open operation at a standing server
pub record Owed (journal : Journal) (standing : ℕ → Bool) (returned : ℕ → ℕ) (pending : ℕ → ℕ → ℕ) : Type 0 where
  -- the tag of a started write is above what its server has returned
  pub started : (k : ℕ) → is_open journal k ≡ true → journal.is_write k ≡ true → 0 < journal.tag k → standing (journal.server k) ≡ true → returned (journal.server k) < journal.tag k
  -- not all tags pending at the server of a read are below the one that it waits for
  pub waiting : (k : ℕ) → is_open journal k ≡ true → journal.is_write k ≡ false → standing (journal.server k) ≡ true → ((r : ℕ) → 0 < pending (journal.server k) r → journal.tag r < journal.threshold k) → ⊥

-- the same of a state
abbrev pub OwedIn : State → Type 0
OwedIn s = Owed s.journal s.servers.standing s.servers.returned s.servers.pending

-- a new row: a write, or a read that waits for a tag that is not above all pending ones
pub beginning_keeps_owed : (s : State) (w : Bool) (c p t : ℕ) → s.journal.tag s.journal.used ≡ 0 → (w ≡ false → ((r : ℕ) → 0 < s.servers.pending p r → s.journal.tag r < t) → ⊥) → OwedIn s → OwedIn (begun s w c p t)
beginning_keeps_owed s w c p t z some i = record {
  started = λ k o x l v. let a = i.started k in grind (arith, nat_tests);
  waiting = λ k o x v none. ⊎_elim
      (λ (e : k ≡ s.journal.used).
      let x2 : w ≡ false = grind (arith, nat_tests) in
      let at_p : set_at s.journal.server s.journal.used p k ≡ p = grind (arith, nat_tests) in
      let waits_for_t : set_at s.journal.threshold s.journal.used t k ≡ t = grind (arith, nat_tests) in
      some x2 (λ r h. rw waits_for_t at (none r (rw at_p h))))
      (λ (ne : k ≡ s.journal.used → ⊥).
      let at_k : set_at s.journal.server s.journal.used p k ≡ s.journal.server k = grind (arith, nat_tests) in
      let waits_as_k_did : set_at s.journal.threshold s.journal.used t k ≡ s.journal.threshold k = grind (arith, nat_tests) in
      let o2 : is_open s.journal k ≡ true = grind (arith, nat_tests) in
      let x2 : s.journal.is_write k ≡ false = grind (arith, nat_tests) in
      i.waiting k o2 x2 (rw at_k at v) (λ r h. rw waits_as_k_did at (none r (rw at_k h))))
      (cases_eq k s.journal.used);
}

-- an operation that stays open waits for the tag that it waited for
waits_as_before : (s : State) (due : ℕ → Bool) (r k : ℕ) → is_open (answered s due r).journal k ≡ true → (answered s due r).journal.threshold k ≡ s.journal.threshold k
waits_as_before s due r k o = grind (arith, nat_tests)

-- operations are answered
answering_keeps_owed : (s : State) (due : ℕ → Bool) (r : ℕ) → OwedIn s → OwedIn (answered s due r)
answering_keeps_owed s due r i = record {
  started = λ k o. i.started k (was_open k o);
  waiting = λ k o x v none. i.waiting k (was_open k o) x v (λ j h. subst (λ t. s.journal.tag j < t) (waits_as_before s due r k o) (none j h));
}
  where
    was_open : (k : ℕ) → is_open (answered s due r).journal k ≡ true → is_open s.journal k ≡ true
    was_open k o = grind (arith, nat_tests)

-- an operation is given up
pub giving_up_keeps_owed : (s : State) (r : ℕ) → OwedIn s → OwedIn (given_up s r)
giving_up_keeps_owed s r i = record {
  started = λ k o. i.started k (was_open k o);
  waiting = λ k o. i.waiting k (was_open k o);
}
  where
    was_open : (k : ℕ) → is_open (given_up s r).journal k ≡ true → is_open s.journal k ≡ true
    was_open k o = grind (arith, nat_tests)

-- p takes row r
pub taking_keeps_owed : (s : State) (p r : ℕ) → OwedIn s → OwedIn (took s p r)
taking_keeps_owed s p r i = record {
  started = λ k o. i.started k (was_open k o).0;
  waiting = λ k o x v none. i.waiting k (was_open k o).0 x v (λ j h. still k j (was_open k o).0 x (was_open k o).1 (λ g. subst (λ t. s.journal.tag j < t) (waits_as_before (holds s p r) (settles s p r) r k o) (none j g)) h);
}
  where
    was_open : (k : ℕ) → is_open (took s p r).journal k ≡ true → (is_open s.journal k ≡ true) × (settles s p r k ≡ false)
    was_open k o = (grind (arith, nat_tests), grind (arith, nat_tests))

    still : (k j : ℕ) → is_open s.journal k ≡ true → s.journal.is_write k ≡ false → settles s p r k ≡ false → (0 < (took s p r).servers.pending (s.journal.server k) j → s.journal.tag j < s.journal.threshold k) → 0 < s.servers.pending (s.journal.server k) j → s.journal.tag j < s.journal.threshold k
    still k j o x n f h = grind (arith, nat_tests)

-- p raises its returned tag to t, and answers the writes that this settles
raising_keeps_owed : (s : State) (p t : ℕ) → OwedIn s → OwedIn (answered (raised s p t) (returns (raised s p t) p) 0)
raising_keeps_owed s p t i = record {
  started = λ k o x l v. above k (was_open k o).0 (was_open k o).1 x l (i.started k (was_open k o).0 x l v);
  waiting = λ k o x v none. i.waiting k (was_open k o).0 x v (λ j h. subst (λ t. s.journal.tag j < t) (waits_as_before (raised s p t) (returns (raised s p t) p) 0 k o) (none j h));
}
  where
    was_open : (k : ℕ) → is_open (answered (raised s p t) (returns (raised s p t) p) 0).journal k ≡ true → (is_open s.journal k ≡ true) × (returns (raised s p t) p k ≡ false)
    was_open k o = (grind (arith, nat_tests), grind (arith, nat_tests))

    above : (k : ℕ) → is_open s.journal k ≡ true → returns (raised s p t) p k ≡ false → s.journal.is_write k ≡ true → 0 < s.journal.tag k → s.servers.returned (s.journal.server k) < s.journal.tag k → (raised s p t).servers.returned (s.journal.server k) < s.journal.tag k
    above k o n x l h = ⊎_elim
        (λ (e : s.journal.server k ≡ p). let m : leb (s.journal.tag k) ((raised s p t).servers.returned p) ≡ false = grind (arith, nat_tests) in rw e (grind (arith, nat_tests)))
        (λ ne. grind (arith, nat_tests))
        (cases_eq (s.journal.server k) p)

-- p takes row r and returns its tag
pub returning_keeps_owed : (s : State) (p r : ℕ) → OwedIn s → OwedIn (took_and_returned s p r)
returning_keeps_owed s p r i = raising_keeps_owed (took s p r) p (s.journal.tag r) (taking_keeps_owed s p r i)

-- p forwards a pre-write: no fewer rows are pending
pub forwarding_keeps_owed : (s : State) (p r : ℕ) → OwedIn s → OwedIn (releases_prewrite s p r)
forwarding_keeps_owed s p r i = record {
  started = i.started;
  waiting = λ k o x v none. i.waiting k o x v (λ j h. none j (more (s.journal.server k) j h));
}
  where
    more : (x k : ℕ) → 0 < s.servers.pending x k → 0 < (releases_prewrite s p r).servers.pending x k
    more x k h = grind (arith, nat_tests, sets)

-- a row gets a tag above what its server has returned, and is pending there
pub tagging_keeps_owed : (s : State) (p r t : ℕ) → s.journal.server r ≡ p → ((x : ℕ) → s.servers.pending x r ≡ 0) → s.servers.returned p < t → OwedIn s → OwedIn (tagged s p r t)
tagging_keeps_owed s p r t here none_pending over i = record {
  started = λ k o x l v. ⊎_elim
      (λ (e : k ≡ r). let a = ap s.journal.server e in let b : s.journal.server k ≡ p = a ∙ here in rw b (grind (arith, nat_tests)))
      (λ (ne : k ≡ r → ⊥). let e : set_at s.journal.tag r t k ≡ s.journal.tag k = grind (arith, nat_tests) in rw e (i.started k o x (rw e at l) v))
      (cases_eq k r);
  waiting = λ k o x v none. i.waiting k o x v (λ j h. old (s.journal.server k) j (s.journal.threshold k) (none j) h);
}
  where
    old : (x k b : ℕ) → (0 < (tagged s p r t).servers.pending x k → set_at s.journal.tag r t k < b) → 0 < s.servers.pending x k → s.journal.tag k < b
    old x k b f h = let z = none_pending x in let ne : k ≡ r → ⊥ = (λ e. let y = ap (s.servers.pending x) e in omega arith) in grind (arith, nat_tests)

-- p crashes
pub crashing_keeps_owed : (s : State) (p : ℕ) → OwedIn s → OwedIn (crashes s p)
crashing_keeps_owed s p i = record {
  started = λ k o x l v. i.started k o x l (stood (s.journal.server k) v).0;
  waiting = λ k o x v none. i.waiting k o x (stood (s.journal.server k) v).0 (λ j h. none j (kept (s.journal.server k) j (stood (s.journal.server k) v).1 h));
}
  where
    stood : (q : ℕ) → set_at s.servers.standing p false q ≡ true → (s.servers.standing q ≡ true) × (q ≡ p → ⊥)
    stood q h = grind (arith, nat_tests)

    kept : (x k : ℕ) → (x ≡ p → ⊥) → 0 < s.servers.pending x k → 0 < (crashes s p).servers.pending x k
    kept x k ne h = grind (arith, nat_tests)

-- client c reads at p
module _ (s : State) (c p : ℕ) (z : s.journal.tag s.journal.used ≡ 0) where
  -- if something is pending, the read waits for a pending tag
  waits_for_a_pending_tag : any (is_pending s.servers p) 256 ≡ true → ((r : ℕ) → 0 < s.servers.pending p r → s.journal.tag r < highest_pending s p) → ⊥
  waits_for_a_pending_tag e none =
      let k = some_passes (is_pending s.servers p) 256 e in
      let h : 0 < s.servers.pending p k.0 = (let g = k.2 in grind (arith, nat_tests)) in
      let a = none k.0 h in
      ⊎_elim
      (λ (o : highest_pending s p ≡ 0). omega arith)
      (λ m. let g = m.2 in let h2 : 0 < s.servers.pending p m.0 = grind (arith, nat_tests) in let b = none m.0 h2 in let d = m.3 in omega arith)
      (top_is_reached (is_pending s.servers p) s.journal.tag 256)

  -- else it is answered at once
  not_new : any (is_pending s.servers p) 256 ≡ false → (k : ℕ) → is_open (read s c p).journal k ≡ true → k ≡ s.journal.used → ⊥
  not_new e k o d = grind (arith, nat_tests)

  -- an older operation that is open was open
  was_open : (k : ℕ) → (k ≡ s.journal.used → ⊥) → is_open (read s c p).journal k ≡ true → is_open s.journal k ≡ true
  was_open k ne o = grind (arith, nat_tests)

  -- and is a read if it was one
  was_read : (k : ℕ) → (k ≡ s.journal.used → ⊥) → (read s c p).journal.is_write k ≡ false → s.journal.is_write k ≡ false
  was_read k ne x = grind (arith, nat_tests)

  -- whether the read waits or is answered at once
  pub reading_keeps_owed : OwedIn s → OwedIn (read s c p)
  reading_keeps_owed i = ⊎_elim
      (λ (e : any (is_pending s.servers p) 256 ≡ true). answering_keeps_owed (asked s c p) _ _ (beginning_keeps_owed s false c p (highest_pending s p) z (λ _. waits_for_a_pending_tag e) i))
      (λ (e : any (is_pending s.servers p) 256 ≡ false). record {
        started = λ k o x l v. let a = i.started k in grind (arith, nat_tests);
        waiting = λ k o x v none.
            let ne : k ≡ s.journal.used → ⊥ = not_new e k o in
            let at_k : set_at s.journal.server s.journal.used p k ≡ s.journal.server k = grind (arith, nat_tests) in
            let waits_as_k_did : (read s c p).journal.threshold k ≡ s.journal.threshold k = grind (arith, nat_tests) in
            i.waiting k (was_open k ne o) (was_read k ne x) (rw at_k at v) (λ r h. subst (λ t. s.journal.tag r < t) waits_as_k_did (none r (rw at_k h)));
      })
      (cases_Bool (any (is_pending s.servers p) 256))
