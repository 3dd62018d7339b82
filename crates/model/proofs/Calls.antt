-- Each event keeps the invariant.
-- It is a chain of changes; the one that matters is a pre-write that ends, where the mask covers, so that every standing server knows the row.
use Rattle.std.proofs.Common.{◌≡◌, ℕ, ◌+◌, ◌*◌, ◌<◌, ◌≤◌, max, true, false, cond, sym, ◌∙◌, ⊎_elim, le_trans, arith}
use Rattle.std.proofs.lemmas.Bool.Decides.{nat_tests}
use Rattle.std.proofs.lemmas.Bool.{cases_eq, or_cases, eqb-true}
use Rattle.servers.specs.Sets.{has, one}
use Rattle.servers.proofs.Members.{has_join, has_only}
use Rattle.circle.specs.Circle.{covers}
use Rattle.circle.proofs.Ring.{covers_at}
use Rattle.counting.specs.Below.{top}
use Rattle.model.specs.State.{State, tag_number, is_pending, tag_of}
use Rattle.model.specs.Sending.{next_of, sent, gone}
use Rattle.model.specs.Operations.{asked, read}
use Rattle.model.specs.Turns.{releases_prewrite, releases_write, forwards_prewrite, forwards_write, tagged, starts, fresh_number, counted}
use Rattle.model.specs.Deliveries.{ends_at, took, raised, took_and_returned, keeps_prewrite, keeps_write}
use Rattle.model.specs.Crashes.{learns, sends_held, sends_pending}
use Rattle.counting.proofs.Searches.{top_bounds}
use Rattle.model.proofs.Tags.{a_tag_keeps_its_server}
use Rattle.model.proofs.Inv.{best, Inv, holds, settles, returns}
use Rattle.model.proofs.Events.{Queued, Event, nothing, writing, reading, giving_up, passing_write, passing_prewrite, starting, ending_prewrite, keeping_prewrite, ending_write, keeping_write, crashing, noticing, turning_on}
use Rattle.model.proofs.Changes.{given_up_inv, begun_inv, answered_inv, posted_inv, gone_inv, raised_inv, keeps_prewrite_inv, keeps_write_inv, releases_write_inv, counted_inv, learns_inv, posts_pending_inv}
use Rattle.model.proofs.Held.{best_held, best_le, holds_mono, holds_inv, releases_prewrite_mono, releases_prewrite_here, releases_prewrite_inv, tagged_here, tagged_inv, crashes_inv}

-- a read keeps the invariant
pub read_inv : (s : State) (c p : ℕ) → s.journal.used < 256 → s.servers.standing p ≡ true → Inv s → Inv (read s c p)
read_inv s c p l u i = answered_inv (asked s c p) _ (s.servers.held p)
    (record {
      low = λ k d. grind (arith, nat_tests);
      is_write = λ k d w. grind (arith, nat_tests);
      read = λ k d w. i.base.held_tag p;
      old = λ k d. grind (arith, nat_tests);
      known = λ k q d v. let e : cond ((asked s c p).journal.is_write k) k (s.servers.held p) ≡ s.servers.held p = grind (arith, nat_tests) in rw e (i.know.held p q u v);
    })
    (begun_inv s false c p _ l i)

module _ (s : State) (p r : ℕ) (is : 0 < s.journal.tag r) (u : s.servers.standing p ≡ true) (all : (q : ℕ) → s.servers.standing q ≡ true → (q ≡ p → ⊥) → s.journal.tag r ≤ best s q) where
  -- p takes a row that all others know: then all know it
  pub known_once_taken : (q : ℕ) → s.servers.standing q ≡ true → s.journal.tag r ≤ best (took s p r) q
  known_once_taken q v = ⊎_elim (λ e. let here = best_held (holds s p r) q in grind (arith, nat_tests)) (λ ne. le_trans (all q v ne) (holds_mono s p r q v)) (cases_eq q p)

  -- taking it keeps the invariant
  pub took_inv : Inv s → Inv (took s p r)
  took_inv i = answered_inv (holds s p r) (settles s p r) r
      (record {
        low = λ k d. grind (arith, nat_tests);
        is_write = λ k d w. grind (arith, nat_tests);
        read = λ k d w h. is;
        old = λ k d. grind (arith, nat_tests);
        known = λ k q d v. let e : cond (s.journal.is_write k) k r ≡ r = grind (arith, nat_tests) in rw e (known_once_taken q v);
      })
      (holds_inv s p r is u all i)

-- the numbers of the phases differ
one_is_not_two : ◌≡◌ {A = ℕ} 1 2 → ⊥
one_is_not_two e = omega arith

-- and the other way round
two_is_not_one : ◌≡◌ {A = ℕ} 2 1 → ⊥
two_is_not_one e = omega arith

-- a queued write stays so as the counts change
pub queued_still : (s : State) (p j r : ℕ) → Queued s p r → Queued (counted s p j) p r
queued_still s p j r q = record { low = q.low; is_write = q.is_write; open_yet = q.open_yet; no_tag = q.no_tag; here = q.here }

-- a mask that covers for p names all that stand but p
covers_all : (s : State) (p r m : ℕ) → Inv s → covers s.size (s.servers.noticed p) p m ≡ true → ((q : ℕ) → has m q ≡ true → s.servers.standing q ≡ true → s.journal.tag r ≤ best s q) → (q : ℕ) → s.servers.standing q ≡ true → (q ≡ p → ⊥) → s.journal.tag r ≤ best s q
covers_all s p r m i c h q v ne =
    let not_seen : s.servers.noticed p q ≡ false = (let z = i.base.true_crash p q in grind (arith, nat_tests)) in
    h q (covers_at s.size (s.servers.noticed p) p m q c (i.base.up_low q v) not_seen ne) v

-- a pre-write ends: its mask covers, so all know the row
pub ending_prewrite_inv : (s : State) (p r : ℕ) → s.servers.standing p ≡ true → 0 < s.waiting p r 1 → ends_at s p r (s.waiting p r 1) ≡ true → Inv s → Inv (sent (took (gone s p r 1) p r) p r 2 (one p))
ending_prewrite_inv s p r u w e i =
    let g = gone s p r 1 in
    let ig = gone_inv s p r 1 i in
    let is = i.names.waiting p r 1 w in
    let covered : covers s.size (s.servers.noticed p) p (s.waiting p r 1) ≡ true = grind (arith, nat_tests) in
    let all = covers_all g p r (s.waiting p r 1) ig covered (λ q h v. i.know.first p r q h v) in
    posted_inv (took g p r) (next_of s p) r 2 (one p) (record { named = λ l. is; first = λ z. absurd (two_is_not_one z); second = λ z l q v. known_once_taken g p r is u all q v }) (took_inv g p r is u all ig)

-- a pre-write is kept
pub keeping_prewrite_inv : (s : State) (p r : ℕ) → 0 < s.waiting p r 1 → Inv s → Inv (keeps_prewrite (gone s p r 1) p r (s.waiting p r 1))
keeping_prewrite_inv s p r w i = keeps_prewrite_inv (gone s p r 1) p r (s.waiting p r 1)
    (record { named = λ l. i.names.waiting p r 1 w; first = λ z q h v. i.know.first p r q h v; second = λ z. absurd (one_is_not_two z) }) (gone_inv s p r 1 i)

-- a write that is answered
pub record Due (s : State) (p k : ℕ) : Type 0 where
  pub low : k < s.journal.used
  pub is_write : s.journal.is_write k ≡ true
  pub has_tag : 0 < s.journal.tag k
  pub open_yet : s.journal.answered k ≡ false
  pub returned : s.journal.tag k ≤ s.servers.returned p

-- what a server returns is due
pub is_due : (s : State) (p k : ℕ) → returns s p k ≡ true → Due s p k
is_due s p k h = grind (arith, nat_tests)

-- p takes a row that all know, returns it, and answers what this settles
pub returned_inv : (s : State) (p r : ℕ) → 0 < s.journal.tag r → s.servers.standing p ≡ true → ((q : ℕ) → s.servers.standing q ≡ true → s.journal.tag r ≤ best s q) → Inv s → Inv (took_and_returned s p r)
returned_inv s p r is u all i =
    let t = raised (took s p r) p (s.journal.tag r) in
    let before = λ (q : ℕ) (v : s.servers.standing q ≡ true) (ne : q ≡ p → ⊥). all q v in
    let it : Inv t = raised_inv (took s p r) p (s.journal.tag r) (known_once_taken s p r is u before) (took_inv s p r is u before i) in
    answered_inv t (returns t p) 0
    (record {
      low = λ k d. (is_due t p k d).low;
      is_write = λ k d w. (is_due t p k d).has_tag;
      read = λ k d w h. absurd (omega arith);
      old = λ k d. (is_due t p k d).open_yet;
      known = λ k q d v. let f = is_due t p k d in let e : cond (s.journal.is_write k) k 0 ≡ k = rw f.is_write in rw e (le_trans f.returned (it.know.returned p q u v));
    })
    it

-- a write ends
pub ending_write_inv : (s : State) (p r : ℕ) → s.servers.standing p ≡ true → 0 < s.waiting p r 2 → Inv s → Inv (took_and_returned (gone s p r 2) p r)
ending_write_inv s p r u w i = returned_inv (gone s p r 2) p r (i.names.waiting p r 2 w) u (λ q v. i.know.second p r q w v) (gone_inv s p r 2 i)

-- a write is kept
pub keeping_write_inv : (s : State) (p r : ℕ) → s.servers.standing p ≡ true → 0 < s.waiting p r 2 → Inv s → Inv (keeps_write (took_and_returned (gone s p r 2) p r) p r (s.waiting p r 2))
keeping_write_inv s p r u w i =
    let is = i.names.waiting p r 2 w in
    keeps_write_inv (took_and_returned (gone s p r 2) p r) p r (s.waiting p r 2)
    (record { named = λ l. is; first = λ z. absurd (two_is_not_one z); second = λ z l q v. known_once_taken (gone s p r 2) p r is u (λ x y ne. i.know.second p r x w y) q v })
    (ending_write_inv s p r u w i)

-- a write is forwarded
pub forwards_write_inv : (s : State) (p r : ℕ) → 0 < s.servers.forward_write p r → Inv s → Inv (forwards_write s p r)
forwards_write_inv s p r w i = posted_inv (releases_write s p r) (next_of s p) r 2 _
    (record { named = λ l. i.names.forward_write p r w; first = λ z. absurd (two_is_not_one z); second = λ z l q v. i.know.forward_write p r q w v }) (releases_write_inv s p r i)

-- a pre-write is forwarded, and its server joins those that know it
pub forwards_prewrite_inv : (s : State) (p r : ℕ) → 0 < s.servers.forward_prewrite p r → Inv s → Inv (forwards_prewrite s p r)
forwards_prewrite_inv s p r w i =
    let is = i.names.forward_prewrite p r w in
    let low : r < 256 = (let a = i.base.tag_used r is in let b = i.base.room in omega arith) in
    let here = releases_prewrite_here s p r low in
    posted_inv (releases_prewrite s p r) (next_of s p) r 1 _
    (record {
      named = λ l. is;
      first = λ z q g v. ⊎_elim
          (λ a. le_trans (i.know.forward_prewrite p r q a v) (releases_prewrite_mono s p r q v))
          (λ a. let e2 : q ≡ p = eqb-true q p (sym (has_only p q) ∙ a) in rw e2 here)
          (or_cases (has (s.servers.forward_prewrite p r) q) (has (one p) q) (sym (has_join (s.servers.forward_prewrite p r) (one p) q) ∙ g));
      second = λ z. absurd (one_is_not_two z);
    })
    (releases_prewrite_inv s p r is i)

-- the new tag is above all that p knows, and names p
pub fresh_over : (s : State) (p : ℕ) → best s p < tag_of (fresh_number s p) p
fresh_over s p =
    let g = max (tag_number (s.journal.tag (s.servers.held p))) (top (is_pending s.servers p) (λ k. tag_number (s.journal.tag k)) 256) in
    let l : best s p ≤ g * 256 + 255 = best_le s p (g * 256 + 255) (omega arith) (λ k low h. let e : is_pending s.servers p k ≡ true = grind (arith, nat_tests) in let z = top_bounds (is_pending s.servers p) (λ j. tag_number (s.journal.tag j)) 256 k low e in omega arith) in
    omega arith

-- a write starts
pub starts_inv : (s : State) (p r : ℕ) → Queued s p r → s.servers.standing p ≡ true → Inv s → Inv (starts s p r)
starts_inv s p r w u i =
    let t = tag_of (fresh_number s p) p in
    let low : r < 256 = (let a = w.low in let b = i.base.room in omega arith) in
    let few : p < 8 = (let a = i.base.up_low p u in let b = i.base.small in omega arith) in
    let here = tagged_here s p r t low in
    let is : (tagged s p r t).journal.tag r ≡ t = grind (arith, nat_tests) in
    let over = fresh_over s p in
    posted_inv (tagged s p r t) (next_of s p) r 1 (one p)
    (record {
      named = λ l. rw is (omega arith);
      first = λ z q g v. let e2 : q ≡ p = eqb-true q p (sym (has_only p q) ∙ g) in rw (is, e2) here;
      second = λ z. absurd (omega arith);
    })
    (tagged_inv s p r t w u over (a_tag_keeps_its_server (fresh_number s p) p (omega arith)) i)

-- the new next is told what is held and pending
pub turning_on_inv : (s : State) (p x : ℕ) → s.servers.standing p ≡ true → s.servers.standing x ≡ false → Inv s → Inv (sends_pending (sends_held (learns s p x) p) p)
turning_on_inv s p x u d i = posts_pending_inv _ p _ (posted_inv (learns s p x) _ (s.servers.held p) 2 _
    (record { named = λ l. i.base.held_tag p (grind (arith, nat_tests)); first = λ z. absurd (two_is_not_one z); second = λ z l q v. i.know.held p q u v }) (learns_inv s p x d i))

-- each event keeps the invariant
pub event_inv : {s : State} {k : ℕ} {t : State} → Event s k t → Inv s → Inv t
event_inv nothing i = i
event_inv {s} (writing c p a) i = begun_inv s true c p 0 a.room i
event_inv {s} (reading c p a) i = read_inv s c p a.room a.standing i
event_inv {s} (giving_up c r h) i = given_up_inv s r i
event_inv {s} (passing_write p j r u w) i = forwards_write_inv (counted s p j) p r w (counted_inv s p j i)
event_inv {s} (passing_prewrite p j r u w) i = forwards_prewrite_inv (counted s p j) p r w (counted_inv s p j i)
event_inv {s} (starting p j r u w) i = starts_inv (counted s p j) p r (queued_still s p j r w) u (counted_inv s p j i)
event_inv {s} (ending_prewrite p r u w e) i = ending_prewrite_inv s p r u w e i
event_inv {s} (keeping_prewrite p r u w e) i = keeping_prewrite_inv s p r w i
event_inv {s} (ending_write p r u w e) i = ending_write_inv s p r u w i
event_inv {s} (keeping_write p r u w e) i = keeping_write_inv s p r u w i
event_inv {s} (crashing p u m) i = crashes_inv s p i
event_inv {s} (noticing p x u d e) i = learns_inv s p x d i
event_inv {s} (turning_on p x u d e) i = turning_on_inv s p x u d i
