-- Every event keeps what holds of writes and pre-writes under way and of what is owed to open operations.
-- Each event is one of the changes for which this is shown over plain functions; what is left to show here are the facts of the ring: who is in a mask that covers, that there is one stand-in, and that a crash cuts someone off.
use Rattle.std.proofs.Common.{◌≡◌, ℕ, ◌<◌, ◌≤◌, Bool, true, false, cond, ◌&&◌, eqb, ltb, sym, refl, ap, ◌∙◌, inr, ⊎_elim, arith}
use mathlib.Core.Path.{fun_ext}
use Rattle.std.proofs.lemmas.Bool.Decides.{nat_tests}
use Rattle.std.proofs.lemmas.Bool.{cases_eq, true≢false, and_parts}
use Rattle.servers.specs.Sets.{has, join, one}
use Rattle.servers.proofs.Members.{sets}
use Rattle.circle.specs.Circle.{next, stands_in, covers}
use Rattle.circle.proofs.Ring.{next_is, next_unique, stands_in_more, covers_at}
use Rattle.circle.proofs.Crashed.{standing_before, next_cut, one_stand_in, walk}
use Rattle.model.specs.State.{State, set_at2, tag_server, tag_of}
use Rattle.model.specs.Sending.{next_of, sent, gone}
use Rattle.model.specs.Turns.{forwards_prewrite, forwards_write, starts, fresh_number, counted}
use Rattle.model.specs.Deliveries.{ends_at, took, took_and_returned, keeps_prewrite, keeps_write}
use Rattle.model.specs.Crashes.{crashes, learns, sends_held, sends_pending}
use Rattle.model.specs.Runs.{Run}
use Rattle.model.proofs.Inv.{Inv}
use Rattle.model.proofs.Held.{best_held}
use Rattle.model.proofs.Events.{Event, Queued, nothing, writing, reading, giving_up, passing_write, passing_prewrite, starting, ending_prewrite, keeping_prewrite, ending_write, keeping_write, crashing, noticing, turning_on}
use Rattle.model.proofs.Calls.{fresh_over, queued_still}
use Rattle.model.proofs.Changes.{counted_inv}
use Rattle.drained.proofs.KeptAlongRuns.{HoldsWhenNew, holds_all_along}
use Rattle.drained.proofs.SharedChanges.{empty_before, posted_otherwise}
use Rattle.drained.proofs.WritesUnderWay.{Writes, same_writes, forwarding_keeps_writes, ending_prewrite_keeps_writes, tagging_keeps_writes}
use Rattle.drained.proofs.WritesDelivered.{keeping_keeps_writes, ending_keeps_writes}
use Rattle.drained.proofs.WritesAfterCrash.{crashing_keeps_writes, noticing_keeps_writes, turning_on_keeps_writes}
use Rattle.drained.proofs.PrewritesUnderWay.{Prewrites, same_prewrites, keeping_keeps_prewrites, taking_keeps_prewrites, forwarding_keeps_prewrites, starting_keeps_prewrites, crashing_keeps_prewrites, noticing_keeps_prewrites, turning_on_keeps_prewrites}
use Rattle.drained.proofs.OpenIsOwed.{OwedIn, beginning_keeps_owed, reading_keeps_owed, giving_up_keeps_owed, taking_keeps_owed, returning_keeps_owed, forwarding_keeps_owed, tagging_keeps_owed, crashing_keeps_owed}

-- the next of each server
abbrev pub nexts : State → ℕ → ℕ
nexts s y = next s.size (s.servers.noticed y) y

-- whose stand-in each server is
abbrev stand_ins : State → ℕ → ℕ → Bool
stand_ins s q o = stands_in s.size (s.servers.noticed q) q o

-- what holds of writes under way, in this state
abbrev WritesIn : State → Type 0
WritesIn s = Writes s.journal.tag s.servers.standing s.servers.held s.servers.returned (nexts s) (stand_ins s) s.servers.forward_write (λ p r. s.waiting p r 2)

-- what holds of pre-writes under way, in this state
abbrev PrewritesIn : State → Type 0
PrewritesIn s = Prewrites s.journal.tag s.servers.standing s.servers.held (nexts s) s.servers.pending s.servers.forward_prewrite (λ p r. s.waiting p r 1)

-- what holds of writes and pre-writes under way, and what is owed to open operations
pub record Flow (s : State) : Type 0 where
  pub writes : WritesIn s
  pub prewrites : PrewritesIn s
  pub owed : OwedIn s

module _ (s : State) (inv : Inv s) (f : Flow s) where
  -- only crashed servers are noticed
  honest : (x y : ℕ) → s.servers.standing x ≡ true → s.servers.noticed x y ≡ true → s.servers.standing y ≡ false
  honest x y h = inv.base.true_crash x y

  -- p forwards a write
  passing_write_keeps_flow : (p r : ℕ) → s.servers.standing p ≡ true → 0 < s.servers.forward_write p r → Flow (forwards_write s p r)
  passing_write_keeps_flow p r u w = record {
    writes = forwarding_keeps_writes f.writes p r u w;
    prewrites = same_prewrites f.prewrites _ (posted_otherwise (λ x k. s.waiting x k 1) _ _ _ _ _ refl);
    owed = f.owed;
  }

  -- p forwards a pre-write
  passing_prewrite_keeps_flow : (p r : ℕ) → s.servers.standing p ≡ true → 0 < s.servers.forward_prewrite p r → Flow (forwards_prewrite s p r)
  passing_prewrite_keeps_flow p r u w = record {
    writes = same_writes f.writes _ (posted_otherwise (λ x k. s.waiting x k 2) _ _ _ _ _ refl);
    prewrites = forwarding_keeps_prewrites f.prewrites p r (join (s.servers.forward_prewrite p r) (one p)) u (grind (arith, nat_tests, sets));
    owed = forwarding_keeps_owed s p r f.owed;
  }

  module _ (p r : ℕ) (w : Queued s p r) (u : s.servers.standing p ≡ true) where
    -- nobody holds a row that is still queued
    queued_is_not_held : (x : ℕ) → s.servers.held x ≡ r → ⊥
    queued_is_not_held x e = let a = w.no_tag in let b = w.open_yet in let c = inv.base.zero_done in let d = inv.base.held_tag x in
        ⊎_elim (λ (z : r ≡ 0). true≢false (sym c ∙ (sym (ap s.journal.answered z) ∙ b))) (λ nz. let g = d (omega arith) in let y = ap s.journal.tag e in omega arith) (cases_eq r 0)

    -- p starts a queued write: its tag is above what p has returned
    starting_keeps_flow : Flow (starts s p r)
    starting_keeps_flow =
        let t = tag_of (fresh_number s p) p in
        let none = w.no_tag in
        let none_pending : (x : ℕ) → s.servers.pending x r ≡ 0 = (λ x. empty_before (inv.names.pending x r) none) in
        let over : s.servers.returned p < t = (let a = f.writes.returned_below_held p in let b = best_held s p in let c = fresh_over s p in omega arith) in
        record {
          writes = same_writes
              (tagging_keeps_writes f.writes r t (λ x. empty_before (inv.names.forward_write x r) none) (λ x. empty_before (inv.names.waiting x r 2) none) queued_is_not_held)
              _ (posted_otherwise (λ x k. s.waiting x k 2) _ _ _ _ _ refl);
          prewrites = starting_keeps_prewrites f.prewrites p r t u none_pending queued_is_not_held;
          owed = tagging_keeps_owed s p r t w.here none_pending over f.owed;
        }

  -- a message comes to p
  module _ (p r : ℕ) (u : s.servers.standing p ≡ true) where
    -- the server that the tag of row r names
    abbrev origin : ℕ
    origin = tag_server (s.journal.tag r)

    -- where the mask covers, all others that stand are in it
    in_covering_mask : (m : ℕ) → covers s.size (s.servers.noticed p) p m ≡ true → (q : ℕ) → s.servers.standing q ≡ true → (q ≡ p → ⊥) → has m q ≡ true
    in_covering_mask m c q v ne =
        let unseen : s.servers.noticed p q ≡ false = (let z = inv.base.true_crash p q in grind (arith, nat_tests)) in
        covers_at s.size (s.servers.noticed p) p m q c (inv.base.up_low q v) unseen ne

    -- where p is stand-in for the tag of a started write, no other standing server is
    only_stand_in : 0 < s.journal.tag r → stand_ins s p origin ≡ true → (q : ℕ) → s.servers.standing q ≡ true → stand_ins s q origin ≡ true → q ≡ p
    only_stand_in pos h q v g = one_stand_in s.size s.servers.standing s.servers.noticed honest q p origin (inv.base.up_low q v) (inv.base.up_low p u) (inv.base.tag_low r pos) v u g h

    -- a pre-write ends at p
    ending_prewrite_keeps_flow : ends_at s p r (s.waiting p r 1) ≡ true → Flow (sent (took (gone s p r 1) p r) p r 2 (one p))
    ending_prewrite_keeps_flow e = record {
      writes = same_writes (ending_prewrite_keeps_writes f.writes p r u (and_parts _ _ e).0) _ (λ x k. posted_without_it x k);
      prewrites = same_prewrites (taking_keeps_prewrites f.prewrites p r u true) _ (posted_otherwise (λ x k. (gone s p r 1).waiting x k 1) _ _ _ _ _ refl);
      owed = taking_keeps_owed (gone s p r 1) p r f.owed;
    }
      where
        posted_without_it : (x k : ℕ) → (sent (took (gone s p r 1) p r) p r 2 (one p)).waiting x k 2 ≡ cond (s.servers.standing (next_of s p) && (eqb x (next_of s p) && (eqb k r && true))) (join (s.waiting x k 2) (one p)) (s.waiting x k 2)
        posted_without_it x k = grind (arith, nat_tests)

    -- a pre-write is kept at p, to be forwarded
    keeping_prewrite_keeps_flow : Flow (keeps_prewrite (gone s p r 1) p r (s.waiting p r 1))
    keeping_prewrite_keeps_flow = record {
      writes = same_writes f.writes _ (λ x k. grind (arith, nat_tests));
      prewrites = keeping_keeps_prewrites f.prewrites p r;
      owed = f.owed;
    }

    -- a write ends at p, which is the only stand-in, and all others are in its mask
    ending_write_keeps_flow : 0 < s.waiting p r 2 → ends_at s p r (s.waiting p r 2) ≡ true → Flow (took_and_returned (gone s p r 2) p r)
    ending_write_keeps_flow w e = record {
      writes = ending_keeps_writes f.writes p r w (in_covering_mask (s.waiting p r 2) (and_parts _ _ e).1) (only_stand_in (inv.names.waiting p r 2 w) (and_parts _ _ e).0);
      prewrites = taking_keeps_prewrites f.prewrites p r u false;
      owed = returning_keeps_owed (gone s p r 2) p r f.owed;
    }

    -- a write is kept at p, to be forwarded
    keeping_write_keeps_flow : 0 < s.waiting p r 2 → Flow (keeps_write (took_and_returned (gone s p r 2) p r) p r (s.waiting p r 2))
    keeping_write_keeps_flow w = record {
      writes = keeping_keeps_writes f.writes p r w;
      prewrites = taking_keeps_prewrites f.prewrites p r u false;
      owed = returning_keeps_owed (gone s p r 2) p r f.owed;
    }

  -- c crashes
  module _ (c : ℕ) (uc : s.servers.standing c ≡ true) where
    -- who stands then
    abbrev stands : ℕ → Bool
    stands q = cond (eqb q c) false (s.servers.standing q)

    -- still only crashed servers are noticed
    honest_then : (x y : ℕ) → stands x ≡ true → s.servers.noticed x y ≡ true → stands y ≡ false
    honest_then x y h g = let a = inv.base.true_crash x y g in grind (arith, nat_tests)

    -- someone is cut off, so nothing is handed on round the circle for ever
    not_round_for_ever : (P : ℕ → Type 0) → ((y : ℕ) → stands y ≡ true → P y → (stands (nexts s y) ≡ true) × P (nexts s y)) → (a : ℕ) → stands a ≡ true → P a → ⊥
    not_round_for_ever P step a ua pa =
        let la = inv.base.up_low a (grind (arith, nat_tests)) in
        let lc = inv.base.up_low c uc in
        let ne : a ≡ c → ⊥ = grind (arith, nat_tests) in
        let v = standing_before s.size stands c a lc la ua ne in
        let unseen : s.servers.noticed v.0 c ≡ false = (let z = inv.base.true_crash v.0 c in grind (arith, nat_tests)) in
        let down : stands c ≡ false = grind (arith, nat_tests) in
        let cut = next_cut s.size stands s.servers.noticed honest_then v.0 c v.1 lc v.2 down unseen v.4 in
        ⊎_elim
        (λ b. b)
        (λ pv. true≢false (sym (step v.0 v.2 pv).0 ∙ cut))
        (walk s.size stands s.servers.noticed honest_then P ⊥ v.0 v.1 v.2 (λ y ly uy _ py. inr (step y uy py)) a la ua pa)

    -- neither a held tag nor a pending row can be handed on for ever
    crashing_keeps_flow : Flow (crashes s c)
    crashing_keeps_flow = record {
      writes = crashing_keeps_writes f.writes c (λ h. not_round_for_ever (λ y. h ≤ s.journal.tag (s.servers.held y)));
      prewrites = crashing_keeps_prewrites f.prewrites c (λ k. not_round_for_ever (λ y. 0 < cond (eqb y c) 0 (s.servers.pending y k)));
      owed = crashing_keeps_owed s c f.owed;
    }

  -- p notices the crash of x
  module _ (p x : ℕ) (u : s.servers.standing p ≡ true) where
    -- who has noticed whose crash then
    abbrev notices : ℕ → ℕ → Bool
    notices = set_at2 s.servers.noticed p x true

    -- the next of each server then
    abbrev nexts_then : ℕ → ℕ
    nexts_then y = next s.size (notices y) y

    -- whose stand-in each server is then
    abbrev stand_ins_then : ℕ → ℕ → Bool
    stand_ins_then q o = stands_in s.size (notices q) q o

    -- what others have noticed stays, and so does their next
    others_keep_their_next : (y : ℕ) → (y ≡ p → ⊥) → nexts s y ≡ nexts_then y
    others_keep_their_next y ne = ap (λ (g : ℕ → Bool). next s.size g y) (fun_ext (λ q. grind (arith, nat_tests)))

    -- nothing that was noticed is forgotten
    notices_more : (y q : ℕ) → s.servers.noticed y q ≡ true → notices y q ≡ true
    notices_more y q h = grind (arith, nat_tests)

    -- who has noticed more is stand-in still
    stand_ins_stay : (q o : ℕ) → stand_ins s q o ≡ true → stand_ins_then q o ≡ true
    stand_ins_stay q o h = stands_in_more s.size (s.servers.noticed q) (notices q) q o (notices_more q) h

    -- the next of p stays the first that p has not noticed
    next_stays_unless_it_crashed : (next_of s p ≡ x → ⊥) → next_of s p ≡ nexts_then p
    next_stays_unless_it_crashed ne =
        let low = inv.base.up_low p u in
        let y = next_is s.size (s.servers.noticed p) p low in
        sym (next_unique s.size (notices p) p (next_of s p) low record {
          steps = y.steps;
          some = y.some;
          round = y.round;
          there = y.there;
          skipped = λ j a b. notices_more p _ (y.skipped j a b);
          fresh = λ l. let a = y.fresh l in grind (arith, nat_tests);
        })

    -- p keeps its next
    noticing_keeps_flow : (next_of s p ≡ x → ⊥) → Flow (learns s p x)
    noticing_keeps_flow ne =
        let same : (y : ℕ) → nexts s y ≡ nexts_then y = (λ y. ⊎_elim (λ (e : y ≡ p). rw e (next_stays_unless_it_crashed ne)) (λ d. others_keep_their_next y d) (cases_eq y p)) in
        record {
          writes = noticing_keeps_writes f.writes nexts_then stand_ins_then stand_ins_stay same;
          prewrites = noticing_keeps_prewrites f.prewrites nexts_then same;
          owed = f.owed;
        }

    -- p turns to its new next, and sends it the held row and the pending rows
    turning_on_keeps_flow : Flow (sends_pending (sends_held (learns s p x) p) p)
    turning_on_keeps_flow = record {
      writes = same_writes (turning_on_keeps_writes f.writes nexts_then stand_ins_then stand_ins_stay p u others_keep_their_next inv.base.zero_tag) _ (λ y k. writes_then y k);
      prewrites = same_prewrites (turning_on_keeps_prewrites f.prewrites p u nexts_then others_keep_their_next (λ k h. let a = inv.base.tag_used k (inv.names.pending p k h) in let b = inv.base.room in omega arith)) _ (λ y k. prewrites_then y k);
      owed = f.owed;
    }
      where
        writes_then : (y k : ℕ) → (sends_pending (sends_held (learns s p x) p) p).waiting y k 2 ≡ (sends_held (learns s p x) p).waiting y k 2
        writes_then y k = grind (arith, nat_tests)

        prewrites_then : (y k : ℕ) → (sends_pending (sends_held (learns s p x) p) p).waiting y k 1 ≡ cond (s.servers.standing (nexts_then p) && (eqb y (nexts_then p) && (true && ltb k 256))) (join (s.waiting y k 1) (s.servers.pending p k)) (s.waiting y k 1)
        prewrites_then y k = grind (arith, nat_tests)

-- the next row to be used has no tag yet
unused_has_no_tag : (s : State) → Inv s → s.journal.tag s.journal.used ≡ 0
unused_has_no_tag s i = ⊎_elim (λ z. z) (λ nz. let a = i.base.tag_used s.journal.used (omega arith) in absurd (omega arith)) (cases_eq (s.journal.tag s.journal.used) 0)

-- in a new ring nothing is under way, and nothing is owed
new_flow : HoldsWhenNew Flow
new_flow n waiting none = record {
  writes = record {
    forwarder_returned = λ p r h. absurd (omega arith);
    returned_below_held = λ p. omega arith;
    in_forwarded_took = λ p r q h v. record { holds = omega arith; or_stands_in = λ l. absurd (omega arith) };
    in_waiting_took = λ p r q h v. record { holds = omega arith; or_stands_in = λ l. absurd (omega arith) };
    holder_stands_in = λ p v l. absurd (omega arith);
    onward = λ y v u l a. absurd (omega arith);
    live = λ p v a b c. omega arith;
  };
  prewrites = record { onward = λ y k v h a b c d. absurd (omega arith); live = λ y k v h a b c d. absurd (omega arith) };
  owed = record { started = λ k o x l v. absurd (omega arith); waiting = λ k o x v a. grind (arith, nat_tests) };
}

-- the turn counts do not matter
counted_flow : (s : State) (p j : ℕ) → Flow s → Flow (counted s p j)
counted_flow s p j f = record { writes = f.writes; prewrites = f.prewrites; owed = f.owed }

-- one clause for each kind of event
event_keeps_flow : {s : State} {more : ℕ} {t : State} → Event s more t → Inv s → Flow s → Flow t
event_keeps_flow nothing i f = f
event_keeps_flow {s} (writing c p a) i f = record { writes = f.writes; prewrites = f.prewrites; owed = beginning_keeps_owed s true c p 0 (unused_has_no_tag s i) (λ e. absurd (true≢false e)) f.owed }
event_keeps_flow {s} (reading c p a) i f = record { writes = f.writes; prewrites = f.prewrites; owed = reading_keeps_owed s c p (unused_has_no_tag s i) f.owed }
event_keeps_flow {s} (giving_up c r h) i f = record { writes = f.writes; prewrites = f.prewrites; owed = giving_up_keeps_owed s r f.owed }
event_keeps_flow {s} (passing_write p j r u w) i f = passing_write_keeps_flow (counted s p j) (counted_inv s p j i) (counted_flow s p j f) p r u w
event_keeps_flow {s} (passing_prewrite p j r u w) i f = passing_prewrite_keeps_flow (counted s p j) (counted_inv s p j i) (counted_flow s p j f) p r u w
event_keeps_flow {s} (starting p j r u w) i f = starting_keeps_flow (counted s p j) (counted_inv s p j i) (counted_flow s p j f) p r (queued_still s p j r w) u
event_keeps_flow {s} (ending_prewrite p r u w e) i f = ending_prewrite_keeps_flow s i f p r u e
event_keeps_flow {s} (keeping_prewrite p r u w e) i f = keeping_prewrite_keeps_flow s i f p r u
event_keeps_flow {s} (ending_write p r u w e) i f = ending_write_keeps_flow s i f p r u w e
event_keeps_flow {s} (keeping_write p r u w e) i f = keeping_write_keeps_flow s i f p r u w
event_keeps_flow {s} (crashing p u m) i f = crashing_keeps_flow s i f p u
event_keeps_flow {s} (noticing p x u d ne) i f = noticing_keeps_flow s i f p x u ne
event_keeps_flow {s} (turning_on p x u d e) i f = turning_on_keeps_flow s i f p x u

-- it holds all along a run
pub flow_at : {V : Type 0} (run : Run V) (j : ℕ) → j ≤ run.length → Flow (run.at j).state
flow_at = holds_all_along Flow new_flow record { event = λ e i h. event_keeps_flow e i h }
