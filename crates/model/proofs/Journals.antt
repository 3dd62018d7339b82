-- Each event moves the journal onward; X_on says it of X.
-- New tags are above all that their server knows, and by the invariant it knows the tags of all answered operations.
use Rattle.std.proofs.Common.{◌≡◌, ℕ, ◌<◌, true, false, not, ◌&&◌, eqb, ⊎_elim, arith}
use Rattle.std.proofs.lemmas.Bool.Decides.{nat_tests}
use Rattle.counting.specs.Below.{any}
use Rattle.model.specs.State.{State, set_at, is_pending, highest_pending, tag_of}
use Rattle.model.specs.Sending.{gone}
use Rattle.model.specs.Operations.{answered, read, asked}
use Rattle.model.specs.Turns.{starts, fresh_number, counted}
use Rattle.model.specs.Deliveries.{took, raised, took_and_returned}
use Rattle.counting.proofs.Searches.{none_passes, top_is_reached}
use Rattle.model.proofs.Inv.{Base, Inv, holds, settles, returns}
use Rattle.model.proofs.Changes.{begun_inv, counted_inv, gone_inv}
use Rattle.model.proofs.Events.{Queued, Event, nothing, writing, reading, giving_up, passing_write, passing_prewrite, starting, ending_prewrite, keeping_prewrite, ending_write, keeping_write, crashing, noticing, turning_on}
use Rattle.model.proofs.Calls.{fresh_over, is_due, took_inv, queued_still}
use Rattle.model.proofs.Onward.{Onward, same_journal, begun_on, given_up_on, answered_on, tagged_on, onward_twice}

-- where nothing is pending the highest pending tag is 0
pub none_pending : (s : State) (p : ℕ) → any (is_pending s.servers p) 256 ≡ false → highest_pending s p ≡ 0
none_pending s p e = ⊎_elim (λ z. z) (λ r. absurd (let passes = r.2 in let fails = none_passes (is_pending s.servers p) 256 e r.0 r.1 in grind (arith, nat_tests))) (top_is_reached _ s.journal.tag 256)

-- a read
pub read_on : (s : State) (c p : ℕ) → s.journal.used < 256 → Inv s → Onward 1 s.journal (read s c p).journal
read_on s c p l i =
    let t = asked s c p in
    onward_twice _ _ _ _ _ _ _ _ i.base (begun_inv s false c p (highest_pending s p) l i).base (begun_on s false c p (highest_pending s p) i)
    (answered_on t (λ k. eqb k s.journal.used && not (any (is_pending s.servers p) 256)) (s.servers.held p) (λ k d. grind (arith, nat_tests)) (λ k d w. let e : any (is_pending s.servers p) 256 ≡ false = grind (arith, nat_tests) in let z = none_pending s p e in let g : set_at s.journal.threshold s.journal.used (highest_pending s p) k ≡ 0 = grind (arith, nat_tests) in rw g (omega arith)))

-- taking a row
pub took_on : (s : State) (p r : ℕ) → Onward 0 s.journal (took s p r).journal
took_on s p r = answered_on (holds s p r) (settles s p r) r (λ k d. grind (arith, nat_tests)) (λ k d w. grind (arith, nat_tests))

-- answering what is returned
returns_on : (s : State) (p : ℕ) → Onward 0 s.journal (answered s (returns s p) 0).journal
returns_on s p = answered_on s (returns s p) 0 (λ k d. (is_due s p k d).open_yet) (λ k d w. let e = (is_due s p k d).is_write in grind (arith, nat_tests))

-- taking a row and returning it
returned_on : (s : State) (p r : ℕ) → Base s.size s.journal s.servers → Base (took s p r).size (took s p r).journal (took s p r).servers → Onward 0 s.journal (took_and_returned s p r).journal
returned_on s p r b d = onward_twice _ _ _ _ _ _ _ _ b d (took_on s p r) (returns_on (raised (took s p r) p (s.journal.tag r)) p)

-- a write that comes
ending_write_on : (s : State) (p r : ℕ) → s.servers.standing p ≡ true → 0 < s.waiting p r 2 → Inv s → Onward 0 s.journal (took_and_returned (gone s p r 2) p r).journal
ending_write_on s p r u w i =
    let t = gone s p r 2 in
    let it = gone_inv s p r 2 i in
    returned_on t p r it.base (took_inv t p r (i.names.waiting p r 2 w) u (λ q v ne. i.know.second p r q w v) it).base

-- a write starts, with a tag above those of all answered operations
starts_on : (s : State) (p r : ℕ) → Queued s p r → s.servers.standing p ≡ true → Inv s → Onward 0 s.journal (starts s p r).journal
starts_on s p r w u i = tagged_on s p r (tag_of (fresh_number s p) p) w.no_tag (λ a h. let x = i.know.answered a p h u in let y = fresh_over s p in omega arith)

-- each event
pub event_on : {s : State} {k : ℕ} {t : State} → Event s k t → Inv s → Onward k s.journal t.journal
event_on {s} nothing i = same_journal s.journal
event_on {s} (writing c p a) i = begun_on s true c p 0 i
event_on {s} (reading c p a) i = read_on s c p a.room i
event_on {s} (giving_up c r h) i = given_up_on s r
event_on {s} (passing_write p j r u w) i = same_journal s.journal
event_on {s} (passing_prewrite p j r u w) i = same_journal s.journal
event_on {s} (starting p j r u w) i = starts_on (counted s p j) p r (queued_still s p j r w) u (counted_inv s p j i)
event_on {s} (ending_prewrite p r u w e) i = took_on (gone s p r 1) p r
event_on {s} (keeping_prewrite p r u w e) i = same_journal s.journal
event_on {s} (ending_write p r u w e) i = ending_write_on s p r u w i
event_on {s} (keeping_write p r u w e) i = ending_write_on s p r u w i
event_on {s} (crashing p u m) i = same_journal s.journal
event_on {s} (noticing p x u d e) i = same_journal s.journal
event_on {s} (turning_on p x u d e) i = same_journal s.journal
