-- Of an operation a that is answered before an operation b begins: the tag of b, or the tag that it waits for, is no lower.
-- It holds when b begins, since its server knows the tag of a, and it stays as the journal moves onward.
use Rattle.std.proofs.Common.{◌≡◌, ℕ, ◌<◌, ◌≤◌, true, false, sym, ◌∙◌, ⊎_elim, le_trans, arith}
use Rattle.std.proofs.lemmas.Bool.Decides.{nat_tests}
use Rattle.std.proofs.lemmas.Bool.{cases_eq, cases_Bool, true≢false}
use Rattle.counting.specs.Below.{any}
use Rattle.model.specs.State.{Journal, Servers, State, is_pending, highest_pending}
use Rattle.model.specs.Questions.{named_row}
use Rattle.model.specs.Operations.{wrote, read}
use Rattle.counting.proofs.Searches.{none_passes, some_passes, top_bounds}
use Rattle.model.proofs.Inv.{best, Base, Inv}
use Rattle.model.proofs.Held.{best_le}
use Rattle.model.proofs.Onward.{Onward, named_tag_stays, still_used}

-- a is answered, and b began after it: b waits for no less than the tag of a, has a higher tag, or gives no lower one
pub record Later (l : Journal) (a b : ℕ) : Type 0 where
  pub low : b < l.used
  pub answered : l.answered a ≡ true
  pub less : a < b
  pub waits : l.is_write b ≡ false → l.answered b ≡ false → l.tag (named_row l a) ≤ l.threshold b
  pub writes : 0 < l.tag b → l.tag (named_row l a) < l.tag b
  pub reads : l.is_write b ≡ false → l.answered b ≡ true → l.tag (named_row l a) ≤ l.tag (l.gave b)

-- it stays so as the journal moves onward
pub later_on : (more n : ℕ) (l : Journal) (servers : Servers) (k : ℕ) (m : Journal) (servers2 : Servers) → Base n l servers → Base k m servers2 → Onward more l m → (a b : ℕ) → Later l a b → Later m a b
later_on more n l servers k m servers2 bl bm o a b h =
    let same = named_tag_stays more n l servers k m servers2 bl bm o a h.answered in
    let low = h.low in
    let w = o.is_write b low in
    record {
      low = still_used b l.used m.used more low o.used;
      answered = o.answered a h.answered;
      less = h.less;
      waits = λ wf df. ⊎_elim
          (λ t. absurd (true≢false (sym (o.answered b t) ∙ df)))
          (λ f. let x = h.waits (sym w ∙ wf) f in let y = o.threshold b low df in omega arith)
          (cases_Bool (l.answered b));
      writes = λ pos. ⊎_elim
          (λ z. let x = o.new_tag b a z pos h.answered in omega arith)
          (λ nz. let p2 : 0 < l.tag b = omega arith in let x = h.writes p2 in let y = o.tag b p2 in omega arith)
          (cases_eq (l.tag b) 0);
      reads = λ wf dt. ⊎_elim
          (λ t. let x = h.reads (sym w ∙ wf) t in rw (o.gave b t) (⊎_elim
          (λ z. omega arith)
          (λ nz. let y = o.tag (l.gave b) (omega arith) in omega arith)
          (cases_eq (l.tag (l.gave b)) 0)))
          (λ f. let x = h.waits (sym w ∙ wf) f in let y = o.answer b low f dt (sym w ∙ wf) in omega arith)
          (cases_Bool (l.answered b));
    }

-- nothing is pending: p knows no more than it holds
best_held_only : (s : State) (p : ℕ) → any (is_pending s.servers p) 256 ≡ false → best s p ≤ s.journal.tag (s.servers.held p)
best_held_only s p e = best_le s p _ (omega arith) (λ k l h. absurd (let x = none_passes (is_pending s.servers p) 256 e k l in grind (arith, nat_tests)))

-- something is pending: p knows no more than the highest pending tag
best_pending : (s : State) (p : ℕ) → Inv s → any (is_pending s.servers p) 256 ≡ true → best s p ≤ highest_pending s p
best_pending s p i e = best_le s p _
    (let w = some_passes (is_pending s.servers p) 256 e in let x = top_bounds (is_pending s.servers p) s.journal.tag 256 w.0 w.1 w.2 in let pos : 0 < s.servers.pending p w.0 = (let y = w.2 in grind (arith, nat_tests)) in let z = i.ranks.above p w.0 pos in omega arith)
    (λ k l h. top_bounds (is_pending s.servers p) s.journal.tag 256 k l (grind (arith, nat_tests)))

module _ (s : State) (c p a : ℕ) (i : Inv s) (h : s.journal.answered a ≡ true) where
  -- a is in an old row
  old_row : a < s.journal.used
  old_row = i.base.done_used a h

  -- the new row has no tag
  no_tag : s.journal.tag s.journal.used ≡ 0
  no_tag = let x = i.base.tag_used s.journal.used in grind (arith, nat_tests)

  -- a new write is later than every answered operation
  pub later_wrote : Later (wrote s c p).journal a s.journal.used
  later_wrote = let o = old_row in let z = no_tag in record {
    low = omega arith;
    answered = grind (arith, nat_tests);
    less = o;
    waits = λ w d. grind (arith, nat_tests);
    writes = λ pos. absurd (omega arith);
    reads = λ w d. grind (arith, nat_tests);
  }

  -- a read changes nothing of what a names
  same_row : named_row (read s c p).journal a ≡ named_row s.journal a
  same_row = let o = old_row in grind (arith, nat_tests)

  -- a new read is later than every answered operation
  pub later_read : s.servers.standing p ≡ true → Later (read s c p).journal a s.journal.used
  later_read u =
      let o = old_row in let z = no_tag in let known : s.journal.tag (named_row s.journal a) ≤ best s p = i.know.answered a p h u in
      record {
        low = omega arith;
        answered = grind (arith, nat_tests);
        less = o;
        waits = λ w d.
            let e : any (is_pending s.servers p) 256 ≡ true = grind (arith, nat_tests) in
            let t : (read s c p).journal.threshold s.journal.used ≡ highest_pending s p = grind (arith, nat_tests) in
            rw (same_row, t) (le_trans known (best_pending s p i e));
        writes = λ pos. absurd (omega arith);
        reads = λ w d.
            let e : any (is_pending s.servers p) 256 ≡ false = grind (arith, nat_tests) in
            let t : (read s c p).journal.gave s.journal.used ≡ s.servers.held p = grind (arith, nat_tests) in
            rw (same_row, t) (le_trans known (best_held_only s p e));
      }
