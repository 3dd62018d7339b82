-- At rest, where every crash is noticed, nothing is under way and no write is queued: all standing servers hold the same row, nothing is pending, and no operation is open.
-- Nobody is cut off, so what a server holds is handed on round the circle; and with nothing under way, every pending row and every tag not yet returned would contradict what holds of writes and pre-writes.
use Rattle.std.proofs.Common.{◌≡◌, ℕ, ◌<◌, ◌≤◌, true, false, sym, ap, ◌∙◌, inr, ⊎_elim, le_trans, arith}
use Rattle.std.proofs.lemmas.Bool.Decides.{nat_tests}
use Rattle.std.proofs.lemmas.Bool.{cases_eq, cases_Bool, cases_lt, true≢false}
use Rattle.circle.proofs.Noticed.{next_is_up, next_standing_stands}
use Rattle.circle.proofs.Crashed.{walk}
use Rattle.messages.specs.declared.Phase.TheVariants.{PreWrite, Write}
use Rattle.model.specs.State.{State, is_queued, is_open}
use Rattle.model.specs.Questions.{named_row}
use Rattle.model.specs.Draining.{AllNoticed}
use Rattle.model.proofs.Inv.{best, Inv}
use Rattle.model.proofs.Held.{best_le}
use Rattle.drained.proofs.SharedChanges.{empty_before}
use Rattle.drained.proofs.EventsKeepFlow.{nexts, Flow}
use Rattle.drained.proofs.DrainedHasNothing.{NothingUnderWay}

module _ (s : State) (inv : Inv s) (flow : Flow s) (noticed : AllNoticed s) (e : NothingUnderWay s) where
  -- the tag of the row that p holds
  abbrev holds : ℕ → ℕ
  holds p = s.journal.tag (s.servers.held p)

  -- only crashed servers are noticed
  honest : (x y : ℕ) → s.servers.standing x ≡ true → s.servers.noticed x y ≡ true → s.servers.standing y ≡ false
  honest x y h = inv.base.true_crash x y

  -- nobody is cut off: the next of each standing server stands
  next_stands : (y : ℕ) → s.servers.standing y ≡ true → s.servers.standing (nexts s y) ≡ true
  next_stands y u =
      let l = inv.base.up_low y u in
      ap s.servers.standing (next_is_up s.size s.servers.standing s.servers.noticed honest noticed y l u) ∙ next_standing_stands s.size s.servers.standing y y l l u

  -- no standing server holds more than another: a tag is handed on round the circle
  holds_no_more : (a b : ℕ) → s.servers.standing a ≡ true → s.servers.standing b ≡ true → holds a ≤ holds b
  holds_no_more a b u v = ⊎_elim
      (λ z. absurd z)
      (λ h. h)
      (walk s.size s.servers.standing s.servers.noticed honest (λ y. holds a ≤ holds y) ⊥ b (inv.base.up_low b v) v
      (λ y ly uy ne h. inr (
        next_stands y uy,
        ⊎_elim
            (λ (l : holds (nexts s y) < holds a).
            let w = flow.writes.onward y uy (next_stands y uy) (le_trans l h) (λ k pos. absurd (let z = e.no_message (nexts s y) k Write in omega arith)) in
            absurd (let z = e.no_write_to_forward y (s.servers.held y) in omega arith))
            (λ (l : holds a ≤ holds (nexts s y)). l)
            (cases_lt (holds (nexts s y)) (holds a)),
      ))
      a (inv.base.up_low a u) u (omega arith))

  -- they hold the same tag, and so the same row
  pub same_row : (a b : ℕ) → s.servers.standing a ≡ true → s.servers.standing b ≡ true → s.servers.held a ≡ s.servers.held b
  same_row a b u v =
      let same : holds a ≡ holds b = (let x = holds_no_more a b u v in let y = holds_no_more b a v u in omega arith) in
      let ta = inv.base.held_tag a in
      let tb = inv.base.held_tag b in
      ⊎_elim
      (λ (z : holds a ≡ 0). let za : s.servers.held a ≡ 0 = empty_before ta z in let zb : s.servers.held b ≡ 0 = empty_before tb (sym same ∙ z) in za ∙ sym zb)
      (λ (nz : holds a ≡ 0 → ⊥). inv.ranks.apart (s.servers.held a) (s.servers.held b) (omega arith) (omega arith) same)
      (cases_eq (holds a) 0)

  -- a pending row would have its pre-write under way, or a server that holds no less
  nothing_pending : (p r : ℕ) → s.servers.standing p ≡ true → 0 < s.servers.pending p r → ⊥
  nothing_pending p r u h = flow.prewrites.live p r u h (λ x. e.no_message x r PreWrite) (λ x. e.no_prewrite_to_forward x r) (λ x v _. next_stands x v) (λ x v. let a = inv.ranks.above p r h in let b = holds_no_more x p v u in omega arith)

  -- a tag not yet returned would have its write under way
  all_returned : (p : ℕ) → s.servers.standing p ≡ true → holds p ≤ s.servers.returned p
  all_returned p u = flow.writes.live p u (λ y k pos. absurd (let z = e.no_message y k Write in omega arith)) (λ y k pos. absurd (let z = e.no_write_to_forward y k in omega arith)) (λ y v _. next_stands y v)

  -- what a standing server knows, it holds
  holds_all_it_knows : (p : ℕ) → s.servers.standing p ≡ true → best s p ≤ holds p
  holds_all_it_knows p u = best_le s p (holds p) (omega arith) (λ k l h. absurd (nothing_pending p k u h))

  -- no answered operation has a higher tag
  pub answered_below : (a p : ℕ) → s.journal.answered a ≡ true → s.servers.standing p ≡ true → s.journal.tag (named_row s.journal a) ≤ holds p
  answered_below a p d u = le_trans (inv.know.answered a p d u) (holds_all_it_knows p u)

  -- an open write without a tag is queued at its server
  untagged_is_queued : (k : ℕ) → is_open s.journal k ≡ true → s.journal.is_write k ≡ true → s.journal.tag k ≡ 0 → is_queued s.journal (s.journal.server k) k ≡ true
  untagged_is_queued k o w z = grind (arith, nat_tests)

  -- no operation is open at a standing server
  pub nothing_open : (k : ℕ) → is_open s.journal k ≡ true → s.servers.standing (s.journal.server k) ≡ true → ⊥
  nothing_open k o u = ⊎_elim
      (λ (w : s.journal.is_write k ≡ true). ⊎_elim
      (λ (z : s.journal.tag k ≡ 0). true≢false (sym (untagged_is_queued k o w z) ∙ e.no_write_queued (s.journal.server k) k u))
      (λ nz.
      let pos : 0 < s.journal.tag k = omega arith in
      let a = flow.owed.started k o w pos u in
      let b = inv.ranks.own k pos u in
      let c = holds_all_it_knows (s.journal.server k) u in
      let d = all_returned (s.journal.server k) u in
      omega arith)
      (cases_eq (s.journal.tag k) 0))
      (λ (w : s.journal.is_write k ≡ false). flow.owed.waiting k o w u (λ r h. absurd (nothing_pending (s.journal.server k) r u h)))
      (cases_Bool (s.journal.is_write k))
