-- A drained shelf of a run has nothing under way: no message waits, nothing is to be forwarded, and no write is queued at a standing server.
-- Otherwise a turn or a delivery at a standing server would be accepted; and a crashed server has nothing.
use Rattle.std.proofs.Common.{◌≡◌, ℕ, ◌<◌, ◌≤◌, true, false, ◌&&◌, eqb, leb, Some, None, Option, refl, ◌∙◌, inr, ⊎_elim, arith}
use Rattle.std.proofs.lemmas.Bool.Decides.{nat_tests}
use Rattle.std.proofs.lemmas.Bool.{cases_eq, cases_Bool, cases_lt, or_parts}
use Rattle.model.specs.declared.Call.TheVariants.{Deliver}
use Rattle.model.specs.declared.Refusal.{Refusal}
use Rattle.model.specs.declared.Refusal.TheVariants.{NothingToSend}
use Rattle.model.specs.declared.Outcome.{Outcome}
use Rattle.model.specs.declared.Outcome.TheVariants.{Done, Refused}
use Rattle.messages.specs.declared.Phase.{Phase}
use Rattle.messages.specs.Phases.{phase_number}
use Rattle.counting.specs.Below.{any}
use Rattle.counting.proofs.Searches.{none_passes, none_is_least}
use Rattle.model.specs.State.{State, Shelf, tag_server, is_queued, is_stray}
use Rattle.model.specs.Refusals.{refuse_server, unless_found}
use Rattle.model.specs.Turns.{refuse_turn, chosen_group, group_waits, counts_before, has_entry, has_entry_of, turns}
use Rattle.model.specs.Deliveries.{delivered, HandsOut}
use Rattle.model.specs.Steps.{with_state, Step}
use Rattle.model.specs.Draining.{Drained}
use Rattle.model.proofs.Inv.{Inv}
use Rattle.drained.proofs.CrashedHaveNothing.{CrashedIdle}

-- nothing is under way, and no write is queued at a standing server
pub record NothingUnderWay (s : State) : Type 0 where
  pub no_message : (p r : ℕ) (f : Phase) → s.waiting p r (phase_number f) ≡ 0
  pub no_prewrite_to_forward : (p r : ℕ) → s.servers.forward_prewrite p r ≡ 0
  pub no_write_to_forward : (p r : ℕ) → s.servers.forward_write p r ≡ 0
  pub no_write_queued : (p k : ℕ) → s.servers.standing p ≡ true → is_queued s.journal p k ≡ false

-- what waits is not stray
pub waits_for_a_started_write : (s : State) (p r f : ℕ) → 0 < s.waiting p r f → Inv s → is_stray s.journal r ≡ false
waits_for_a_started_write s p r f w i = let a = i.names.waiting p r f w in let b = i.base.zero_tag in grind (arith, nat_tests)

-- an accepted call is not a refused one
done_is_not_refused : {e : Refusal} → ◌≡◌ {A = Outcome} Done (Refused e) → ⊥
done_is_not_refused h = let z : ◌≡◌ {A = ℕ} 0 1 = cc in omega arith

-- a call at a standing server is refused only for the reasons that follow
standing_is_not_refused : (s : State) (p : ℕ) (rest : Option Refusal) → p < s.size → s.servers.standing p ≡ true → refuse_server s p rest ≡ rest
standing_is_not_refused s p rest l u = let a : leb s.size p ≡ false = grind (arith, nat_tests) in rw (a, u) refl

-- what is refused because nothing was found: nothing was found
not_found : (e : Refusal) (o : Option ℕ) → (unless_found e o ≡ None → ⊥) → o ≡ None
not_found e None h = refl
not_found e (Some r) h = absurd (h refl)

-- where no group waits there is no entry: it would be in the group of the server that its tag names
no_group_no_entry : (s : State) (p r : ℕ) → ((j : ℕ) → j < 8 → group_waits s p j ≡ false) → r < 256 → tag_server (s.journal.tag r) < 8 → has_entry s.servers p r ≡ false
no_group_no_entry s p r h l few =
    let a : any (has_entry_of s p (tag_server (s.journal.tag r))) 256 ≡ false = (or_parts _ _ (h (tag_server (s.journal.tag r)) few)).0 in
    let b = none_passes _ 256 a r l in
    grind (arith, nat_tests)

-- nor a queued write: it would be in the group of its server
no_group_no_queue : (s : State) (p k : ℕ) → ((j : ℕ) → j < 8 → group_waits s p j ≡ false) → p < 8 → k < 256 → is_queued s.journal p k ≡ false
no_group_no_queue s p k h few l =
    let a : (eqb p p && any (is_queued s.journal p) 256) ≡ false = (or_parts (any (has_entry_of s p p) 256) _ (h p few)).1 in
    let b : any (is_queued s.journal p) 256 ≡ false = grind (arith, nat_tests) in
    none_passes (is_queued s.journal p) 256 b k l

module _ {V : Type 0} (s : Shelf V) (inv : Inv s.state) (idle : CrashedIdle s.state) (d : Drained s) where
  -- its ring and wiring
  abbrev state : State
  state = s.state

  -- no group waits at a standing server, or a turn there would be accepted
  no_group_waits : (p : ℕ) → state.servers.standing p ≡ true → (j : ℕ) → j < 8 → group_waits state p j ≡ false
  no_group_waits p u =
      let l = inv.base.up_low p u in
      let no_turn : refuse_turn state p ≡ None → ⊥ = (λ e. let r = d.turn p Done (with_state s (turns state p (chosen_group state p))) (rw e (refl, refl), refl) in done_is_not_refused r.1) in
      let none : chosen_group state p ≡ None = not_found NothingToSend (chosen_group state p) (λ e. no_turn (standing_is_not_refused state p _ l u ∙ e)) in
      none_is_least (group_waits state p) (counts_before state.servers p) 8 none

  -- no message waits for a standing server, or a delivery there would be accepted
  no_message_waits : (p r : ℕ) (f : Phase) → state.servers.standing p ≡ true → 0 < state.waiting p r (phase_number f) → ⊥
  no_message_waits p r f u w =
      let l = inv.base.up_low p u in
      let known = waits_for_a_started_write state p r (phase_number f) w inv in
      let after = delivered state p r (phase_number f) in
      let handed : HandsOut state p Done after = record {
        message = record { row = record { 0 = r }; phase = f; mask = record { bits = state.waiting p r (phase_number f) } };
        waits = record { some = w; whole = refl };
        told = rw known refl;
        leaves = rw known refl;
      } in
      let step : Step s (Deliver p) Done (with_state s after) = (rw (standing_is_not_refused state p None l u) (inr handed), refl) in
      let told = d.deliver p Done (with_state s after) step in
      done_is_not_refused {e = told.0} told.1

  -- a standing server has nothing to forward
  no_entry_left : (p r : ℕ) → state.servers.standing p ≡ true → 0 < state.journal.tag r → has_entry state.servers p r ≡ false
  no_entry_left p r u h =
      let low : r < 256 = (let a = inv.base.tag_used r h in let b = inv.base.room in omega arith) in
      no_group_no_entry state p r (no_group_waits p u) low (let a = inv.base.tag_low r h in let b = inv.base.small in omega arith)

  -- a mask that is empty at p whether p has crashed or stands
  empty_everywhere : (m p : ℕ) → (state.servers.standing p ≡ false → m ≡ 0) → (state.servers.standing p ≡ true → 0 < m → ⊥) → m ≡ 0
  empty_everywhere m p if_crashed if_standing = ⊎_elim
      (λ (u : state.servers.standing p ≡ true). ⊎_elim (λ z. z) (λ nz. absurd (if_standing u (omega arith))) (cases_eq m 0))
      if_crashed
      (cases_Bool (state.servers.standing p))

  -- so each table is empty at standing servers and at crashed ones
  pub drained_has_nothing : NothingUnderWay state
  drained_has_nothing = record {
    no_message = λ p r f. empty_everywhere (state.waiting p r (phase_number f)) p (idle.no_message p r (phase_number f)) (λ u h. no_message_waits p r f u h);
    no_prewrite_to_forward = λ p r. empty_everywhere (state.servers.forward_prewrite p r) p (idle.no_prewrite p r) (λ u h. let a = no_entry_left p r u (inv.names.forward_prewrite p r h) in grind (arith, nat_tests));
    no_write_to_forward = λ p r. empty_everywhere (state.servers.forward_write p r) p (idle.no_write p r) (λ u h. let a = no_entry_left p r u (inv.names.forward_write p r h) in grind (arith, nat_tests));
    no_write_queued = λ p k u. ⊎_elim
        (λ (l : k < 256). no_group_no_queue state p k (no_group_waits p u) (let a = inv.base.up_low p u in let b = inv.base.small in omega arith) l)
        (λ (l : 256 ≤ k). let b = inv.base.room in grind (arith, nat_tests))
        (cases_lt k 256);
  }
