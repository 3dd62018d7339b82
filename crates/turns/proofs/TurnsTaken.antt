-- What turn tells and leaves, one lemma for each way that it can end. The idea: the refusals' test is replaced by its result, and the counts are put in their place before the group's turn is taken.
use Rattle.std.proofs.Common.{◌≡◌, ℕ, ◌<◌, Bool, Some, None, Err, Option, Result, sym, refl, ap, ◌∙◌, arith}
use Rattle.counting.specs.Below.{least}
use Rattle.counting.proofs.Searches.{least_passes}
use Rattle.messages.specs.Waiting.{Waiting}
use Rattle.journal.specs.View.{view}
use Rattle.fleet.specs.declared.fleet.Fleet.{Fleet}
use Rattle.fleet.specs.View.{servers, ChangedAt}
use Rattle.model.specs.declared.Refusal.{Refusal}
use Rattle.model.specs.declared.Refusal.TheVariants.{NothingToSend}
use Rattle.model.specs.declared.Outcome.TheVariants.{Done, Refused}
use Rattle.model.specs.State.{State, is_queued}
use Rattle.model.specs.ServerChanges.{servers_counted_if}
use Rattle.model.specs.Refusals.{refuse_server, unless_found}
use Rattle.model.specs.Turns.{chosen_group, counted, counts_before, forwards_or_starts, group_waits, has_entry_of, refuse_turn, some_entry, turns, TurnStep}
use Rattle.model.specs.Outcomes.{outcome}
use Rattle.sending.specs.declared.memory.Memory.{Memory}
use Rattle.sending.specs.View.{memory_state, state}
use Rattle.sending.proofs.Telling.{refused_leaves_all, accepted_does_it, not_refused_is_a_server}

-- the chosen group is one of the eight
a_chosen_group_is_low : (s : State) (p group : ℕ) → Some group ≡ chosen_group s p → group < 8
a_chosen_group_is_low s p group is = (least_passes (group_waits s p) (counts_before s.servers p) 8 group (sym is)).0

module _ (m : Memory) (w : Waiting) (p : ℕ) where
  -- a server that is refused changes nothing
  pub a_refused_server_changes_nothing : (reason : Refusal) (r : Result (Unit {0}) Refusal)
      → ((later : Option Refusal) → refuse_server (memory_state m w) p later ≡ Some reason)
      → r ≡ Err reason
      → TurnStep (memory_state m w) p (outcome r) (memory_state m w)
  a_refused_server_changes_nothing reason r refused told =
      let s = memory_state m w in
      refused_leaves_all (refuse_turn s p) s Done (turns s p (chosen_group s p)) (outcome r) s reason (refused (unless_found NothingToSend (chosen_group s p))) (ap outcome told) refl

  module _ (accepted : (later : Option Refusal) → refuse_server (memory_state m w) p later ≡ later) where
    -- a server that is not refused is one of the eight
    pub an_accepted_server_is_low : p < 8
    an_accepted_server_is_low =
        let within = not_refused_is_a_server (memory_state m w) p (accepted None) in
        let few = m.fleet.few in
        omega arith

    -- a turn is refused only where no group is chosen
    only_a_missing_group_refuses : (chosen : Option ℕ) → chosen ≡ chosen_group (memory_state m w) p → refuse_turn (memory_state m w) p ≡ unless_found NothingToSend chosen
    only_a_missing_group_refuses chosen is = accepted (unless_found NothingToSend (chosen_group (memory_state m w) p)) ∙ ap (unless_found NothingToSend) (sym is)

    -- where no group waits, nothing changes
    pub no_group_has_a_turn : (chosen : Option ℕ) → chosen ≡ chosen_group (memory_state m w) p → chosen ≡ None → TurnStep (memory_state m w) p (Refused NothingToSend) (memory_state m w)
    no_group_has_a_turn chosen choice none =
        let s = memory_state m w in
        refused_leaves_all (refuse_turn s p) s Done (turns s p (chosen_group s p)) (Refused NothingToSend) s NothingToSend (only_a_missing_group_refuses None (sym none ∙ choice)) refl refl

    -- the counts change as the rule says, and all else stays
    the_turn_is_counted : (f' : Fleet) (group : ℕ) (some : Bool)
        → some ≡ some_entry (servers m.fleet) p
        → ChangedAt p m.fleet (servers_counted_if some (servers m.fleet) p group) f'
        → state m.journal f' w ≡ counted (memory_state m w) p group
    the_turn_is_counted f' group some some_is change =
        let kept : servers f' ≡ servers_counted_if (some_entry (servers m.fleet) p) (servers m.fleet) p group =
        change.kept an_accepted_server_is_low ∙ ap (λ b. servers_counted_if b (servers m.fleet) p group) some_is in
        λ i. record { size = change.size i; journal = view m.journal; servers = kept i; waiting = w }

    -- the chosen group's turn is counted, then its first entry is forwarded, or a queued write starts
    pub a_group_has_its_turn : (chosen : Option ℕ) (group : ℕ) (entry : Option ℕ) (f' : Fleet) (some : Bool) (after : State)
        → chosen ≡ chosen_group (memory_state m w) p
        → chosen ≡ Some group
        → entry ≡ least (has_entry_of (memory_state m w) p group) (view m.journal).tag 256
        → some ≡ some_entry (servers m.fleet) p
        → (group < 8 → ChangedAt p m.fleet (servers_counted_if some (servers m.fleet) p group) f')
        → after ≡ forwards_or_starts (state m.journal f' w) p entry (least (is_queued (view m.journal) p) (λ k. k) 256)
        → TurnStep (memory_state m w) p Done after
    a_group_has_its_turn chosen group entry f' some after choice found first some_is change leaves =
        let s = memory_state m w in
        let group_is : Some group ≡ chosen_group s p = sym found ∙ choice in
        let queued = least (is_queued (view m.journal) p) (λ k. k) 256 in
        let counted_is = the_turn_is_counted f' group some some_is (change (a_chosen_group_is_low s p group group_is)) in
        accepted_does_it (refuse_turn s p) s Done (turns s p (chosen_group s p)) Done after (only_a_missing_group_refuses (Some group) group_is) refl
        (leaves ∙ (λ i. forwards_or_starts (counted_is i) p (first i) queued) ∙ ap (turns s p) group_is)
