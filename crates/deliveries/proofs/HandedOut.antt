-- What deliver tells and leaves, one lemma for each way that it can end. The idea: the refusals' test is replaced by its result, and the message that the wiring handed out is the one that the rule names.
use Rattle.std.proofs.Common.{◌≡◌, ℕ, Bool, true, false, cond, eqb, Some, None, Err, Option, Result, sym, refl, ap, ◌∙◌, subst, inl, inr}
use Rattle.messages.specs.declared.Message.{Message}
use Rattle.messages.specs.declared.Phase.{Phase}
use Rattle.messages.specs.declared.Phase.TheVariants.{PreWrite, Write}
use Rattle.messages.specs.Phases.{phase_number}
use Rattle.messages.specs.Waiting.{Waiting, Taken}
use Rattle.model.specs.declared.Refusal.{Refusal}
use Rattle.model.specs.declared.Refusal.TheVariants.{NoMessage, Stray}
use Rattle.model.specs.declared.Outcome.TheVariants.{Done, Refused}
use Rattle.model.specs.State.{State, with_waiting, is_stray}
use Rattle.model.specs.Refusals.{refuse_server}
use Rattle.model.specs.Sending.{gone}
use Rattle.model.specs.Deliveries.{hears_prewrite, hears_write, delivered, Delivers, DeliverStep}
use Rattle.model.specs.Outcomes.{outcome}

-- a message of the phase has come to p
abbrev heard : State → ℕ → Phase → ℕ → ℕ → State
heard s p phase r mask = cond (eqb (phase_number phase) (phase_number PreWrite)) (hears_prewrite s p r mask) (hears_write s p r mask)

module _ (s : State) (p : ℕ) where
  -- a server that is refused changes nothing
  pub a_refused_server_changes_nothing : (reason : Refusal) (r : Result (Unit {0}) Refusal) → refuse_server s p None ≡ Some reason → r ≡ Err reason → DeliverStep s p (outcome r) s
  a_refused_server_changes_nothing reason r refused told = subst (λ refusal. Delivers refusal s p (outcome r) s) (sym refused) (ap outcome told, refl)

  module _ (accepted : refuse_server s p None ≡ None) (w : Waiting) (taken : Option Message) (takes : Taken s.waiting p taken w) where
    -- where nothing waits, nothing changes
    pub nothing_is_handed_out : taken ≡ None → DeliverStep s p (Refused NoMessage) (with_waiting s w)
    nothing_is_handed_out is =
        let none = subst (λ t. Taken s.waiting p t w) is takes in
        subst (λ refusal. Delivers refusal s p (Refused NoMessage) (with_waiting s w)) (sym accepted) (inl (none.0, refl, ap (with_waiting s) none.1))

    module _ (m : Message) (is : taken ≡ Some m) where
      -- the message waited, and it alone has left
      it_waited_and_left : Taken s.waiting p (Some m) w
      it_waited_and_left = subst (λ t. Taken s.waiting p t w) is takes

      -- what the rule leaves, if the message is stray and if it is not
      abbrev left : Bool → State
      left stray = cond stray (gone s p m.row.0 (phase_number m.phase)) (delivered s p m.row.0 (phase_number m.phase))

      -- the message that was handed out is the one that the rule names
      handed_out : (stray : Bool) → stray ≡ is_stray s.journal m.row.0 → (after : State) → after ≡ left stray → DeliverStep s p (cond stray (Refused Stray) Done) after
      handed_out stray test after leaves =
          subst (λ refusal. Delivers refusal s p (cond stray (Refused Stray) Done) after) (sym accepted)
          (inr (record { message = m; waits = it_waited_and_left.0; told = ap (λ b. cond b (Refused Stray) Done) test; leaves = leaves ∙ ap left test }))

      -- a stray message is gone, and all else stays
      pub a_stray_message_is_gone : true ≡ is_stray s.journal m.row.0 → DeliverStep s p (Refused Stray) (with_waiting s w)
      a_stray_message_is_gone test = handed_out true test (with_waiting s w) (ap (with_waiting s) it_waited_and_left.1)

      module _ (test : false ≡ is_stray s.journal m.row.0) (after : State) where
        -- any other message is delivered by its phase
        a_message_is_delivered : (phase : Phase) → m.phase ≡ phase → after ≡ heard (with_waiting s w) p phase m.row.0 m.mask.bits → DeliverStep s p Done after
        a_message_is_delivered phase of_phase leaves =
            handed_out false test after
            (leaves ∙ ap (λ f. heard (with_waiting s w) p f m.row.0 m.mask.bits) (sym of_phase) ∙ (λ i. heard (with_waiting s (it_waited_and_left.1 i)) p m.phase m.row.0 (it_waited_and_left.0.whole i)))

        -- a pre-write is delivered
        pub a_prewrite_is_delivered : m.phase ≡ PreWrite → after ≡ hears_prewrite (with_waiting s w) p m.row.0 m.mask.bits → DeliverStep s p Done after
        a_prewrite_is_delivered = a_message_is_delivered PreWrite

        -- a write is delivered
        pub a_write_is_delivered : m.phase ≡ Write → after ≡ hears_write (with_waiting s w) p m.row.0 m.mask.bits → DeliverStep s p Done after
        a_write_is_delivered = a_message_is_delivered Write
