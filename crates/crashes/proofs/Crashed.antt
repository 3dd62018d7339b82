-- What crash tells and leaves, one lemma for each way that it can end. The idea: its server is not refused, so the test for the last that stands decides.
use Rattle.std.proofs.Common.{◌≡◌, ℕ, Bool, true, false, eqb, Some, None, Err, Option, Result, refl, ap, ◌∙◌}
use Rattle.counting.specs.Below.{count}
use Rattle.model.specs.declared.Refusal.{Refusal}
use Rattle.model.specs.declared.Refusal.TheVariants.{LastStanding}
use Rattle.model.specs.declared.Outcome.TheVariants.{Done, Refused}
use Rattle.model.specs.State.{State}
use Rattle.model.specs.Refusals.{refuse, refuse_server}
use Rattle.model.specs.Crashes.{refuse_crash, crashes, CrashStep}
use Rattle.model.specs.Outcomes.{outcome}
use Rattle.sending.proofs.Telling.{refused_leaves_all, accepted_does_it}

-- one server stands
abbrev one_stands : State → Bool
one_stands s = eqb (count s.servers.standing s.size) 1

module _ (s : State) (p : ℕ) where
  -- a server that is refused changes nothing
  pub a_refused_server_does_not_crash : (reason : Refusal) (r : Result (Unit {0}) Refusal) → ((later : Option Refusal) → refuse_server s p later ≡ Some reason) → r ≡ Err reason → CrashStep s p (outcome r) s
  a_refused_server_does_not_crash reason r refused told = refused_leaves_all (refuse_crash s p) s Done (crashes s p) (outcome r) s reason (refused (refuse (one_stands s) LastStanding None)) (ap outcome told) refl

  module _ (accepted : (later : Option Refusal) → refuse_server s p later ≡ later) where
    -- the last that stands does not crash
    pub the_last_does_not_crash : one_stands s ≡ true → CrashStep s p (Refused LastStanding) s
    the_last_does_not_crash last = refused_leaves_all (refuse_crash s p) s Done (crashes s p) (Refused LastStanding) s LastStanding (accepted (refuse (one_stands s) LastStanding None) ∙ ap (λ b. refuse b LastStanding None) last) refl refl

    -- any other server does
    pub another_server_crashes : one_stands s ≡ false → (after : State) → after ≡ crashes s p → CrashStep s p Done after
    another_server_crashes others after = accepted_does_it (refuse_crash s p) s Done (crashes s p) Done after (accepted (refuse (one_stands s) LastStanding None) ∙ ap (λ b. refuse b LastStanding None) others) refl
