-- What a call tells and leaves, from the refusal that its rule comes to. The idea: the rule's chain of refusals is known to be one reason, or none.
use Rattle.std.proofs.Common.{◌≡◌, ℕ, ◌<◌, Some, None, Option, sym, subst, arith}
use Rattle.std.proofs.lemmas.Bool.Decides.{nat_tests as tells}
use Rattle.model.specs.declared.Refusal.{Refusal}
use Rattle.model.specs.declared.Outcome.{Outcome}
use Rattle.model.specs.declared.Outcome.TheVariants.{Refused}
use Rattle.model.specs.State.{State}
use Rattle.model.specs.Refusals.{Told, refuse_server}

module _ {S : Type 0} (chain : Option Refusal) (old : S) (accepted : Outcome) (new : S) (outcome : Outcome) (after : S) where
  -- refused for a reason, a call leaves what was
  pub refused_leaves_all : (reason : Refusal) → chain ≡ Some reason → outcome ≡ Refused reason → after ≡ old → Told chain old accepted new outcome after
  refused_leaves_all reason is tells same = subst (λ (o : Option Refusal). Told o old accepted new outcome after) (sym is) (tells, same)

  -- not refused, it tells and leaves what the rule says
  pub accepted_does_it : chain ≡ None → outcome ≡ accepted → after ≡ new → Told chain old accepted new outcome after
  accepted_does_it is tells does = subst (λ (o : Option Refusal). Told o old accepted new outcome after) (sym is) (tells, does)

-- a server that is not refused is one of the ring
pub not_refused_is_a_server : (s : State) (p : ℕ) → refuse_server s p None ≡ None → p < s.size
not_refused_is_a_server s p e = grind (arith, tells)
