-- A message that the wiring puts is one that the rules post. The idea: a server that stands is below 8, so the wiring has a place for what is sent to it.
use Rattle.std.proofs.Common.{◌≡◌, ℕ, ◌<◌, ◌≤◌, true, false, cond, ◌&&◌, ◌||◌, eqb, ltb, sym, refl, ap, ◌∙◌, arith}
use Rattle.std.proofs.lemmas.Bool.Decides.{nat_tests}
use Rattle.messages.specs.declared.Phase.{Phase}
use Rattle.messages.specs.declared.Phase.TheVariants.{PreWrite, Write}
use Rattle.messages.specs.Phases.{phase_number}
use Rattle.messages.specs.Waiting.{Waiting, is_at, is_place, put_in}
use Rattle.servers.specs.Sets.{join}
use Rattle.fleet.specs.declared.fleet.Fleet.{Fleet}
use Rattle.fleet.specs.View.{servers}
use Rattle.table.proofs.OneServer.{none_past_the_end}
use Rattle.model.specs.State.{State, with_waiting}
use Rattle.model.specs.Sending.{next_of, posted, posted_if, sent}

-- a phase has the number 1 or 2
pub phases_are_two : (f : Phase) → (eqb (phase_number f) 1 || eqb (phase_number f) 2) ≡ true
phases_are_two PreWrite = refl
phases_are_two Write = refl

-- a server that stands is below 8
pub who_stands_has_a_place : (fleet : Fleet) (p : ℕ) → (servers fleet).standing p ≡ true → ltb p 8 ≡ true
who_stands_has_a_place fleet p stands =
    let past : 8 ≤ p → (servers fleet).standing p ≡ false = (λ h. ap (λ v. v.standing) (none_past_the_end fleet.list p fleet.sized h)) in
    grind (arith, nat_tests)

module _ (s : State) (p q r : ℕ) (f : Phase) (mask : ℕ) (is : q ≡ next_of s p) where
  -- what is put for the next of p, which stands, is sent
  pub put_is_sent : s.servers.standing q ≡ true → ltb q 8 ≡ true → r < 256 → (w : Waiting) → w ≡ put_in s.waiting q r (phase_number f) mask → with_waiting s w ≡ sent s p r (phase_number f) mask
  put_is_sent stands low room w e =
      let n = phase_number f in
      let two = phases_are_two f in
      let place : is_place q r n ≡ true = grind (arith, nat_tests) in
      let there : put_in s.waiting q r n mask ≡ (posted s q r n mask).waiting = (λ i x k g. (ap (λ b. cond (b && is_at q r n x k g) (join (s.waiting x k g) mask) (s.waiting x k g)) (place ∙ sym stands)) i) in
      (λ i. with_waiting s ((e ∙ there) i)) ∙ ap (λ q. posted s q r n mask) is

  -- what is sent to a crashed next is lost
  pub lost_is_sent : s.servers.standing q ≡ false → s ≡ sent s p r (phase_number f) mask
  lost_is_sent crashed = sym (ap (λ b. posted_if b s q r (phase_number f) mask) crashed) ∙ ap (λ q. posted s q r (phase_number f) mask) is
