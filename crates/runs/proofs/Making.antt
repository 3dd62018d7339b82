-- What a made ring gives a run to begin with, and why no ring is made. The idea: what the call told decides which of the rule's two cases it was.
use Rattle.std.proofs.Common.{◌≡◌, ℕ, Some, None, Option, sym, ap, ◌∙◌, arith}
use Rattle.messages.specs.Waiting.{nothing}
use Rattle.model.specs.declared.Refusal.{Refusal}
use Rattle.model.specs.declared.Outcome.TheVariants.{Done, Refused}
use Rattle.model.specs.State.{Shelf}
use Rattle.model.specs.Refusals.{Told}
use Rattle.model.specs.Operations.{MakeStep, refuse_make}
use Rattle.model.specs.Runs.{New}

-- a call that tells a refusal was refused for that reason
refused_for_what_it_tells : {S : Type 0} (chain : Option Refusal) (old new after : S) (reason : Refusal) → Told chain old Done new (Refused reason) after → chain ≡ Some reason
refused_for_what_it_tells (Some why) old new after reason told = let e = told.0 in grind arith
refused_for_what_it_tells None old new after reason told = let e = told.0 in grind arith

module _ {V : Type 0} where
  -- a shelf that was made, with a wiring that holds nothing, is new
  abbrev pub a_made_shelf_is_new : (lent t : Shelf V) (size : ℕ) (first : V) → MakeStep lent size first Done t → t.state.waiting ≡ nothing → New first t
  a_made_shelf_is_new lent t size first made none = record { lent = lent; size = size; made = made; empty = λ p row phase. ap (λ w. w p row phase) none }

  -- a refused make tells the reason of the rule
  pub a_refused_make_tells_its_reason : (lent t : Shelf V) (size : ℕ) (first : V) (reason : Refusal) → lent.rows ≡ 256 → MakeStep lent size first (Refused reason) t → refuse_make 256 size ≡ Some reason
  a_refused_make_tells_its_reason lent t size first reason rows told =
      ap (λ n. refuse_make n size) (sym rows) ∙ refused_for_what_it_tells (refuse_make lent.rows size) _ _ t reason told
