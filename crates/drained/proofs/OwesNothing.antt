-- Every run that winds down ends well: it drains soon, and owes nothing to operations that began at servers which still stand.
-- At rest nothing is open at a standing server, so an operation that began there is answered or given up in the journal, and the run tells of both.
use Rattle.std.proofs.Common.{◌≡◌, ℕ, suc, ◌<◌, true, false, ◌⊎◌, ap, ◌∙◌, inl, inr, ⊎_elim, le_trans, arith}
use Rattle.std.proofs.lemmas.Bool.Decides.{nat_tests}
use Rattle.std.proofs.lemmas.Bool.{cases_Bool}
use Rattle.model.specs.State.{Journal, is_open}
use Rattle.model.specs.Runs.{Run, last}
use Rattle.model.specs.Draining.{Drained, IsAnswered, GivenUp, BeganHere, WindsDown}
use Rattle.model.specs.Promises.{DrainsSoonAndOwesNothing}
use Rattle.model.proofs.AlongRuns.{inv_at, kept, birth}
use Rattle.model.proofs.RunsTell.{stands_on, given_up_by_its_client}
use Rattle.model.proofs.Order.{tells_last}
use Rattle.drained.proofs.CrashedHaveNothing.{crashed_idle_at}
use Rattle.drained.proofs.EventsKeepFlow.{flow_at}
use Rattle.drained.proofs.DrainsSoon.{noticed_to_the_end, drains_soon}
use Rattle.drained.proofs.DrainedHasNothing.{drained_has_nothing}
use Rattle.drained.proofs.NothingLeftAtRest.{nothing_open}

module _ {V : Type 0} (run : Run V) where
  -- the last journal
  abbrev journal : Journal
  journal = (last run).state.journal

  -- of an operation that began at a server which still stands
  module _ (r : ℕ) (b : BeganHere run r) where
    -- its row is used
    used : r < journal.used
    used = le_trans (birth run r b.place b.begins).low (kept run run.length (suc b.place) b.begins.within (omega arith)).used

    -- at the server at which it began
    same_server : journal.server r ≡ b.server
    same_server = (kept run run.length (suc b.place) b.begins.within (omega arith)).server r (birth run r b.place b.begins).low ∙ (birth run r b.place b.begins).server b.server b.asks

    -- which still stands, as no crash of it was accepted
    its_server_stands : (last run).state.servers.standing (journal.server r) ≡ true
    its_server_stands = ap (last run).state.servers.standing same_server ∙ stands_on run b.server b.stands (suc b.place) run.length b.begins.within (omega arith) ((birth run r b.place b.begins).stands b.server b.asks)

    -- if it is not open, the run tells of its answer or of its client giving it up
    answered_or_given_up : (is_open journal r ≡ true → ⊥) → IsAnswered run r ⊎ GivenUp run r
    answered_or_given_up shut = ⊎_elim
        (λ (t : journal.answered r ≡ true). inl (_, tells_last run r used t))
        (λ (f : journal.answered r ≡ false). ⊎_elim
        (λ (t : journal.given_up r ≡ true). inr (given_up_by_its_client run r b.place b.begins run.length (omega arith) t))
        (λ (h : journal.given_up r ≡ false). absurd (shut (let u = used in grind (arith, nat_tests))))
        (cases_Bool (journal.given_up r)))
        (cases_Bool (journal.answered r))

  -- of a run that winds down from call k on
  module _ (k : ℕ) (w : WindsDown run k) where
    -- where the shelf is drained, nothing is open at a standing server
    nothing_open_at_rest : Drained (last run) → (r : ℕ) → (last run).state.servers.standing (journal.server r) ≡ true → is_open journal r ≡ true → ⊥
    nothing_open_at_rest d r stands o =
        let end = run.length in
        let inv = inv_at run end (omega arith) in
        nothing_open (last run).state inv (flow_at run end (omega arith)) (noticed_to_the_end run k w) (drained_has_nothing (last run) inv (crashed_idle_at run end (omega arith)) d) r o stands

    -- both parts of the promise
    pub ends_well : DrainsSoonAndOwesNothing run k
    ends_well = record {
      soon = drains_soon run k w;
      owes_nothing = λ d r b. answered_or_given_up r b (nothing_open_at_rest d r (its_server_stands r b));
    }
