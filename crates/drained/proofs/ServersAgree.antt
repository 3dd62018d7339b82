-- At rest all standing servers hold the same row, and no answered operation has a higher tag.
-- A drained shelf has nothing under way, so what is shown of such states applies; the question `answer` tells the very tag of the journal.
use Rattle.std.proofs.Common.{◌≡◌, ℕ, sym, ◌∙◌, arith}
use Rattle.model.specs.State.{tag_of, tag_number, tag_server, Shelf}
use Rattle.model.specs.Questions.{Reply, Telling, tells, answer, telling}
use Rattle.model.specs.Runs.{Run, last}
use Rattle.model.specs.AtRest.{AtRest, Agrees}
use Rattle.model.proofs.Births.{answers, answered_is}
use Rattle.model.proofs.AlongRuns.{inv_at, rows_at}
use Rattle.drained.proofs.CrashedHaveNothing.{crashed_idle_at}
use Rattle.drained.proofs.EventsKeepFlow.{flow_at}
use Rattle.drained.proofs.DrainedHasNothing.{drained_has_nothing}
use Rattle.drained.proofs.NothingLeftAtRest.{same_row, answered_below}

-- a tag is made of its number and its server
tag_parts : (t : ℕ) → tag_of (tag_number t) (tag_server t) ≡ t
tag_parts t = omega arith

module _ {V : Type 0} where
  -- `answer` tells nothing but what there is to tell
  what_is_told : (s : Shelf V) (r : ℕ) (t : Telling V) → s.rows ≡ 256 → answer s r ≡ tells t → telling s r ≡ t
  what_is_told s r t rows h =
      let a = answered_is s r t h in
      let e : ◌≡◌ {A = Reply V} (tells (telling s r)) (tells t) = sym (answers s r a.low a.answered rows) ∙ h in
      cc

  -- at the end of a run the shelf has nothing under way, and so the servers agree
  pub servers_agree_at_rest : (run : Run V) → AtRest (last run) → Agrees (last run)
  servers_agree_at_rest run rest =
      let s = (last run).state in
      let end = run.length in
      let inv = inv_at run end (omega arith) in
      let flow = flow_at run end (omega arith) in
      let nothing = drained_has_nothing (last run) inv (crashed_idle_at run end (omega arith)) rest.drained in
      record {
        same_row = λ p q u v. same_row s inv flow rest.noticed nothing p q u v;
        none_above = λ p r t u h.
            let is = what_is_told (last run) r t (rows_at run end (omega arith)) h in
            let answered = (answered_is (last run) r t h).answered in
            rw (← is, tag_parts) (answered_below s inv flow rest.noticed nothing r p answered u);
      }
