-- The proof of play: a new ring is the start of a run, each call makes it longer by one, and both promises hold of the whole.
use Rattle.std.proofs.Common.{◌≡◌, ◌+◌, [], ◌∷◌, ◌++◌, length, vec_items, sym, ap, ◌∙◌, arith, rules}
use Rattle.std.proofs.lemmas.List.{length-append, take_rest, with_items_is}
use Rattle.std.proofs.lemmas.Result.{err_from_is_err_and}
use Rattle.messages.specs.Waiting.{nothing}
use Rattle.runs.proofs.Making.{a_made_shelf_is_new, a_refused_make_tells_its_reason}
use Rattle.runs.proofs.SoFar.{nothing_played, one_more_played, all_played}
use Rattle.runs.proofs.playing.play.Goals as goal

pub returns-in_err-make : goal.returns-in_err-make
returns-in_err-make g c =
    let rows : length c.as_mut_slice.result.now ≡ 256 = c.as_mut_slice.ensures.len ∙ c.in_ok-values.ensures.len in
    let told = err_from_is_err_and c.from_residual-in_err-make.result c.from_residual-in_err-make.ensures.1 in
    rw (told.1, told.2) (a_refused_make_tells_its_reason _ _ c.args.size c.args.first c.in_err-make.field-0.0 rows (c.in_err-make.ensures nothing c.args.first))

pub loop-call-init : goal.loop-call-init
loop-call-init g c =
    let none = c.new-outcomes.ensures.items in
    (ap length none, λ d. rw none (nothing_played _ c.args.calls.now))

-- The call played is the next one of the list. The loop goes through the list itself, which leaves `take_rest` nothing to do: it is for the edit `the_first_call_is_skipped`,
-- whose loop goes through a slice of the list. Without it the right text in that form would be refused as well, and the edit would show nothing.
pub loop-call-preserved : goal.loop-call-preserved
loop-call-preserved g c =
    let before = c.loop-call.invariant in
    let outcomes = vec_items c.loop-call.outcomes in
    let lent = c.as_mut_slice-in-loop-call.ensures in
    let values = with_items_is c.loop-call.values c.call-outcome.new.values (c.call-outcome.auto.values ∙ lent.len) in
    let told : vec_items c.push.new.self ≡ outcomes ++ c.call-outcome.result ∷ [] = search rules in
    let longer : length (vec_items c.push.new.self) ≡ c.loop-call.call-index + 1 = ap length told ∙ length-append outcomes (c.call-outcome.result ∷ []) ∙ ap (λ n. n + 1) before.0 in (
      longer,
      λ d. rw (told, values) (one_more_played _ _ _ c.args.calls.now outcomes c.call-item.result c.call-outcome.result
          (before.1 d) (let at = before.0 in omega arith) (rw before.0 (search (rules, take_rest))) (rw (sym lent.value) (c.call-outcome.ensures d))),
    )

pub returns : goal.returns
returns g c =
    let waits = g.W.Wiring.waits in
    let first = c.args.first in
    let new = a_made_shelf_is_new _ _ c.args.size first (c.in_ok-make.ensures (waits c.new-wiring.result) first) c.new-wiring.ensures in
    let values = with_items_is c.in_ok-values.values c.make.new.values (c.make.auto.values ∙ c.as_mut_slice.ensures.len) in
    let at = c.loop-call.invariant.0 in
    all_played first _ _ c.args.calls.now (vec_items c.loop-call.outcomes) (rw values new) (c.loop-call.invariant.1 first) (omega arith)
