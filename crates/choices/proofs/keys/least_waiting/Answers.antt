-- The least of all candidates waits, so it is the least of what waits.
use Rattle.std.proofs.Common.{length, sym, ap, ◌∙◌, subst, rules}
use Rattle.std.proofs.lemmas.List.{get_or_read}
use Rattle.search.specs.Order.{LeastOf}
use Rattle.choices.specs.declared.keys.Candidate.TheVariants.{Absent}
use Rattle.choices.specs.Keys.{waits}
use Rattle.choices.proofs.Ordered.{candidates_go_in_order}
use Rattle.choices.proofs.keys.least_waiting.Goals as goal

pub returns-then-waits : goal.returns-then-waits
returns-then-waits g c =
    let keys = c.args.keys.now in
    let place = c.in_ok-place.place in
    let key = c.index-keys-place in (
      subst (λ below. LeastOf below keys (length keys) place) (candidates_go_in_order _ _ (λ a b. search rules) (λ a. search rules) (λ b. search rules)) c.in_ok-place.ensures,
      ap waits (sym (get_or_read keys place key.result c.in_ok-place.ensures.within key.is Absent)) ∙ (sym c.waits.ensures ∙ c.if-waits.true),
    )
