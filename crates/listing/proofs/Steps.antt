-- The lines of steps are written one by one: what is written grows by a line, and what is still to come loses it.
use Rattle.std.proofs.Common.{◌≡◌, ℕ, ◌+◌, ◌<◌, ◌≤◌, List, ◌++◌, map, length, get_or, drop, sym, ap, ◌∙◌, append_assoc, append-nil}
use Rattle.std.proofs.lemmas.List.{at_drop_more, drop_all}
use Rattle.values.specs.declared.kind.Kind.{Kind}
use Rattle.schedule.specs.Steps.{plain_step}
use Rattle.schedule.specs.declared.steps.Step.{Step}
use Rattle.listing.specs.Lines.{step_line}
use Rattle.listing.specs.Listing.{line, step_lines}

-- The lines of the steps from one on are its line and the lines of those behind it.
pub one_more_line : (kind : Kind) (steps : List Step) (i : ℕ) (d : Step) (text : List ℕ) → i < length steps →
    (text ++ line (step_line kind (i + 1) (plain_step (get_or steps i d)))) ++ step_lines kind (i + 1 + 1) (map plain_step (drop (i + 1) steps))
    ≡ text ++ step_lines kind (i + 1) (map plain_step (drop i steps))
unfolding step_lines
one_more_line kind steps i d text h =
    append_assoc text (line (step_line kind (i + 1) (plain_step (get_or steps i d)))) (step_lines kind (i + 1 + 1) (map plain_step (drop (i + 1) steps)))
    ∙ ap (λ (rest : List ℕ). text ++ rest) (sym (at_drop_more (λ (ss : List Step). step_lines kind (i + 1) (map plain_step ss)) steps i d h))

-- Behind the last step there is no line.
pub no_more_lines : (kind : Kind) (steps : List Step) (i number : ℕ) (text : List ℕ) → length steps ≤ i →
    text ++ step_lines kind number (map plain_step (drop i steps)) ≡ text
unfolding step_lines
no_more_lines kind steps i number text h =
    ap (λ (rest : List Step). text ++ step_lines kind number (map plain_step rest)) (drop_all i steps h) ∙ append-nil text
