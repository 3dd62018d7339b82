-- The first place out of the queue of one server is the first out of its line.
use Rattle.std.proofs.Common.{◌≡◌, ℕ, List, ◌∷◌, map, Some, None, Option, sym, ap, ◌∙◌, ⊎_elim}
use mathlib.Core.Path.{fun_ext}
use Rattle.std.proofs.lemmas.Bool.{cases_eq}
use Rattle.masks.specs.Lines.{ChosenAt, lines_at, numbers, place_of, places_at}
use Rattle.masks.proofs.Lines.{a_line_is_of_places}
use Rattle.masks.specs.declared.server_lanes.ServerLanes.{ServerLanes}
use Rattle.masks.specs.declared.store.Store.{Ghosts}
use Rattle.messages.specs.declared.Message.{Message}
use Rattle.messages.specs.declared.Place.{Place}
use Rattle.line_wiring.specs.Lines.{FirstOut}
use Rattle.line_wiring.specs.Queued.{Popped}

module _ {S : Type 0} {store : Ghosts S} (before after : ServerLanes S store) where
  the_same_line : (x : ℕ) → places_at after x ≡ places_at before x → lines_at after x ≡ lines_at before x
  the_same_line x same = a_line_is_of_places after x ∙ (ap (λ (ys : List Place). map numbers ys) same ∙ sym (a_line_is_of_places before x))

  pub the_first_goes_out : (server number : ℕ) (m : Option Message)
      → ChosenAt (λ xs n place ys. Popped xs place ys) (places_at before) server number (place_of m) (places_at after)
      → FirstOut (lines_at before) server m (lines_at after)
  the_first_goes_out server number None ((none, left), others) = (
    a_line_is_of_places before server ∙ ap (λ (ys : List Place). map numbers ys) none,
    fun_ext (λ x. ⊎_elim
        (λ (e : x ≡ server). the_same_line x (ap (places_at after) e ∙ (left ∙ sym (ap (places_at before) e ∙ none))))
        (λ n. the_same_line x (others x n))
        (cases_eq x server)),
  )
  the_first_goes_out server number (Some m) (first, others) = (
    a_line_is_of_places before server ∙ (ap (λ (ys : List Place). map numbers ys) first ∙ sym (ap (λ ys. numbers (record { row = m.row; phase = m.phase }) ∷ ys) (a_line_is_of_places after server))),
    λ x n. the_same_line x (others x n),
  )
