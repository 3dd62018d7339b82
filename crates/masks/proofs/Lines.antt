-- What a change of one server's lane does to the lines: the server has what its lane says, the others keep theirs.
use Rattle.std.proofs.Common.{◌≡◌, ℕ, zero, suc, ◌<◌, true, false, ◌&&◌, eqb, List, [], ◌∷◌, map, length, get_or, set, Some, sym, refl, ap, ◌∙◌, arith}
use Rattle.std.proofs.lemmas.Bool.{cond-true, cond-false}
use Rattle.std.proofs.lemmas.Bool.Decides.{nat_tests}
use Rattle.masks.specs.Lanes.{at_server, by_server, lane_masks}
use Rattle.masks.specs.Lines.{Line, arrived, arrived_at, emptied_at, lane_line, lane_places, lanes_wait, lines_at, numbers, places_at}
use Rattle.masks.specs.Listed.{Names, rows_hold}
use Rattle.masks.specs.Table.{Masks, all_empty}
use Rattle.masks.specs.declared.lane.Lane.{Lane}
use Rattle.masks.specs.declared.server_lanes.ServerLanes.{ServerLanes}
use Rattle.masks.specs.declared.store.Store.{Ghosts}
use Rattle.masks.proofs.Lanes.{nothing_waits_elsewhere, one_lane_says, the_server_has_its_lane}
use Rattle.masks.proofs.Listing.{as_many_as_wait, nothing_adds_up}
use Rattle.masks.proofs.Rows.{no_place_has_a_mask}
use Rattle.messages.specs.declared.Place.{Place}
use Rattle.messages.specs.Phases.{phase_number}
use Rattle.messages.specs.Places.{PlaceOf}
use Rattle.messages.specs.Waiting.{is_place}

module _ {S : Type 0} {store : Ghosts S} (lanes : List (Lane S store)) where
  -- a message arrives at the place of two numbers; `was` is the lane as the code reads it
  pub a_line_is_joined : (to row phase mask : ℕ) (was lane : Lane S store) (place : Place) → length lanes ≡ 8 → to < 8 → PlaceOf row phase (Some place)
      → lane_line lane ≡ arrived (lane_line (get_or lanes to was)) (lane_masks (get_or lanes to was)) place.row.0 (phase_number place.phase) mask
      → at_server lane_line [] (set lanes to lane) ≡ arrived_at (at_server lane_line [] lanes) (by_server lane_masks lanes) to row phase mask
  a_line_is_joined to row phase mask was lane place eight l (named, r, p) line =
      let w = by_server lane_masks lanes in
      let before = at_server lane_line [] lanes in
      let has_masks : w to ≡ lane_masks (get_or lanes to was) = the_server_has_its_lane lane_masks all_empty lanes to was (omega arith) in
      let has_line : before to ≡ lane_line (get_or lanes to was) = the_server_has_its_lane lane_line [] lanes to was (omega arith) in
      let here : (is_place to row phase && eqb to to) ≡ true = grind (arith, nat_tests) in
      one_lane_says lane_line [] lanes (arrived_at before w to row phase mask) to lane (omega arith)
      (line
      ∙ (ap (λ k. arrived (lane_line (get_or lanes to was)) (lane_masks (get_or lanes to was)) k (phase_number place.phase) mask) r
      ∙ (ap (λ f. arrived (lane_line (get_or lanes to was)) (lane_masks (get_or lanes to was)) row f mask) p
      ∙ (ap (λ (y : Line). arrived y (lane_masks (get_or lanes to was)) row phase mask) (sym has_line)
      ∙ (ap (λ (m : Masks). arrived (before to) m row phase mask) (sym has_masks) ∙ sym (cond-true _ _ _ here))))))
      (λ x n. let away : (is_place to row phase && eqb x to) ≡ false = grind (arith, nat_tests) in sym (cond-false _ _ _ away))

  pub a_line_is_emptied : (server : ℕ) (lane : Lane S store) → server < length lanes → lane_line lane ≡ [] → at_server lane_line [] (set lanes server lane) ≡ emptied_at (at_server lane_line [] lanes) server
  a_line_is_emptied server lane l e =
      one_lane_says lane_line [] lanes (emptied_at (at_server lane_line [] lanes) server) server lane l
      (e ∙ (let here : eqb server server ≡ true = grind (arith, nat_tests) in sym (cond-true _ _ _ here)))
      (λ x n. let away : eqb x server ≡ false = grind (arith, nat_tests) in sym (cond-false _ _ _ away))

-- a server's line is that of its places
lines_are_of_places : {S : Type 0} {store : Ghosts S} (lanes : List (Lane S store)) (server : ℕ) → at_server lane_line [] lanes server ≡ map numbers (at_server lane_places [] lanes server)
lines_are_of_places [] server = refl
lines_are_of_places (lane ∷ lanes) zero = refl
lines_are_of_places (lane ∷ lanes) (suc server) = lines_are_of_places lanes server

lanes_name_their_places : {S : Type 0} {store : Ghosts S} (lanes : List (Lane S store)) (server : ℕ)
    → Names (at_server lane_places [] lanes server) (by_server lane_masks lanes server) × (length (at_server lane_places [] lanes server) ≡ rows_hold (by_server lane_masks lanes server) 256)
lanes_name_their_places [] server = ((λ row phase. refl), sym (nothing_adds_up 256))
lanes_name_their_places (lane ∷ lanes) zero = (lane.named, as_many_as_wait (lane_places lane) lane.masks lane.named)
lanes_name_their_places (lane ∷ lanes) (suc server) = lanes_name_their_places lanes server

module _ {S : Type 0} {store : Ghosts S} (all : ServerLanes S store) where
  pub a_line_is_of_places : (server : ℕ) → lines_at all server ≡ map numbers (places_at all server)
  a_line_is_of_places server = lines_are_of_places all.lanes server

  -- a server's places name what waits for it, and are as many
  pub the_places_are_named : (server : ℕ) → Names (places_at all server) (lanes_wait all server) × (length (places_at all server) ≡ rows_hold (lanes_wait all server) 256)
  the_places_are_named server = lanes_name_their_places all.lanes server

  pub nothing_waits_off_the_places : (server row phase : ℕ) → is_place server row phase ≡ false → lanes_wait all server row phase ≡ 0
  nothing_waits_off_the_places server row phase off =
      nothing_waits_elsewhere lane_masks all.lanes server row phase all.eight (λ lane out. no_place_has_a_mask lane.masks.rows row phase lane.masks.sized out) off
