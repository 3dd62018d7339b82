-- What a change of one lane does to what waits: the lane's masks are the server's, and every other server keeps its own.
use Rattle.std.proofs.Common.{◌≡◌, ℕ, zero, suc, ◌<◌, ◌≤◌, true, false, cond, ◌&&◌, eqb, List, [], ◌∷◌, map, length, get_or, set, Some, None, Option, sym, refl, ap, ◌∙◌, ⊎_elim, arith}
use mathlib.Core.Path.{fun_ext}
use Rattle.std.proofs.lemmas.List.{get_or-map, map-set, length-map, get_or-set_same, get_or-set_other, get_or_past}
use Rattle.std.proofs.lemmas.Bool.{cases_eq, cases_lt}
use Rattle.std.proofs.lemmas.Bool.Decides.{nat_tests}
use Rattle.messages.specs.declared.Message.{Message}
use Rattle.messages.specs.declared.Place.{Place}
use Rattle.messages.specs.Phases.{phase_number}
use Rattle.messages.specs.Places.{PlaceOf, names_a_place}
use Rattle.messages.specs.Waiting.{Taken, Waiting, cleared, is_place, put_in, taken_out}
use Rattle.servers.specs.Sets.{join}
use Rattle.masks.specs.Lanes.{Gives, at_server, by_server}
use Rattle.masks.specs.Listed.{rows_hold}
use Rattle.masks.specs.Table.{Masks, all_empty, joined_mask, with_mask}
use Rattle.masks.proofs.Listing.{nothing_adds_up}

module _ {Lane X : Type 0} (says : Lane → X) (none : X) (lanes : List Lane) where
  pub the_server_has_the_lane : (server : ℕ) (lane : Lane) → server < length lanes → at_server says none (set lanes server lane) server ≡ says lane
  the_server_has_the_lane server lane l =
      ap (λ (xs : List X). get_or xs server none) (map-set says lanes server lane)
      ∙ get_or-set_same (map says lanes) server (says lane) none (omega (arith, length-map lanes says))

  pub other_servers_stay : (server x : ℕ) (lane : Lane) → (x ≡ server → ⊥) → at_server says none (set lanes server lane) x ≡ at_server says none lanes x
  other_servers_stay server x lane n =
      ap (λ (xs : List X). get_or xs x none) (map-set says lanes server lane) ∙ get_or-set_other (map says lanes) server x (says lane) none n

  -- of a lane as the code reads it
  pub the_server_has_its_lane : (server : ℕ) (lane : Lane) → server < length lanes → at_server says none lanes server ≡ says (get_or lanes server lane)
  the_server_has_its_lane server lane l = get_or-map says lanes server lane none l

  pub past_the_lanes_is_none : (server : ℕ) → length lanes ≤ server → at_server says none lanes server ≡ none
  past_the_lanes_is_none server l = get_or_past (map says lanes) server none (omega (arith, length-map lanes says))

  -- what every server has after one lane says another thing
  pub one_lane_says : (after : ℕ → X) (server : ℕ) (lane : Lane) → server < length lanes → says lane ≡ after server
      → ((x : ℕ) → (x ≡ server → ⊥) → at_server says none lanes x ≡ after x) → at_server says none (set lanes server lane) ≡ after
  one_lane_says after server lane l here there = fun_ext (λ x. ⊎_elim
      (λ (e : x ≡ server). ap (at_server says none (set lanes server lane)) e ∙ (the_server_has_the_lane server lane l ∙ (here ∙ ap after (sym e))))
      (λ n. other_servers_stay server x lane n ∙ there x n)
      (cases_eq x server))

module _ {Lane : Type 0} (masks : Lane → Masks) (lanes : List Lane) where
  -- what waits after one lane has other masks
  one_lane_changes : (w : Waiting) (server : ℕ) (lane : Lane) → server < length lanes
      → ((k f : ℕ) → masks lane k f ≡ w server k f)
      → ((x k f : ℕ) → (x ≡ server → ⊥) → by_server masks lanes x k f ≡ w x k f)
      → by_server masks (set lanes server lane) ≡ w
  one_lane_changes w server lane l here there =
      one_lane_says masks all_empty lanes w server lane l (fun_ext (λ k. fun_ext (here k))) (λ x n. fun_ext (λ k. fun_ext (λ f. there x k f n)))

  a_mask_joins_a_lane : (server row phase mask : ℕ) (lane : Lane) → server < length lanes → length lanes ≡ 8 → names_a_place row phase ≡ true
      → masks lane ≡ joined_mask (by_server masks lanes server) row phase mask
      → by_server masks (set lanes server lane) ≡ put_in (by_server masks lanes) server row phase mask
  a_mask_joins_a_lane server row phase mask lane l h named e =
      let w = by_server masks lanes in
      one_lane_changes (put_in w server row phase mask) server lane l
      (λ k f. ap (λ (m : Masks). m k f) e ∙ joins (w server) k f)
      (λ x k f n. grind (arith, nat_tests))
    where
      joins : (m : Masks) (k f : ℕ) → joined_mask m row phase mask k f ≡ cond (is_place server row phase && (eqb server server && (eqb k row && eqb f phase))) (join (m k f) mask) (m k f)
      joins m k f = grind (arith, nat_tests)

  -- a mask joins the lane at the place of two numbers; `was` is the lane as the code reads it
  pub a_lane_is_joined : (server row phase mask : ℕ) (was lane : Lane) (place : Place) → length lanes ≡ 8 → server < 8 → PlaceOf row phase (Some place)
      → masks lane ≡ joined_mask (masks (get_or lanes server was)) place.row.0 (phase_number place.phase) mask
      → by_server masks (set lanes server lane) ≡ put_in (by_server masks lanes) server row phase mask
  a_lane_is_joined server row phase mask was lane place eight l (named, r, p) e =
      let has = the_server_has_its_lane masks all_empty lanes server was (omega arith) in
      a_mask_joins_a_lane server row phase mask lane (omega arith) eight named
      (e ∙ (ap (λ (m : Masks). joined_mask m place.row.0 (phase_number place.phase) mask) (sym has)
      ∙ (ap (λ k. joined_mask (by_server masks lanes server) k (phase_number place.phase) mask) r ∙ ap (λ f. joined_mask (by_server masks lanes server) row f mask) p)))

  a_mask_leaves_a_lane : (server row phase : ℕ) (lane : Lane) → server < length lanes
      → masks lane ≡ with_mask (by_server masks lanes server) row phase 0
      → by_server masks (set lanes server lane) ≡ taken_out (by_server masks lanes) server row phase
  a_mask_leaves_a_lane server row phase lane l e =
      let w = by_server masks lanes in
      one_lane_changes (taken_out w server row phase) server lane l
      (λ k f. ap (λ (m : Masks). m k f) e ∙ emptied (w server) k f)
      (λ x k f n. grind (arith, nat_tests))
    where
      emptied : (m : Masks) (k f : ℕ) → with_mask m row phase 0 k f ≡ cond (eqb server server && (eqb k row && eqb f phase)) 0 (m k f)
      emptied m k f = grind (arith, nat_tests)

  pub a_lane_gives : (server : ℕ) (r : Option Message) (was lane : Lane) → length lanes ≡ 8 → server < 8
      → Gives (masks (get_or lanes server was)) r (masks lane) → Taken (by_server masks lanes) server r (by_server masks (set lanes server lane))
  a_lane_gives server None was lane eight l (none, same) =
      let has = the_server_has_its_lane masks all_empty lanes server was (omega arith) in
      ((λ row phase. ap (λ (m : Masks). m row phase) (has ∙ none)), one_lane_says masks all_empty lanes (by_server masks lanes) server lane (omega arith) (same ∙ sym has) (λ x n. refl))
  a_lane_gives server (Some m) was lane eight l (some, whole, left) =
      let has = the_server_has_its_lane masks all_empty lanes server was (omega arith) in
      let row = m.row.0 in
      let phase = phase_number m.phase in (
        record { some = some; whole = whole ∙ ap (λ (a : Masks). a row phase) (sym has) },
        a_mask_leaves_a_lane server row phase lane (omega arith) (left ∙ ap (λ (a : Masks). with_mask a row phase 0) (sym has)),
      )

  pub a_lane_is_emptied : (server : ℕ) (lane : Lane) → server < length lanes → masks lane ≡ all_empty
      → by_server masks (set lanes server lane) ≡ cleared (by_server masks lanes) server
  a_lane_is_emptied server lane l e =
      one_lane_changes (cleared (by_server masks lanes) server) server lane l
      (λ k f. ap (λ (m : Masks). m k f) e ∙ grind (arith, nat_tests))
      (λ x k f n. grind (arith, nat_tests))

every_lane_is_empty_there : {Lane : Type 0} (masks : Lane → Masks) (lanes : List Lane) (server row phase : ℕ) → ((lane : Lane) → masks lane row phase ≡ 0) → by_server masks lanes server row phase ≡ 0
every_lane_is_empty_there masks [] server row phase h = refl
every_lane_is_empty_there masks (lane ∷ lanes) zero row phase h = h lane
every_lane_is_empty_there masks (lane ∷ lanes) (suc server) row phase h = every_lane_is_empty_there masks lanes server row phase h

pub nothing_waits_elsewhere : {Lane : Type 0} (masks : Lane → Masks) (lanes : List Lane) (server row phase : ℕ) → length lanes ≡ 8
    → ((lane : Lane) → names_a_place row phase ≡ false → masks lane row phase ≡ 0) → is_place server row phase ≡ false → by_server masks lanes server row phase ≡ 0
nothing_waits_elsewhere masks lanes server row phase eight h e = ⊎_elim
    (λ (l : server < 8). let out : names_a_place row phase ≡ false = grind (arith, nat_tests) in every_lane_is_empty_there masks lanes server row phase (λ lane. h lane out))
    (λ (l : 8 ≤ server). ap (λ (m : Masks). m row phase) (past_the_lanes_is_none masks all_empty lanes server (omega arith)))
    (cases_lt server 8)

pub no_lane_counts_nothing : {Lane : Type 0} (masks : Lane → Masks) (lanes : List Lane) (server : ℕ) → length lanes ≤ server → 0 ≡ rows_hold (by_server masks lanes server) 256
no_lane_counts_nothing masks lanes server l = sym (ap (λ (m : Masks). rows_hold m 256) (past_the_lanes_is_none masks all_empty lanes server l) ∙ nothing_adds_up 256)
