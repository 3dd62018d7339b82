-- The lines of the lanes: the places where messages wait for each server, in the order of its store, and what each call of a wiring does to them.
use Rattle.std.specs.Prelude.{◌≡◌, ℕ, cond, ◌&&◌, List, [], ◌∷◌, ◌++◌, map, Option, option_map, ◌==◌, ◌≢◌}
use Rattle.masks.specs.declared.lane.Lane.{Lane}
use Rattle.masks.specs.declared.server_lanes.ServerLanes.{ServerLanes}
use Rattle.masks.specs.Lanes.{at_server, by_server, lane_masks}
use Rattle.masks.specs.declared.store.Store.{Ghosts}
use Rattle.masks.specs.Table.{Masks, is_new}
use Rattle.messages.specs.declared.Message.{Message}
use Rattle.messages.specs.declared.Place.{Place}
use Rattle.messages.specs.Phases.{phase_number}
use Rattle.messages.specs.Waiting.{Waiting, is_place}

-- places by row and phase number, in the order of the store
abbrev pub Line : Type 0
Line = List (ℕ × ℕ)

-- row and phase number of a place
abbrev pub numbers : Place → ℕ × ℕ
numbers place = (place.row.0, phase_number place.phase)

-- row and phase number of a message
abbrev pub message_numbers : Message → ℕ × ℕ
message_numbers m = (m.row.0, phase_number m.phase)

-- the places of a lane's messages
abbrev pub lane_places : {S : Type 0} {store : Ghosts S} → Lane S store → List Place
lane_places {store = store} lane = store.listed lane.store

-- the line of a lane
abbrev pub lane_line : {S : Type 0} {store : Ghosts S} → Lane S store → Line
lane_line lane = map numbers (lane_places lane)

-- what waits on the lanes of all servers
abbrev pub lanes_wait : {S : Type 0} {store : Ghosts S} → ServerLanes S store → Waiting
lanes_wait all = by_server lane_masks all.lanes

-- the places where messages wait for each server, in the order of the store
abbrev pub places_at : {S : Type 0} {store : Ghosts S} → ServerLanes S store → ℕ → List Place
places_at all = at_server lane_places [] all.lanes

-- the line of each server
abbrev pub lines_at : {S : Type 0} {store : Ghosts S} → ServerLanes S store → ℕ → Line
lines_at all = at_server lane_line [] all.lanes

-- a message arrives: it stands last, but one of its row and phase that waits keeps its place; an empty mask is no message
abbrev pub arrived : Line → Masks → ℕ → ℕ → ℕ → Line
arrived line masks row phase mask = cond (is_new masks row phase mask) (line ++ (row, phase) ∷ []) line

-- put: the message arrives in the line of its server, if it can wait there; the other lines stay
abbrev pub arrived_at : (ℕ → Line) → Waiting → ℕ → ℕ → ℕ → ℕ → ℕ → Line
arrived_at before w server row phase mask x = cond (is_place server row phase && x == server) (arrived (before x) (w x) row phase mask) (before x)

-- clear: the line of the server is empty, the others stay
abbrev pub emptied_at : (ℕ → Line) → ℕ → ℕ → Line
emptied_at before server x = cond (x == server) [] (before x)

-- the place of a message that was handed out
abbrev pub place_of : Option Message → Option Place
place_of m = option_map (λ (x : Message). record { row = x.row; phase = x.phase }) m

-- take: the store of one server hands out a place for a number; the other stores stay
abbrev pub ChosenAt : (List Place → ℕ → Option Place → List Place → Type 0) → (ℕ → List Place) → ℕ → ℕ → Option Place → (ℕ → List Place) → Type 0
ChosenAt chosen before server number place after = chosen (before server) number place (after server) × ((x : ℕ) → (x ≢ server) → after x ≡ before x)
