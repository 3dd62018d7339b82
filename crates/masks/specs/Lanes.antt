-- What waits on a wiring that keeps a lane of messages for each server.
use Rattle.std.specs.Prelude.{◌≡◌, ℕ, ◌<◌, List, map, Some, None, Option, slice_index_or}
use Rattle.messages.specs.declared.Message.{Message}
use Rattle.masks.specs.declared.lane.Lane.{Lane}
use Rattle.masks.specs.declared.store.Store.{Ghosts}
use Rattle.messages.specs.Phases.{phase_number}
use Rattle.messages.specs.Waiting.{Waiting}
use Rattle.masks.specs.Table.{Masks, all_empty, masks_of, with_mask}

-- a lane gives a message that waits, with the whole of its mask, and it alone leaves; none exactly where nothing waits
abbrev pub Gives : Masks → Option Message → Masks → Type 0
Gives before None after = (before ≡ all_empty) × (after ≡ before)
Gives before (Some m) after =
    (0 < m.mask.bits) × (m.mask.bits ≡ before m.row.0 (phase_number m.phase)) × (after ≡ with_mask before m.row.0 (phase_number m.phase) 0)

-- the masks of a lane
abbrev pub lane_masks : {S : Type 0} {store : Ghosts S} → Lane S store → Masks
lane_masks lane = masks_of lane.masks

-- server s has what lane s says; past the last lane there is none of it
abbrev pub at_server : {Lane X : Type 0} → (Lane → X) → X → List Lane → ℕ → X
at_server says none lanes server = slice_index_or (map says lanes) server none

-- what waits, by the masks of each lane
abbrev pub by_server : {Lane : Type 0} → (Lane → Masks) → List Lane → Waiting
by_server masks lanes = at_server masks all_empty lanes
