-- What a table of masks says: the mask of each row and phase, 0 for the empty one.
use Rattle.std.specs.Prelude.{◌≡◌, ℕ, Bool, cond, ◌&&◌, List, ◌==◌, nat_lt, slice_index_or}
use Rattle.messages.specs.declared.Message.{Message}
use Rattle.messages.specs.declared.Place.{Place}
use Rattle.messages.specs.Phases.{phase_number}
use Rattle.servers.specs.Sets.{join}
use Rattle.masks.specs.declared.table.RowMasks.{RowMasks}
use Rattle.masks.specs.declared.table.MaskTable.{MaskTable}

-- the masks of one server's messages by row and phase number
abbrev pub Masks : Type 0
Masks = ℕ → ℕ → ℕ

-- no message
abbrev pub all_empty : Masks
all_empty row phase = 0

-- the mask of one place is another one; every other place stays
abbrev pub with_mask : Masks → ℕ → ℕ → ℕ → Masks
with_mask masks row phase mask k f = cond (k == row && f == phase) mask (masks k f)

-- a mask joins the one of its place
abbrev pub joined_mask : Masks → ℕ → ℕ → ℕ → Masks
joined_mask masks row phase mask = with_mask masks row phase (join (masks row phase) mask)

-- a mask that is not empty comes to a place where no message waits
abbrev pub is_new : Masks → ℕ → ℕ → ℕ → Bool
is_new masks row phase mask = masks row phase == 0 && nat_lt 0 mask

-- the message of a place goes out with the whole of its mask, and leaves an empty one
pub record GoesOut (place : Place) (before : Masks) (m : Message) (after : Masks) : Type 0 where
  pub row : m.row ≡ place.row
  pub phase : m.phase ≡ place.phase
  pub whole : m.mask.bits ≡ before place.row.0 (phase_number place.phase)
  pub left : after ≡ with_mask before place.row.0 (phase_number place.phase) 0

-- a row with no message
abbrev pub no_masks : RowMasks
no_masks = record { pre_write = record { bits = 0 }; write = record { bits = 0 } }

-- a row's mask of one phase; another number than 1 and 2 has none
abbrev pub of_phase : RowMasks → ℕ → ℕ
of_phase r phase = cond (phase == 1) r.pre_write.bits (cond (phase == 2) r.write.bits 0)

-- the masks in a list of rows
abbrev pub masks_in : List RowMasks → Masks
masks_in rows row phase = of_phase (slice_index_or rows row no_masks) phase

-- the masks in a table
abbrev pub masks_of : MaskTable → Masks
masks_of t = masks_in t.rows
