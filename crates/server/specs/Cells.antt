-- The masks of one row at one server, and what becomes of them.
use Rattle.std.specs.Prelude.{Bool, ◌||◌, ℕ, ◌+◌, ltb}
use Rattle.messages.specs.declared.Phase.{Phase}
use Rattle.messages.specs.declared.Phase.TheVariants.{PreWrite, Write}
use Rattle.messages.specs.Waiting.{entry}
use Rattle.servers.specs.declared.ServerSet.{ServerSet}
use Rattle.servers.specs.Sets.{join}
use Rattle.server.specs.declared.cell.Cell.{Cell}

-- no server
abbrev pub no_set : ServerSet
no_set = record { bits = 0 }

-- the servers of both sets
abbrev pub both : ServerSet → ServerSet → ServerSet
both a b = record { bits = join a.bits b.bits }

-- nothing is kept of the row
abbrev pub no_cell : Cell
no_cell = record { pending = no_set; prewrite = no_set; write = no_set }

-- the row is pending
abbrev pub is_pending : Cell → Bool
is_pending c = ltb 0 c.pending.bits

-- a write waits to be forwarded
abbrev pub has_write : Cell → Bool
has_write c = ltb 0 c.write.bits

-- an entry waits to be forwarded: a pre-write or a write
abbrev pub has_entry : Cell → Bool
has_entry c = ltb 0 c.prewrite.bits || has_write c

-- the mask of the phase to forward
abbrev pub forwarded : Phase → Cell → ServerSet
forwarded PreWrite c = c.prewrite
forwarded Write c = c.write

-- how many entries wait to be forwarded
abbrev pub entry_count : Cell → ℕ
entry_count c = entry c.prewrite.bits + entry c.write.bits

-- pending under another mask
abbrev pub cell_with_pending : Cell → ServerSet → Cell
cell_with_pending c mask = record { pending = mask; prewrite = c.prewrite; write = c.write }

-- the mask joins the pending one
abbrev pub cell_pends : Cell → ServerSet → Cell
cell_pends c mask = cell_with_pending c (both c.pending mask)

-- the mask joins that of the pre-write to forward
abbrev pub cell_keeps_prewrite : Cell → ServerSet → Cell
cell_keeps_prewrite c mask = record { pending = c.pending; prewrite = both c.prewrite mask; write = c.write }

-- the mask joins that of the write to forward
abbrev pub cell_keeps_write : Cell → ServerSet → Cell
cell_keeps_write c mask = record { pending = c.pending; prewrite = c.prewrite; write = both c.write mask }

-- the mask joins that of the phase to forward
abbrev pub cell_keeps : Phase → Cell → ServerSet → Cell
cell_keeps PreWrite = cell_keeps_prewrite
cell_keeps Write = cell_keeps_write

-- the pre-write is taken out
abbrev pub cell_without_prewrite : Cell → Cell
cell_without_prewrite c = record { pending = c.pending; prewrite = no_set; write = c.write }

-- the write is taken out
abbrev pub cell_without_write : Cell → Cell
cell_without_write c = record { pending = c.pending; prewrite = c.prewrite; write = no_set }

-- what is to be forwarded in the phase is taken out
abbrev pub cell_without : Phase → Cell → Cell
cell_without PreWrite = cell_without_prewrite
cell_without Write = cell_without_write
