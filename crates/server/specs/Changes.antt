-- The server that each change leaves.
use Rattle.std.specs.Prelude.{◌≡◌, refl, Bool, false, cond, ◌||◌, not, List, ℕ, zero, suc, ◌+◌, eqb, leb, get_or, set, replicate}
use Rattle.std.proofs.Common.{add-one}
use Rattle.messages.specs.declared.Phase.{Phase}
use Rattle.messages.specs.declared.Phase.TheVariants.{PreWrite, Write}
use Rattle.model.specs.ServerChanges.{highest_count}
use Rattle.operation.specs.declared.tag.Tag.{Tag}
use Rattle.operation.specs.Tags.{first_tag, higher_tag}
use Rattle.servers.specs.declared.ServerSet.{ServerSet}
use Rattle.servers.specs.Sets.{alone}
use Rattle.server.specs.declared.cell.Cell.{Cell}
use Rattle.server.specs.declared.server.Server.{Server}
use Rattle.server.specs.Cells.{no_set, both, no_cell, cell_with_pending, cell_pends, cell_keeps_prewrite, cell_keeps_write, cell_without_prewrite, cell_without_write}
use Rattle.server.specs.Servers.{cell_at, count_at}

-- a new server: it holds row 0, and has nothing to forward
abbrev pub new_server : Bool → Server
new_server standing = record { standing = standing; held = record { 0 = 0 }; returned = first_tag; noticed = no_set; turn_counts = replicate 8 0; cells = replicate 256 no_cell }

-- other masks of all rows
abbrev pub with_cells : Server → List Cell → Server
with_cells s cells = record { standing = s.standing; held = s.held; returned = s.returned; noticed = s.noticed; turn_counts = s.turn_counts; cells = cells }

-- other masks of row r
abbrev pub with_cell : Server → ℕ → Cell → Server
with_cell s r cell = with_cells s (set s.cells r cell)

-- other turn counts
abbrev pub with_counts : Server → List ℕ → Server
with_counts s counts = record { standing = s.standing; held = s.held; returned = s.returned; noticed = s.noticed; turn_counts = counts; cells = s.cells }

-- row k is no longer pending if its tag is not above the bound
abbrev pub cleared_one : (ℕ → ℕ) → ℕ → List Cell → ℕ → List Cell
cleared_one tag bound cells k = cond (leb (tag k) bound) (set cells k (cell_with_pending (get_or cells k no_cell) no_set)) cells

-- so for each of the first rows; shut, since it would unroll at a literal number of rows, and its two laws, at 0 and at k + 1, stand below it
unfoldable pub cleared_below : (ℕ → ℕ) → ℕ → List Cell → ℕ → List Cell
cleared_below tag bound cells zero = cells
cleared_below tag bound cells (suc k) = cleared_one tag bound (cleared_below tag bound cells k) k

pub cleared_none : (tag : ℕ → ℕ) (bound : ℕ) (cells : List Cell) → cleared_below tag bound cells 0 ≡ cells
unfolding cleared_below
cleared_none tag bound cells = refl

pub cleared_more : (tag : ℕ → ℕ) (bound : ℕ) (cells : List Cell) (k : ℕ) → cleared_below tag bound cells (k + 1) ≡ cleared_one tag bound (cleared_below tag bound cells k) k
unfolding cleared_below
cleared_more tag bound cells k = rw add-one

-- it holds row r, and rows with tags not above that of r are no longer pending
abbrev pub server_holds : Server → (ℕ → ℕ) → ℕ → Server
server_holds s tag r = record { standing = s.standing; held = record { 0 = r }; returned = s.returned; noticed = s.noticed; turn_counts = s.turn_counts; cells = cleared_below tag (tag r) s.cells 256 }

-- it raises its returned tag to this one if that is higher
abbrev pub server_raises : Server → Tag → Server
server_raises s tag = record { standing = s.standing; held = s.held; returned = higher_tag s.returned tag; noticed = s.noticed; turn_counts = s.turn_counts; cells = s.cells }

-- the mask joins that of the row's pre-write to forward
abbrev pub server_keeps_prewrite : Server → ℕ → ServerSet → Server
server_keeps_prewrite s r mask = with_cell s r (cell_keeps_prewrite (cell_at s r) mask)

-- the mask joins that of the row's write to forward
abbrev pub server_keeps_write : Server → ℕ → ServerSet → Server
server_keeps_write s r mask = with_cell s r (cell_keeps_write (cell_at s r) mask)

-- the mask joins that of the row's phase to forward
abbrev pub server_keeps : Phase → Server → ℕ → ServerSet → Server
server_keeps PreWrite = server_keeps_prewrite
server_keeps Write = server_keeps_write

-- the row's pre-write is taken out, and if the row is news the mask joins the pending one
abbrev pub server_releases_prewrite : Bool → Server → ℕ → ServerSet → Server
server_releases_prewrite is_news s r mask = with_cell s r (cond is_news (cell_pends (cell_without_prewrite (cell_at s r)) mask) (cell_without_prewrite (cell_at s r)))

-- the row's write is taken out
abbrev pub server_releases_write : Server → ℕ → Server
server_releases_write s r = with_cell s r (cell_without_write (cell_at s r))

-- the row is pending under this mask
abbrev pub server_starts : Server → ℕ → ServerSet → Server
server_starts s r mask = with_cell s r (cell_with_pending (cell_at s r) mask)

-- all counts 0 if no entry waits to be forwarded, or if the count of group j is the highest
abbrev pub server_ready : Bool → Server → ℕ → Server
server_ready some_entry s j = with_counts s (cond (not some_entry || eqb (count_at s j) highest_count) (replicate 8 0) s.turn_counts)

-- the count of group j has risen by one
abbrev pub server_counted : Bool → Server → ℕ → Server
server_counted some_entry s j = with_counts s (set (server_ready some_entry s j).turn_counts j (count_at (server_ready some_entry s j) j + 1))

-- it stops, and its masks are empty
abbrev pub server_stops : Server → Server
server_stops s = record { standing = false; held = s.held; returned = s.returned; noticed = s.noticed; turn_counts = s.turn_counts; cells = replicate 256 no_cell }

-- it has noticed the crash of server x
abbrev pub server_notices : Server → ℕ → Server
server_notices s x = record { standing = s.standing; held = s.held; returned = s.returned; noticed = both s.noticed (record { bits = alone x }); turn_counts = s.turn_counts; cells = s.cells }
