-- What a server keeps, by row and by group.
use Rattle.std.specs.Prelude.{ℕ, get_or}
use Rattle.server.specs.declared.cell.Cell.{Cell}
use Rattle.server.specs.declared.server.Server.{Server}
use Rattle.server.specs.Cells.{no_cell}

-- the masks of row r; past the last row there are none
abbrev pub cell_at : Server → ℕ → Cell
cell_at s r = get_or s.cells r no_cell

-- the turn count of group j
abbrev pub count_at : Server → ℕ → ℕ
count_at s j = get_or s.turn_counts j 0
