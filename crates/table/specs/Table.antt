-- The servers of a table by number, and what they keep in the words of the rules.
use Rattle.std.specs.Prelude.{ℕ, false, List, [], slice_index_or}
use Rattle.messages.specs.declared.Phase.{Phase}
use Rattle.messages.specs.declared.Phase.TheVariants.{PreWrite, Write}
use Rattle.operation.specs.Tags.{first_tag, tag_key}
use Rattle.server.specs.declared.cell.Cell.{Cell}
use Rattle.server.specs.declared.server.Server.{Server}
use Rattle.server.specs.Cells.{no_set}
use Rattle.server.specs.Servers.{cell_at, count_at}
use Rattle.servers.specs.Sets.{has}
use Rattle.model.specs.ServerChanges.{servers_kept_prewrite, servers_kept_write}
use Rattle.model.specs.State.{Servers}

-- past the table's end: no server stands, and nothing is kept
abbrev pub no_server : Server
no_server = record { standing = false; held = record { 0 = 0 }; returned = first_tag; noticed = no_set; turn_counts = []; cells = [] }

-- server p
abbrev pub server_at : List Server → ℕ → Server
server_at list p = slice_index_or list p no_server

-- the masks of the rows at server p
abbrev pub cells_of : List Server → ℕ → List Cell
cells_of list p = (server_at list p).cells

-- the turn counts of server p
abbrev pub counts_of : List Server → ℕ → List ℕ
counts_of list p = (server_at list p).turn_counts

-- what the servers of a table keep, in the words of the rules: functions of the server's number
abbrev pub servers_of : List Server → Servers
servers_of list = record {
  standing = λ p. (server_at list p).standing;
  held = λ p. (server_at list p).held.0;
  returned = λ p. tag_key (server_at list p).returned;
  noticed = λ p x. has (server_at list p).noticed.bits x;
  turn_count = λ p j. count_at (server_at list p) j;
  pending = λ p r. (cell_at (server_at list p) r).pending.bits;
  forward_prewrite = λ p r. (cell_at (server_at list p) r).prewrite.bits;
  forward_write = λ p r. (cell_at (server_at list p) r).write.bits;
}

-- the mask joins that of the row's phase that p is to forward, in the words of the rules
abbrev pub servers_kept : Phase → Servers → ℕ → ℕ → ℕ → Servers
servers_kept PreWrite = servers_kept_prewrite
servers_kept Write = servers_kept_write
