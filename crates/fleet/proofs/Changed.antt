-- A change of one server of a fleet: the server and its rows are there, and where the table keeps what the rule says, so does the fleet.
use Rattle.std.proofs.Common.{◌≡◌, ℕ, ◌<◌, length, arith}
use Rattle.model.specs.State.{Servers}
use Rattle.table.specs.Table.{cells_of, counts_of}
use Rattle.table.proofs.OneServer.{one_raises, one_keeps, one_releases_prewrite, one_releases_write, one_starts, one_stops, one_counts, one_stays, one_notices, one_notices_none}
use Rattle.fleet.specs.declared.fleet.Fleet.{Fleet}
use Rattle.fleet.specs.View.{ChangedAt, servers}

module _ (fleet : Fleet) (p : ℕ) (low : p < 8) where
  -- server p is in the table
  pub the_server_is_there : p < length fleet.list
  the_server_is_there = omega (arith, fleet.sized)

  -- it has counts of 8 groups
  pub the_groups_are_there : length (counts_of fleet.list p) ≡ 8
  the_groups_are_there = fleet.groups p low

  -- and masks of row r
  pub the_row_is_there : (r : ℕ) → r < 256 → r < length (cells_of fleet.list p)
  the_row_is_there r fits = omega (arith, fleet.rows p low)

  -- what is kept afterwards is what the rule says
  pub changed_there : {rule : Servers} {after : Fleet} → after.size ≡ fleet.size → servers after ≡ rule → ChangedAt p fleet rule after
  changed_there size kept = record { size = size; kept = λ h. kept; none = λ h. absurd (omega arith) }

-- what a change of one server does to the fleet, but for holding a row, whose terms are long
pub ruleset changes = (one_raises, one_keeps, one_releases_prewrite, one_releases_write, one_starts, one_stops, one_counts, one_stays, one_notices, one_notices_none, the_server_is_there, the_groups_are_there, the_row_is_there, changed_there)
