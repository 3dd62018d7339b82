-- Each change of one server, in the words of the rules. The idea: the server's own part is its new one, and every other server keeps its own.
use Rattle.std.proofs.Common.{◌≡◌, ℕ, ◌<◌, ◌≤◌, max, Bool, true, false, cond, eqb, List, length, get_or, set, replicate, arith}
use Rattle.std.proofs.lemmas.List.{get_or-set_same, get_or-set_other, get_or_past}
use Rattle.std.proofs.lemmas.Bool.Decides.{nat_tests}
use Rattle.messages.specs.declared.Phase.{Phase}
use Rattle.messages.specs.declared.Phase.TheVariants.{PreWrite, Write}
use Rattle.servers.specs.declared.ServerSet.{ServerSet}
use Rattle.servers.specs.Sets.{has, join, one}
use Rattle.servers.proofs.Members.{has_join, has_only, has_none}
use Rattle.operation.specs.declared.tag.Tag.{Tag}
use Rattle.operation.specs.Tags.{tag_key}
use Rattle.server.specs.declared.cell.Cell.{Cell}
use Rattle.server.specs.declared.server.Server.{Server}
use Rattle.server.specs.Cells.{no_cell}
use Rattle.journal.proofs.Beginnings.{get_or_replicate}
use Rattle.server.specs.Servers.{cell_at, count_at}
use Rattle.server.specs.Changes.{server_raises, server_keeps, server_releases_prewrite, server_releases_write, server_starts, server_counted, server_holds, server_stops, server_notices}
use Rattle.model.specs.State.{Servers}
use Rattle.model.specs.ServerChanges.{servers_raised, servers_released_prewrite_if, servers_released_write, servers_started, servers_counted_if, servers_crashed, servers_held_if, servers_noticed}
use Rattle.table.proofs.Cleared.{the_first_are_cleared}
use Rattle.table.specs.Table.{server_at, no_server, cells_of, counts_of, servers_kept, servers_of}

-- a number above 7 names no server
pub none_past_the_end : (l : List Server) (p : ℕ) → length l ≡ 8 → 8 ≤ p → server_at l p ≡ no_server
none_past_the_end l p sized h = get_or_past l p no_server (omega arith)

-- v is what is kept where server p is a new one, and the others stay
record IsWith (l : List Server) (p : ℕ) (new : Server) (v : Servers) : Type 0 where
  standing : (x : ℕ) → v.standing x ≡ cond (eqb x p) new.standing (server_at l x).standing
  held : (x : ℕ) → v.held x ≡ cond (eqb x p) new.held.0 (server_at l x).held.0
  returned : (x : ℕ) → v.returned x ≡ cond (eqb x p) (tag_key new.returned) (tag_key (server_at l x).returned)
  noticed : (x y : ℕ) → v.noticed x y ≡ cond (eqb x p) (has new.noticed.bits y) (has (server_at l x).noticed.bits y)
  turn_count : (x j : ℕ) → v.turn_count x j ≡ cond (eqb x p) (count_at new j) (count_at (server_at l x) j)
  pending : (x r : ℕ) → v.pending x r ≡ cond (eqb x p) (cell_at new r).pending.bits (cell_at (server_at l x) r).pending.bits
  forward_prewrite : (x r : ℕ) → v.forward_prewrite x r ≡ cond (eqb x p) (cell_at new r).prewrite.bits (cell_at (server_at l x) r).prewrite.bits
  forward_write : (x r : ℕ) → v.forward_write x r ≡ cond (eqb x p) (cell_at new r).write.bits (cell_at (server_at l x) r).write.bits

module _ (l : List Server) (p : ℕ) (in_it : p < length l) where
  -- one server of the table is replaced
  one_server_changes : (new : Server) (v : Servers) → IsWith l p new v → servers_of (set l p new) ≡ v
  one_server_changes new v is =
      let here = get_or-set_same l p new no_server in_it in
      let there = λ (x : ℕ). get_or-set_other l p x new no_server in
      let standing : (x : ℕ) → (server_at (set l p new) x).standing ≡ v.standing x = (λ x. let a = there x in let b = is.standing x in grind (arith, nat_tests)) in
      let held : (x : ℕ) → (server_at (set l p new) x).held.0 ≡ v.held x = (λ x. let a = there x in let b = is.held x in grind (arith, nat_tests)) in
      let returned : (x : ℕ) → tag_key (server_at (set l p new) x).returned ≡ v.returned x = (λ x. let a = there x in let b = is.returned x in grind (arith, nat_tests)) in
      let noticed : (x y : ℕ) → has (server_at (set l p new) x).noticed.bits y ≡ v.noticed x y = (λ x y. let a = there x in let b = is.noticed x y in grind (arith, nat_tests)) in
      let turn_count : (x j : ℕ) → count_at (server_at (set l p new) x) j ≡ v.turn_count x j = (λ x j. let a = there x in let b = is.turn_count x j in grind (arith, nat_tests)) in
      let pending : (x r : ℕ) → (cell_at (server_at (set l p new) x) r).pending.bits ≡ v.pending x r = (λ x r. let a = there x in let b = is.pending x r in grind (arith, nat_tests)) in
      let prewrite : (x r : ℕ) → (cell_at (server_at (set l p new) x) r).prewrite.bits ≡ v.forward_prewrite x r = (λ x r. let a = there x in let b = is.forward_prewrite x r in grind (arith, nat_tests)) in
      let write : (x r : ℕ) → (cell_at (server_at (set l p new) x) r).write.bits ≡ v.forward_write x r = (λ x r. let a = there x in let b = is.forward_write x r in grind (arith, nat_tests)) in
      λ i. record {
        standing = λ x. standing x i;
        held = λ x. held x i;
        returned = λ x. returned x i;
        noticed = λ x y. noticed x y i;
        turn_count = λ x j. turn_count x j i;
        pending = λ x r. pending x r i;
        forward_prewrite = λ x r. prewrite x r i;
        forward_write = λ x r. write x r i;
      }

  -- it raises its returned tag
  pub one_raises : (new : Server) (tag : Tag) → new ≡ server_raises (server_at l p) tag → tag_key new.returned ≡ max (tag_key (server_at l p).returned) (tag_key tag)
      → servers_of (set l p new) ≡ servers_raised (servers_of l) p (tag_key tag)
  one_raises new tag is keys = one_server_changes new _ (grind (arith, nat_tests))

  -- it holds a row, and what is up to that row is no longer pending
  pub one_holds : (new : Server) (tag : ℕ → ℕ) (r : ℕ) → length (cells_of l p) ≡ 256 → new ≡ server_holds (server_at l p) tag r
      → servers_of (set l p new) ≡ servers_held_if true (servers_of l) tag p r
  one_holds new tag r sized is =
      let cleared = the_first_are_cleared tag (tag r) (cells_of l p) 256 (omega arith) in
      let past = λ (k : ℕ) (h : 256 ≤ k). get_or_past (cells_of l p) k no_cell (omega arith) in
      one_server_changes new _ (grind (arith, nat_tests, past))

  -- every server keeps masks of 256 rows where one holds a row
  pub holding_keeps_all_rows : (new : Server) (tag : ℕ → ℕ) (r : ℕ) → ((x : ℕ) → x < 8 → length (cells_of l x) ≡ 256) → p < 8 → new ≡ server_holds (server_at l p) tag r
      → (x : ℕ) → x < 8 → length (cells_of (set l p new) x) ≡ 256
  holding_keeps_all_rows new tag r sized low is x h =
      let long = sized p low in
      let cleared = the_first_are_cleared tag (tag r) (cells_of l p) 256 (omega arith) in
      let here = get_or-set_same l p new no_server in_it in
      let there = get_or-set_other l p x new no_server in
      let other = sized x h in
      grind (arith, nat_tests)

  -- it counts a turn
  pub one_counts : (new : Server) (some_entry : Bool) (j : ℕ) → j < 8 → length (counts_of l p) ≡ 8 → new ≡ server_counted some_entry (server_at l p) j
      → servers_of (set l p new) ≡ servers_counted_if some_entry (servers_of l) p j
  one_counts new some_entry j low sized is =
      let zeros = λ (i : ℕ). get_or_replicate {A = ℕ} 8 i 0 in
      one_server_changes new _ (grind (arith, nat_tests, get_or-set_same, get_or-set_other, zeros))

  -- it stays as it was
  pub one_stays : (new : Server) → new ≡ server_at l p → servers_of (set l p new) ≡ servers_of l
  one_stays new is = one_server_changes new _ (grind (arith, nat_tests))

  -- it stops, and has masks that are all empty
  one_stops_with : (cells : List Cell) → ((r : ℕ) → get_or cells r no_cell ≡ no_cell) → (new : Server)
      → new ≡ record { standing = false; held = (server_at l p).held; returned = (server_at l p).returned; noticed = (server_at l p).noticed; turn_counts = counts_of l p; cells = cells }
      → servers_of (set l p new) ≡ servers_crashed (servers_of l) p
  one_stops_with cells none new is = one_server_changes new _ (grind (arith, nat_tests, none))

  -- it stops
  pub one_stops : (new : Server) → new ≡ server_stops (server_at l p) → servers_of (set l p new) ≡ servers_crashed (servers_of l) p
  one_stops new is = one_stops_with (replicate 256 no_cell) (λ r. get_or_replicate 256 r no_cell) new is

  -- it notices a crash
  pub one_notices : (new : Server) (x : ℕ) → x < 8 → new ≡ server_notices (server_at l p) x → servers_of (set l p new) ≡ servers_noticed (servers_of l) p x
  one_notices new x low is = one_server_changes new _ (grind (arith, nat_tests, has_join, has_only))

  -- a number above 7 is no server to notice
  pub one_notices_none : (new : Server) (x : ℕ) → 8 ≤ x → new ≡ server_notices (server_at l p) x → servers_of (set l p new) ≡ servers_of l
  one_notices_none new x high is = one_server_changes new _ (grind (arith, nat_tests, has_join, has_none))

  module _ (r : ℕ) (row : r < length (cells_of l p)) (new : Server) where
    -- it keeps a pre-write or a write
    pub one_keeps : (phase : Phase) (mask : ServerSet) → new ≡ server_keeps phase (server_at l p) r mask → servers_of (set l p new) ≡ servers_kept phase (servers_of l) p r mask.bits
    one_keeps PreWrite mask is = one_server_changes new _ (grind (arith, nat_tests, get_or-set_same, get_or-set_other))
    one_keeps Write mask is = one_server_changes new _ (grind (arith, nat_tests, get_or-set_same, get_or-set_other))

    -- its pre-write leaves, and is pending if it is news
    pub one_releases_prewrite : (is_news : Bool) (mask : ServerSet) → mask.bits ≡ join (cell_at (server_at l p) r).prewrite.bits (one p) → new ≡ server_releases_prewrite is_news (server_at l p) r mask
        → servers_of (set l p new) ≡ servers_released_prewrite_if is_news (servers_of l) p r
    one_releases_prewrite is_news mask e is = one_server_changes new _ (grind (arith, nat_tests, get_or-set_same, get_or-set_other))

    -- its write leaves
    pub one_releases_write : new ≡ server_releases_write (server_at l p) r → servers_of (set l p new) ≡ servers_released_write (servers_of l) p r
    one_releases_write is = one_server_changes new _ (grind (arith, nat_tests, get_or-set_same, get_or-set_other))

    -- it starts a write
    pub one_starts : (mask : ServerSet) → mask.bits ≡ one p → new ≡ server_starts (server_at l p) r mask → servers_of (set l p new) ≡ servers_started (servers_of l) p r
    one_starts mask e is = one_server_changes new _ (grind (arith, nat_tests, get_or-set_same, get_or-set_other))
