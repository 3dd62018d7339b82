-- What a table of new servers keeps is nothing, and those below the size stand.
use Rattle.std.proofs.Common.{◌≡◌, ℕ, ◌<◌, ◌≤◌, Bool, ltb, List, length, sym, refl, ap, ◌∙◌, subst, ⊎_elim, arith}
use Rattle.std.proofs.lemmas.Bool.{cases_lt}
use Rattle.std.proofs.lemmas.Bool.Decides.{nat_tests}
use Rattle.servers.specs.Sets.{has}
use Rattle.servers.proofs.Members.{has_none}
use Rattle.operation.specs.Tags.{tag_key}
use Rattle.server.specs.declared.server.Server.{Server}
use Rattle.server.specs.Cells.{no_cell}
use Rattle.server.specs.Servers.{cell_at, count_at}
use Rattle.server.specs.Changes.{new_server}
use Rattle.model.specs.ServerChanges.{new_servers}
use Rattle.table.specs.Table.{no_server, server_at, servers_of}
use Rattle.journal.proofs.Beginnings.{get_or_replicate}
use Rattle.table.proofs.OneServer.{none_past_the_end}

-- the server keeps nothing
record Blank (s : Server) : Type 0 where
  held : s.held.0 ≡ 0
  returned : tag_key s.returned ≡ 0
  noticed : s.noticed.bits ≡ 0
  turn_count : (j : ℕ) → count_at s j ≡ 0
  cell : (r : ℕ) → cell_at s r ≡ no_cell

-- a new server keeps nothing
a_new_server_is_blank : (standing : Bool) → Blank (new_server standing)
a_new_server_is_blank standing = record { held = refl; returned = refl; noticed = refl; turn_count = λ j. get_or_replicate {A = ℕ} 8 j 0; cell = λ r. get_or_replicate 256 r no_cell }

-- what stands past the end keeps nothing
no_server_is_blank : Blank no_server
no_server_is_blank = record { held = refl; returned = refl; noticed = refl; turn_count = λ j. refl; cell = λ r. refl }

-- a server of a new table is blank, and stands if it is below the size
record New (n p : ℕ) (s : Server) : Type 0 where
  standing : s.standing ≡ ltb p n
  blank : Blank s

-- a table of new servers keeps what the rules say of new servers
pub all_are_new : (l : List Server) (n : ℕ) → n ≤ 8 → length l ≡ 8 → ((p : ℕ) → p < 8 → server_at l p ≡ new_server (ltb p n)) → servers_of l ≡ new_servers n
all_are_new l n few sized is =
    let new : (p : ℕ) → New n p (server_at l p) = (λ p. ⊎_elim
    (λ (h : p < 8). subst (λ s. New n p s) (sym (is p h)) (record { standing = refl; blank = a_new_server_is_blank (ltb p n) }))
    (λ (h : 8 ≤ p). subst (λ s. New n p s) (sym (none_past_the_end l p sized h)) (record { standing = grind (arith, nat_tests); blank = no_server_is_blank }))
    (cases_lt p 8)) in
    λ i. record {
      standing = λ p. (new p).standing i;
      held = λ p. (new p).blank.held i;
      returned = λ p. (new p).blank.returned i;
      noticed = λ p x. (ap (λ m. has m x) (new p).blank.noticed ∙ has_none x) i;
      turn_count = λ p j. (new p).blank.turn_count j i;
      pending = λ p r. ((new p).blank.cell r i).pending.bits;
      forward_prewrite = λ p r. ((new p).blank.cell r i).prewrite.bits;
      forward_write = λ p r. ((new p).blank.cell r i).write.bits;
    }
