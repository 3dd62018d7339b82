-- The set of groups with an entry, gathered row by row.
use Rattle.std.proofs.Common.{◌≡◌, ℕ, zero, suc, ◌<◌, Bool, true, false, cond, ◌&&◌, ◌||◌, eqb, refl, ap, ◌∙◌, arith}
use Rattle.std.specs.List.{fold}
use Rattle.std.proofs.lemmas.Bool.Decides.{nat_tests}
use Rattle.counting.specs.Below.{any}
use Rattle.servers.specs.declared.ServerSet.{ServerSet}
use Rattle.servers.specs.Sets.{has, join, alone}
use Rattle.servers.proofs.Members.{has_join, has_only, has_none}
use Rattle.messages.specs.declared.Row.{Row}
use Rattle.model.specs.State.{tag_server}
use Rattle.fleet.proofs.Rows.{one_row_more, row_at, rows_passing}

-- a set with one server more
pub a_server_is_added : (m t j : ℕ) → j < 8 → has (join m (alone t)) j ≡ (has m j || eqb t j)
a_server_is_added m t j low = grind (arith, nat_tests, has_join, has_only, has_none)

module _ (test : ℕ → Bool) (tag : ℕ → ℕ) where
  -- the set with the group that the row's tag names
  abbrev pub with_group : ServerSet → Row → ServerSet
  with_group groups r = record { bits = join groups.bits (alone (tag_server (tag r.0))) }

  -- the groups of the rows that pass, gathered from the empty set on
  pub the_groups_are_gathered : (empty : ServerSet) → empty.bits ≡ 0 → (j : ℕ) → j < 8 → (n : ℕ) → has (fold with_group empty (rows_passing test n)).bits j ≡ any (λ r. test r && eqb (tag_server (tag r)) j) n
  unfolding any
  the_groups_are_gathered empty is j low zero = ap (λ m. has m j) is ∙ has_none j
  the_groups_are_gathered empty is j low (suc n) =
      ap (λ s. has s.bits j) (one_row_more test with_group empty n) ∙ by_test (test n) refl (fold with_group empty (rows_passing test n)) (the_groups_are_gathered empty is j low n)
    where
      by_test : (b : Bool) → test n ≡ b → (groups : ServerSet) → has groups.bits j ≡ any (λ r. test r && eqb (tag_server (tag r)) j) n
          → has (cond b (with_group groups (row_at n)) groups).bits j ≡ ((test n && eqb (tag_server (tag n)) j) || any (λ r. test r && eqb (tag_server (tag r)) j) n)
      by_test true e groups was = let added = a_server_is_added groups.bits (tag_server (tag n)) j low in grind (arith, nat_tests)
      by_test false e groups was = grind (arith, nat_tests)
