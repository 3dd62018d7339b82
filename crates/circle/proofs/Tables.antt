-- How the cost of a table of masks changes when an entry leaves it or joins it.
-- A sum over the table, of which one term changes; a mask that joins another costs no more than it would alone.
use Rattle.std.proofs.Common.{◌≡◌, ℕ, ◌+◌, ◌*◌, ◌<◌, ◌≤◌, true, cond, ◌&&◌, eqb, arith}
use Rattle.std.proofs.lemmas.Bool.Decides.{nat_tests}
use Rattle.servers.specs.Sets.{has, join}
use Rattle.servers.proofs.Members.{has_join}
use Rattle.circle.specs.Costs.{table_cost, entries}
use Rattle.counting.proofs.Sums.{sum2_mono, sum2_bound, sum2_falls, sum2_rises}

-- u is the table t, but empty at (p, r)
abbrev pub Emptied : (ℕ → ℕ → ℕ) → (ℕ → ℕ → ℕ) → ℕ → ℕ → Type 0
Emptied t u p r = (i k : ℕ) → u i k ≡ cond (eqb i p && eqb k r) 0 (t i k)

-- u is the table t, with the mask joined at (p, r)
abbrev pub Joined : (ℕ → ℕ → ℕ) → (ℕ → ℕ → ℕ) → ℕ → ℕ → ℕ → Type 0
Joined t u p r mask = (i k : ℕ) → u i k ≡ cond (eqb i p && eqb k r) (join (t i k) mask) (t i k)

-- u is the table t
abbrev pub Unchanged : (ℕ → ℕ → ℕ) → (ℕ → ℕ → ℕ) → Type 0
Unchanged t u = (i k : ℕ) → u i k ≡ t i k

-- a larger mask costs no more
abbrev pub Antitone : (ℕ → ℕ) → Type 0
Antitone price = (mask more : ℕ) → ((q : ℕ) → has mask q ≡ true → has more q ≡ true) → price more ≤ price mask

-- what is in one of two masks is in both together
has_joined : (a b q : ℕ) → has b q ≡ true → has (join a b) q ≡ true
has_joined a b q h = let e = has_join a b q in grind (arith, nat_tests)

module _ (price : ℕ → ℕ → ℕ → ℕ) (t : ℕ → ℕ → ℕ) (n rows : ℕ) where
  -- where each entry costs at most K, the cost is at most K for each entry
  pub table_bound : (K : ℕ) → ((p r : ℕ) → p < n → r < rows → 0 < t p r → price p r (t p r) ≤ K) → table_cost price t n rows ≤ K * entries t n rows
  table_bound K h = sum2_bound _ _ n rows K (λ p lp r lr. let b = h p r lp lr in grind (arith, nat_tests))

  module _ (u : ℕ → ℕ → ℕ) where
    -- an entry that leaves takes its price with it
    pub table_emptied : (p r : ℕ) → p < n → r < rows → 0 < t p r → Emptied t u p r → table_cost price u n rows + price p r (t p r) ≤ table_cost price t n rows
    table_emptied p r lp lr pos is = sum2_falls _ _ n rows p r (price p r (t p r)) lp lr (λ i li k lk. let e = is i k in grind (arith, nat_tests))

    -- an entry that joins adds at most its price
    pub table_joined : (p r mask : ℕ) → p < n → r < rows → Antitone (price p r) → Joined t u p r mask → table_cost price u n rows ≤ table_cost price t n rows + price p r mask
    table_joined p r mask lp lr anti is =
        let a = anti mask (join (t p r) mask) (has_joined (t p r) mask) in
        sum2_rises _ _ n rows p r (price p r mask) lp lr (λ i li k lk. let e = is i k in grind (arith, nat_tests))

    -- a table that stays costs the same
    pub table_unchanged : Unchanged t u → table_cost price u n rows ≤ table_cost price t n rows
    table_unchanged is = sum2_mono _ _ n rows (λ i li k lk. let e = is i k in grind (arith, nat_tests))

  -- another price that is the same for the entries there are
  pub table_repriced : (other : ℕ → ℕ → ℕ → ℕ) → ((i k : ℕ) → 0 < t i k → other i k (t i k) ≡ price i k (t i k)) → table_cost other t n rows ≤ table_cost price t n rows
  table_repriced other same = sum2_mono _ _ n rows (λ i li k lk. let b = same i k in grind (arith, nat_tests))
