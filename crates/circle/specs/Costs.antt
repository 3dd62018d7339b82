-- What an entry on its way round the circle still costs. Its home is where it ends, the standing server that is stand-in for its origin.
use Rattle.std.specs.Prelude.{ℕ, suc, ◌+◌, ◌-◌, ◌*◌, Bool, cond, not, ◌||◌, ◌==◌, nat_lt}
use Rattle.servers.specs.Sets.{has}
use Rattle.circle.specs.Circle.{after, reach}
use Rattle.counting.specs.Below.{all, sum2, count}

-- how many of n servers stand
abbrev pub standing_count : ℕ → (ℕ → Bool) → ℕ
standing_count n standing = count standing n

-- how many servers stand strictly between home and z, going forward from home; all others where z is home
unfoldable pub gap : ℕ → (ℕ → Bool) → ℕ → ℕ → ℕ
gap n standing home z = count (λ j. standing (after n home (suc j))) (reach n home z - 1)

-- each of them is in the mask
unfoldable pub passed : ℕ → (ℕ → Bool) → ℕ → ℕ → ℕ → Bool
passed n standing home z mask = all (λ j. not (standing (after n home (suc j))) || has mask (after n home (suc j))) (reach n home z - 1)

-- two for each standing server that is still to come, and a whole round more unless the mask has all that were passed
abbrev pub way_home : ℕ → (ℕ → Bool) → ℕ → ℕ → ℕ → ℕ
way_home n standing home z mask = 2 * (standing_count n standing - 1 - gap n standing home z) + cond (passed n standing home z mask) 0 (2 * standing_count n standing)

-- an entry on the wire to z
abbrev pub on_wire : ℕ → (ℕ → Bool) → ℕ → ℕ → ℕ → ℕ
on_wire n standing home z mask = way_home n standing home z mask + 1

-- an entry to forward at y
abbrev pub to_forward : ℕ → (ℕ → Bool) → ℕ → ℕ → ℕ → ℕ
to_forward n standing home y mask = cond (y == home) (2 * standing_count n standing) (way_home n standing home y mask)

-- what a pre-write costs in addition: the round of its write
abbrev pub write_lap : ℕ → (ℕ → Bool) → ℕ
write_lap n standing = 2 * standing_count n standing - 1

-- a queued write
abbrev pub queued_cost : ℕ → (ℕ → Bool) → ℕ
queued_cost n standing = 4 * standing_count n standing - 1

-- what a table of masks costs, at a price for each server, row and mask; an empty mask costs nothing
abbrev pub table_cost : (ℕ → ℕ → ℕ → ℕ) → (ℕ → ℕ → ℕ) → ℕ → ℕ → ℕ
table_cost price t n rows = sum2 (λ p r. cond (nat_lt 0 (t p r)) (price p r (t p r)) 0) n rows

-- how many masks of a table are not empty
abbrev pub entries : (ℕ → ℕ → ℕ) → ℕ → ℕ → ℕ
entries t n rows = sum2 (λ p r. cond (nat_lt 0 (t p r)) 1 0) n rows

-- what everything under way costs: the messages waiting by server, row and phase, the pre-writes and writes to forward, and q queued writes; home r is the home of row r
abbrev pub load : ℕ → ℕ → (ℕ → Bool) → (ℕ → ℕ) → (ℕ → ℕ → ℕ → ℕ) → (ℕ → ℕ → ℕ) → (ℕ → ℕ → ℕ) → ℕ → ℕ
load n rows standing home waiting prewrites writes q =
    table_cost (λ p r mask. on_wire n standing (home r) p mask + write_lap n standing) (λ p r. waiting p r 1) n rows
    + table_cost (λ p r mask. on_wire n standing (home r) p mask) (λ p r. waiting p r 2) n rows
    + table_cost (λ p r mask. to_forward n standing (home r) p mask + write_lap n standing) prewrites n rows
    + table_cost (λ p r mask. to_forward n standing (home r) p mask) writes n rows
    + queued_cost n standing * q

-- how many entries are under way
abbrev pub under_way : ℕ → ℕ → (ℕ → ℕ → ℕ → ℕ) → (ℕ → ℕ → ℕ) → (ℕ → ℕ → ℕ) → ℕ
under_way n rows waiting prewrites writes = entries (λ p r. waiting p r 1) n rows + entries (λ p r. waiting p r 2) n rows + entries prewrites n rows + entries writes n rows
