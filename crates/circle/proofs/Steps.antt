-- The arithmetic of steps round the circle: going on by steps and counting the steps between two servers undo each other.
-- All of it is linear arithmetic, with one case for each time that n is passed.
use Rattle.std.proofs.Common.{◌≡◌, ℕ, ◌+◌, ◌-◌, ◌<◌, ◌≤◌, arith}
use Rattle.std.proofs.lemmas.Bool.Decides.{nat_tests}
use Rattle.circle.specs.Circle.{after, dist, reach}

-- going on from a server leads to a server
pub after_below : (n p d : ℕ) → p < n → d ≤ n → after n p d < n
after_below n p d lp ld = grind (arith, nat_tests)

-- no step leads nowhere
pub after_none : (n p : ℕ) → p < n → after n p 0 ≡ p
after_none n p lp = grind (arith, nat_tests)

-- n steps lead back
pub after_round : (n p : ℕ) → p < n → after n p n ≡ p
after_round n p lp = grind (arith, nat_tests)

-- steps add up, within one round
pub after_after : (n p d e : ℕ) → p < n → d + e ≤ n → after n (after n p d) e ≡ after n p (d + e)
after_after n p d e lp l = grind (arith, nat_tests)

-- another server is less than a round away
pub dist_below : (n a b : ℕ) → a < n → b < n → dist n a b < n
dist_below n a b la lb = grind (arith, nat_tests)

-- a server is no step away from itself
pub dist_self : (n a : ℕ) → dist n a a ≡ 0
dist_self n a = grind (arith, nat_tests)

-- another server is at least one step away
pub dist_pos : (n a b : ℕ) → a < n → b < n → (a ≡ b → ⊥) → 0 < dist n a b
dist_pos n a b la lb ne = grind (arith, nat_tests)

-- the steps from a to b lead from a to b
pub after_dist : (n a b : ℕ) → a < n → b < n → after n a (dist n a b) ≡ b
after_dist n a b la lb = grind (arith, nat_tests)

-- after d steps one is d steps away, within one round
pub dist_after : (n a d : ℕ) → a < n → d < n → dist n a (after n a d) ≡ d
dist_after n a d la ld = grind (arith, nat_tests)

-- no server on the way from a to b lies farther than b
pub dist_rest : (n a b d : ℕ) → a < n → b < n → d ≤ dist n a b → dist n (after n a d) b ≡ dist n a b - d
dist_rest n a b d la lb l = grind (arith, nat_tests)

-- something comes after at least one step
pub reach_pos : (n a b : ℕ) → a < n → b < n → 0 < reach n a b
reach_pos n a b la lb = grind (arith, nat_tests)

-- everything comes within one round
pub reach_le : (n a b : ℕ) → a < n → b < n → reach n a b ≤ n
reach_le n a b la lb = grind (arith, nat_tests)

-- after so many steps b is reached
pub after_reach : (n a b : ℕ) → a < n → b < n → after n a (reach n a b) ≡ b
after_reach n a b la lb = grind (arith, nat_tests)

-- the server d steps on is reached after d steps
pub reach_after : (n a d : ℕ) → a < n → 0 < d → d ≤ n → reach n a (after n a d) ≡ d
reach_after n a d la ld l = grind (arith, nat_tests)

-- of another server, the steps until it comes are its distance
pub reach_dist : (n a b : ℕ) → (a ≡ b → ⊥) → reach n a b ≡ dist n a b
reach_dist n a b ne = grind (arith, nat_tests)
