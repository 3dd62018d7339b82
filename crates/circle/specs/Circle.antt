-- Servers on a circle: they are 0 to n - 1, and after n - 1 comes 0.
use Rattle.std.specs.Prelude.{ℕ, zero, suc, ◌+◌, ◌-◌, Bool, cond, not, ◌||◌, ◌==◌, nat_le, nat_lt}
use Rattle.counting.specs.Below.{all}
use Rattle.servers.specs.Sets.{has}

-- the server d steps after p
abbrev pub after : ℕ → ℕ → ℕ → ℕ
after n p d = cond (nat_lt (p + d) n) (p + d) (p + d - n)

-- the steps forward from a to b
abbrev pub dist : ℕ → ℕ → ℕ → ℕ
dist n a b = cond (nat_le a b) (b - a) (b + n - a)

-- the steps forward from a until b comes, once round if b is a
abbrev pub reach : ℕ → ℕ → ℕ → ℕ
reach n a b = cond (a == b) n (dist n a b)

-- the first of the servers d, d + 1, .., d + k - 1 steps after p that is not noticed, or p if there is none
unfoldable pub first_unnoticed : ℕ → (ℕ → Bool) → ℕ → ℕ → ℕ → ℕ
first_unnoticed n noticed p d zero = p
first_unnoticed n noticed p d (suc k) = cond (noticed (after n p d)) (first_unnoticed n noticed p (suc d) k) (after n p d)

-- the first server after p that is not noticed, or p itself if there is none
unfoldable pub next : ℕ → (ℕ → Bool) → ℕ → ℕ
next n noticed p = first_unnoticed n noticed p 1 (n - 1)

-- s is o, or o and every server between o and s, going forward from o, is noticed
unfoldable pub stands_in : ℕ → (ℕ → Bool) → ℕ → ℕ → Bool
stands_in n noticed s o = all (λ d. noticed (after n o d)) (dist n o s)

-- every server that is not noticed is s or in the mask
unfoldable pub covers : ℕ → (ℕ → Bool) → ℕ → ℕ → Bool
covers n noticed s mask = all (λ q. noticed q || (q == s || has mask q)) n

-- the first standing server after p, or p
abbrev pub next_standing : ℕ → (ℕ → Bool) → ℕ → ℕ
next_standing n standing p = next n (λ q. not (standing q)) p

-- the first standing server from o on: o itself if it stands
unfoldable pub first_standing : ℕ → (ℕ → Bool) → ℕ → ℕ
first_standing n standing o = cond (standing o) o (next_standing n standing o)
