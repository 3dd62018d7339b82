-- A mask is a set of servers: p is in it where its bit p is set.
use Rattle.std.specs.Prelude.{ℕ, ◌/◌, ◌%◌, ◌^◌, Bool, cond, ◌==◌, bit_or, nat_lt}

-- p is in the set
unfoldable pub has : ℕ → ℕ → Bool
has m p = m / 2 ^ p % 2 == 1

-- both sets together
unfoldable pub join : ℕ → ℕ → ℕ
join a b = bit_or a b

-- the set of p alone
unfoldable pub one : ℕ → ℕ
one p = 2 ^ p

-- the set of p alone if p is a server, 0 to 7, else the empty set
abbrev pub alone : ℕ → ℕ
alone p = cond (nat_lt p 8) (one p) 0
