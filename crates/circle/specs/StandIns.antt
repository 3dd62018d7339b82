-- Stand-ins, where only servers that have crashed are noticed.
use Rattle.std.specs.Prelude.{◌≡◌, ℕ, ◌<◌, Bool, true, false}
use Rattle.circle.specs.Circle.{stands_in}

-- a standing server has noticed only servers that do not stand
abbrev pub Honest : (ℕ → Bool) → (ℕ → ℕ → Bool) → Type 0
Honest standing noticed = (p q : ℕ) → standing p ≡ true → noticed p q ≡ true → standing q ≡ false

-- on a circle of n servers at most one standing server is stand-in for server o
abbrev pub OneStandIn : ℕ → (ℕ → Bool) → (ℕ → ℕ → Bool) → ℕ → Type 0
OneStandIn n standing noticed o = (s t : ℕ) → s < n → t < n → standing s ≡ true → standing t ≡ true → stands_in n (noticed s) s o ≡ true → stands_in n (noticed t) t o ≡ true → s ≡ t

-- so it is on every circle where noticing is honest
abbrev pub AtMostOneStandIn : Type 0
AtMostOneStandIn = (n : ℕ) (standing : ℕ → Bool) (noticed : ℕ → ℕ → Bool) (o : ℕ) → o < n → Honest standing noticed → OneStandIn n standing noticed o
