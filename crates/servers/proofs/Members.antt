-- Laws of masks.
use Rattle.std.proofs.Common.{◌≡◌, ℕ, zero, suc, ◌+◌, ◌/◌, ◌%◌, ◌^◌, ◌<◌, ◌≤◌, max, true, false, ◌||◌, eqb, ◌⊎◌, sym, refl, ap, ◌∙◌, inl, inr, ⊎_elim, arith, pow_pos}
use native.Mathlib.Nat.{zero-div, div-div-eq-div-mul, pow-succ'}
use lib.Bits.{bit_or, or_shr, or_step, or_add_and, and_le_l, and_le_r}
use Rattle.std.proofs.lemmas.Bool.Decides.{nat_tests}
use Rattle.std.proofs.lemmas.Bool.{cases_eq}
use Rattle.servers.specs.Sets.{has, join, one}

or_odd : (a b : ℕ) → bit_or a b % 2 ≡ max (a % 2) (b % 2)
or_odd a b = let e = or_step a b in omega arith

either : (a b x y c : ℕ) → x ≡ a % 2 → y ≡ b % 2 → c ≡ max x y → eqb c 1 ≡ (eqb x 1 || eqb y 1)
either a b x y c p q r = grind (arith, nat_tests)

pub has_or : (a b q : ℕ) → has (bit_or a b) q ≡ (has a q || has b q)
unfolding has
has_or a b q = rw or_shr (either (a / 2 ^ q) (b / 2 ^ q) _ _ _ refl refl (or_odd (a / 2 ^ q) (b / 2 ^ q)))

pub has_none : (q : ℕ) → has 0 q ≡ false
unfolding has
has_none q = rw zero-div

pub has_zeroth : (m : ℕ) → has m 0 ≡ eqb (m % 2) 1
unfolding has
has_zeroth m = let e : m / 1 ≡ m = omega arith in rw e

pub has_next : (m q : ℕ) → has m (suc q) ≡ has (m / 2) q
unfolding has
has_next m q = let e : m / 2 / 2 ^ q ≡ m / 2 ^ suc q = div-div-eq-div-mul m 2 (2 ^ q) ∙ ap (λ k. m / k) (sym (pow-succ' 2 q)) in rw e

-- the mask of one server
pub has_one : (p q : ℕ) → has (2 ^ p) q ≡ eqb q p
has_one zero zero = rw has_zeroth
has_one zero (suc q) = has_next 1 q ∙ has_none q ∙ grind (arith, nat_tests)
has_one (suc p) zero = has_zeroth (2 ^ suc p) ∙ (let e = pow-succ' 2 p in grind (arith, nat_tests))
has_one (suc p) (suc q) = has_next (2 ^ suc p) q ∙ (let e : 2 ^ suc p / 2 ≡ 2 ^ p = (let f = pow-succ' 2 p in omega arith) in rw e (has_one p q ∙ grind (arith, nat_tests)))

-- two masks with the same servers are one
pub same : (k a b : ℕ) → a < 2 ^ k → b < 2 ^ k → ((q : ℕ) → q < k → has a q ≡ has b q) → a ≡ b
same zero a b la lb h = omega arith
same (suc k) a b la lb h =
    let e = pow-succ' 2 k in
    let low = sym (has_zeroth a) ∙ h 0 (omega arith) ∙ has_zeroth b in
    let high : a / 2 ≡ b / 2 = same k (a / 2) (b / 2) (omega arith) (omega arith) (λ q l. sym (has_next a q) ∙ h (suc q) (omega arith) ∙ has_next b q) in
    let low2 : a % 2 ≡ b % 2 = grind (arith, nat_tests) in
    omega arith

-- a mask is empty where no server is in it
pub some : (k a : ℕ) → a < 2 ^ k → 0 < a → (q : ℕ) × (q < k) × (has a q ≡ true)
some zero a la l = absurd (omega arith)
some (suc k) a la l = ⊎_elim
    (λ odd. (0, omega arith, has_zeroth a ∙ grind (arith, nat_tests)))
    (λ even. let e = pow-succ' 2 k in let r = some k (a / 2) (omega arith) (omega arith) in (suc r.0, omega (arith, r.1), has_next a r.0 ∙ r.2))
    (cases_eq (a % 2) 1)

pub has_join : (a b q : ℕ) → has (join a b) q ≡ (has a q || has b q)
unfolding join
has_join a b q = has_or a b q

pub has_only : (p q : ℕ) → has (one p) q ≡ eqb q p
unfolding one
has_only p q = has_one p q

pub one_pos : (p : ℕ) → 0 < one p
unfolding one
one_pos p = pow_pos p

pub join_pos : (a b : ℕ) → (join a b ≡ 0 → a + b ≡ 0) × (a + b ≡ 0 → join a b ≡ 0)
unfolding join
join_pos a b = let e = or_add_and a b in let f = and_le_l a b in let g = and_le_r a b in ((λ z. omega arith), (λ z. omega arith))

-- a set with a member is not empty
pub has_pos : (m q : ℕ) → (has m q ≡ false) ⊎ (0 < m)
has_pos zero q = inl (has_none q)
has_pos (suc m) q = inr (omega arith)

pub ruleset sets = (has_pos, has_join, has_only, has_none, one_pos, join_pos)

-- a set of the servers below k has none from k on
pub has_high : (k m q : ℕ) → m < 2 ^ k → k ≤ q → has m q ≡ false
has_high zero m q l h = let z : m ≡ 0 = omega arith in ap (λ m. has m q) z ∙ has_none q
has_high (suc k) m zero l h = absurd (omega arith)
has_high (suc k) m (suc q) l h = let e = pow-succ' 2 k in has_next m q ∙ has_high k (m / 2) q (omega arith) (omega arith)
