-- The circle's definitions, as chains over a range of steps or of servers give them.
use Rattle.std.proofs.Common.{◌≡◌, ℕ, zero, suc, ◌+◌, ◌-◌, Bool, true, false, Option, Some, None, not, ◌||◌, eqb, map, sym, refl, ap, ◌∙◌, ⊎_elim, add-one}
use Rattle.std.specs.List.{find, list_all, range_with_len}
use Rattle.std.specs.Option.{option_map, unwrap_or}
use Rattle.std.proofs.lemmas.Bool.{cases_Bool}
use Rattle.counting.proofs.Ranges.{all_of_range}
use Rattle.servers.specs.Sets.{has}
use Rattle.circle.specs.Circle.{after, dist, first_unnoticed, next, stands_in, covers}

-- the search from d steps on finds the first server that is not noticed
first_found : (n : ℕ) (noticed : ℕ → Bool) (p d k : ℕ) → unwrap_or (find (λ q. not (noticed q)) (map (after n p) (range_with_len d k))) p ≡ first_unnoticed n noticed p d k
unfolding first_unnoticed
first_found n noticed p d zero = refl
first_found n noticed p d (suc k) =
    let later = first_found n noticed p (d + 1) k in
    ⊎_elim (λ (e : noticed (after n p d) ≡ true). rw (e, sym (add-one d)) later) (λ (e : noticed (after n p d) ≡ false). rw e refl) (cases_Bool (noticed (after n p d)))

-- and the next is looked for from one step on
pub next_is_found : (n : ℕ) (noticed : ℕ → Bool) (p : ℕ) (found : Option ℕ) → option_map (λ q. q) found ≡ find (λ q. not (noticed q)) (map (after n p) (range_with_len 1 (n - 1)))
    → unwrap_or found p ≡ next n noticed p
unfolding next
next_is_found n noticed p None e = ap (λ o. unwrap_or o p) e ∙ first_found n noticed p 1 (n - 1)
next_is_found n noticed p (Some q) e = ap (λ o. unwrap_or o p) e ∙ first_found n noticed p 1 (n - 1)

-- a stand-in has noticed all up to itself
pub stands_in_is_all : (n : ℕ) (noticed : ℕ → Bool) (s o : ℕ) → list_all (λ d. noticed (after n o d)) (range_with_len 0 (dist n o s)) ≡ stands_in n noticed s o
unfolding stands_in
stands_in_is_all n noticed s o = all_of_range (λ d. noticed (after n o d)) (dist n o s)

-- a mask covers for all servers
pub covers_is_all : (n : ℕ) (noticed : ℕ → Bool) (s m : ℕ) → list_all (λ q. noticed q || (eqb q s || has m q)) (range_with_len 0 n) ≡ covers n noticed s m
unfolding covers
covers_is_all n noticed s m = all_of_range (λ q. noticed q || (eqb q s || has m q)) n
