-- What holds of an array that is filled by calling a function at each place in turn: where each call gives what holds there and leaves the function as it was, it holds at every place.
-- One call after the other, from place i on.
use Rattle.std.proofs.Common.{◌≡◌, ℕ, zero, suc, ◌+◌, ◌<◌, ◌≤◌, List, get_or, sym, subst, ⊎_elim, arith}
use Rattle.std.proofs.lemmas.Bool.{cases_lt}
use Rattle.std.specs.Array.{IsFromFnResultFrom}
use Rattle.std.specs.Fn.{Called}
use denote.Param.Members.{Mut}

module _ {F B : Type 0} (g : Mut F (ℕ × Unit {0}) B) (f : F) (P : ℕ → B → Type 0) (top : ℕ) (gives : (i : ℕ) (y : B) (q : F) → i < top → Called g f (i, tt) y q → (q ≡ f) × P i y) where
  pub all_are_filled : (ys : List B) (i n : ℕ) (p : F) → p ≡ f → i + n ≤ top → IsFromFnResultFrom g p ys i n → (k : ℕ) (d : B) → i ≤ k → k < i + n → P k (get_or ys k d)
  all_are_filled ys i zero p e room each k d low high = absurd (omega arith)
  all_are_filled ys i (suc n) p e room (q, y, at, called, rest) k d low high =
      let call = gives i y q (omega arith) (subst (λ p. Called g p (i, tt) y q) e called) in
      ⊎_elim
      (λ (h : i < k). all_are_filled ys (i + 1) n q call.0 (omega arith) rest k d (omega arith) (omega arith))
      (λ (h : k ≤ i). let z : i ≡ k = omega arith in subst (λ j. P j (get_or ys j d)) z (subst (P i) (sym (at.1 d)) call.1))
      (cases_lt i k)
