-- Parts written one behind another are laid as one: a byte, a copied slice, and what lies behind what was laid before.
use Rattle.std.proofs.Common.{◌≡◌, ℕ, zero, suc, ◌+◌, ◌≤◌, List, [], ◌∷◌, ◌++◌, length, drop, set, refl, ap, ◌∙◌, arith}
use borrow.Rule.Slice.PartMut.{put_mid}
use Rattle.numbers.specs.Laying.{lay, lay_at}
use Rattle.numbers.proofs.Laying.{lay_behind, set_lays_one}

-- Laying nothing leaves all.
pub nothing_laid : (k : ℕ) (out : List ℕ) → lay_at k [] out ≡ out
unfolding lay lay_at
nothing_laid zero out = refl
nothing_laid (suc k) [] = refl
nothing_laid (suc k) (o ∷ os) = ap (λ (xs : List ℕ). o ∷ xs) (nothing_laid k os)

-- Copying bytes to the front of a buffer lays them there.
front_copy_lays : (bs out : List ℕ) → length bs ≤ length out → bs ++ drop (length bs) out ≡ lay bs out
unfolding lay
front_copy_lays [] out h = refl
front_copy_lays (b ∷ bs) [] h = absurd (omega arith)
front_copy_lays (b ∷ bs) (o ∷ os) h = ap (λ (xs : List ℕ). b ∷ xs) (front_copy_lays bs os (omega arith))

-- Copying bytes into a part of a buffer lays them there.
pub a_copy_lays : (k : ℕ) (bs out : List ℕ) → k + length bs ≤ length out → put_mid k (length bs) out bs ≡ lay_at k bs out
unfolding lay_at
a_copy_lays zero bs out h = front_copy_lays bs out (omega arith)
a_copy_lays (suc k) bs [] h = absurd (omega arith)
a_copy_lays (suc k) bs (o ∷ os) h = ap (λ (xs : List ℕ). o ∷ xs) (a_copy_lays k bs os (omega arith))

-- What is laid behind an assigned first byte is laid with it.
pub laid_behind_a_byte : (b : ℕ) (bs out : List ℕ) → lay_at 1 bs (set out 0 b) ≡ lay_at 0 (b ∷ bs) out
laid_behind_a_byte b bs out = ap (λ (xs : List ℕ). lay_at 1 bs xs) (set_lays_one 0 b out) ∙ lay_behind 0 (b ∷ []) bs out

-- What is laid behind other bytes is laid with them.
pub laid_behind : (k behind : ℕ) (bs cs out after last : List ℕ)
    → after ≡ lay_at k bs out → behind ≡ k + length bs → last ≡ lay_at behind cs after → last ≡ lay_at k (bs ++ cs) out
laid_behind k behind bs cs out after last e b l =
    l ∙ (ap (λ n. lay_at n cs after) b ∙ (ap (λ (xs : List ℕ). lay_at (k + length bs) cs xs) e ∙ lay_behind k bs cs out))

-- A byte, and what is laid behind it part by part, are laid as one.
pub laid_in_turn : (b second_at value_at : ℕ) (first second value out after_first after_second last : List ℕ)
    → after_first ≡ lay_at 1 first (set out 0 b) → second_at ≡ 1 + length first
    → after_second ≡ lay_at second_at second after_first → value_at ≡ second_at + length second
    → last ≡ lay_at value_at value after_second
    → last ≡ lay_at 0 (b ∷ (first ++ (second ++ value))) out
laid_in_turn b second_at value_at first second value out after_first after_second last e₁ p₁ e₂ p₂ e₃ =
    laid_behind 1 second_at first (second ++ value) (set out 0 b) after_first last e₁ p₁
    (laid_behind second_at value_at second value after_first after_second last e₂ p₂ e₃)
    ∙ laid_behind_a_byte b (first ++ (second ++ value)) out
