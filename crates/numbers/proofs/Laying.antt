-- Parts laid one behind another are their bytes together laid once, and an assignment lays one byte: by induction over the buffer.
use Rattle.std.proofs.Common.{◌≡◌, ℕ, zero, suc, ◌+◌, List, [], ◌∷◌, ◌++◌, length, set, refl, ap, ◌∙◌, suc-add, zero-add}
use Rattle.numbers.specs.Laying.{lay, lay_at}

-- An assignment lays one byte.
pub set_lays_one : (k b : ℕ) (out : List ℕ) → set out k b ≡ lay_at k (b ∷ []) out
unfolding lay lay_at
set_lays_one zero b [] = refl
set_lays_one zero b (o ∷ os) = refl
set_lays_one (suc k) b [] = refl
set_lays_one (suc k) b (o ∷ os) = ap (λ (xs : List ℕ). o ∷ xs) (set_lays_one k b os)

-- One part behind another at the front of a buffer.
lay_behind_front : (bs cs out : List ℕ) → lay_at (length bs) cs (lay bs out) ≡ lay (bs ++ cs) out
unfolding lay lay_at
lay_behind_front [] cs out = refl
lay_behind_front (b ∷ bs) cs [] = refl
lay_behind_front (b ∷ bs) cs (o ∷ os) = ap (λ (xs : List ℕ). b ∷ xs) (lay_behind_front bs cs os)

-- One part behind another is both together.
pub lay_behind : (k : ℕ) (bs cs out : List ℕ) → lay_at (k + length bs) cs (lay_at k bs out) ≡ lay_at k (bs ++ cs) out
unfolding lay_at
lay_behind zero bs cs out = ap (λ n. lay_at n cs (lay bs out)) (zero-add (length bs)) ∙ lay_behind_front bs cs out
lay_behind (suc k) bs cs [] = ap (λ n. lay_at n cs []) (suc-add k (length bs))
lay_behind (suc k) bs cs (o ∷ os) =
    ap (λ n. lay_at n cs (o ∷ lay_at k bs os)) (suc-add k (length bs)) ∙ ap (λ (xs : List ℕ). o ∷ xs) (lay_behind k bs cs os)

-- Two assignments in a row lay two bytes.
pub set_lays_two : (k a b : ℕ) (out : List ℕ) → set (set out k a) (k + 1) b ≡ lay_at k (a ∷ b ∷ []) out
set_lays_two k a b out =
    set_lays_one (k + 1) b (set out k a)
    ∙ (ap (λ (xs : List ℕ). lay_at (k + 1) (b ∷ []) xs) (set_lays_one k a out) ∙ lay_behind k (a ∷ []) (b ∷ []) out)

-- Three assignments in a row lay three bytes.
pub set_lays_three : (k a b c : ℕ) (out : List ℕ) → set (set (set out k a) (k + 1) b) (k + 2) c ≡ lay_at k (a ∷ b ∷ c ∷ []) out
set_lays_three k a b c out =
    set_lays_one (k + 2) c (set (set out k a) (k + 1) b)
    ∙ (ap (λ (xs : List ℕ). lay_at (k + 2) (c ∷ []) xs) (set_lays_two k a b out) ∙ lay_behind k (a ∷ b ∷ []) (c ∷ []) out)
