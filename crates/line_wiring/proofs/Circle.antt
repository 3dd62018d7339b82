-- A circular buffer is a queue: its first place is at the head, and a place written behind the last one stands last.
-- The head goes round the buffer with the induction on the number of places.
use Rattle.std.proofs.Common.{◌≡◌, ℕ, zero, suc, ◌+◌, ◌%◌, ◌<◌, ◌≢◌, List, [], ◌∷◌, ◌++◌, length, get_or, set, refl, ap, ◌∙◌, arith}
use Rattle.std.proofs.lemmas.List.{get_or-set_same, get_or-set_other}
use Rattle.masks.specs.Listed.{no_place}
use Rattle.messages.specs.declared.Place.{Place}
use Rattle.line_wiring.specs.Queued.{from}

pub a_queue_has_its_length : (places : List Place) (head n : ℕ) → length (from places head n) ≡ n
a_queue_has_its_length places head zero = refl
a_queue_has_its_length places head (suc n) = omega (arith, a_queue_has_its_length places ((head + 1) % 512) n)

pub the_last_stands_behind : (places : List Place) (place : Place) (head n at : ℕ) → length places ≡ 512 → head < 512 → n < 512 → at ≡ (head + n) % 512
    → from (set places at place) head (suc n) ≡ from places head n ++ place ∷ []
the_last_stands_behind places place head zero at long inside room e =
    let here : at ≡ head = omega arith in
    let same = get_or-set_same places head place no_place (omega arith) in
    ap (λ x. x ∷ []) (ap (λ k. get_or (set places k place) head no_place) here ∙ same)
the_last_stands_behind places place head (suc n) at long inside room e =
    let other : head ≢ at = omega arith in
    let first = get_or-set_other places at head place no_place other in
    let rest = the_last_stands_behind places place ((head + 1) % 512) n at long (omega arith) (omega arith) (omega arith) in
    ap (λ x. x ∷ from (set places at place) ((head + 1) % 512) (suc n)) first ∙ ap (λ (xs : List Place). get_or places head no_place ∷ xs) rest
