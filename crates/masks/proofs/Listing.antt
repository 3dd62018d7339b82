-- A list that names the places where messages wait: how it follows the table of masks, and that it is as long as there are messages.
-- The length is the sum over the rows of how often their places stand in the list, by induction on the list.
use Rattle.std.proofs.Common.{◌≡◌, ℕ, zero, suc, ◌+◌, ◌≤◌, true, false, cond, ◌&&◌, eqb, ltb, List, [], ◌∷◌, ◌++◌, length, sym, refl, ap, ◌∙◌, arith}
use mathlib.Core.Path.{fun_ext}
use Rattle.std.proofs.lemmas.List.{length_push}
use Rattle.std.specs.List.{sum_by}
use Rattle.std.proofs.lemmas.List.Recursion.{is_sum_by}
use Rattle.std.proofs.lemmas.Bool.{cond-true}
use Rattle.std.proofs.lemmas.Bool.Decides.{nat_tests}
use Rattle.counting.specs.Below.{sum}
use Rattle.messages.specs.declared.Message.{Message}
use Rattle.messages.specs.declared.Place.{Place}
use Rattle.messages.specs.declared.Phase.{Phase}
use Rattle.messages.specs.declared.Phase.TheVariants.{PreWrite, Write}
use Rattle.messages.specs.Phases.{phase_number}
use Rattle.messages.specs.Places.{names_a_place}
use Rattle.messages.specs.Waiting.{entry}
use Rattle.masks.specs.Table.{GoesOut, Masks, all_empty, is_new, joined_mask, masks_of}
use Rattle.masks.specs.declared.table.MaskTable.{MaskTable}
use Rattle.servers.proofs.Members.{join_pos}
use Rattle.masks.proofs.Rows.{no_place_has_a_mask}
use Rattle.masks.specs.Listed.{Names, is_named, rows_hold, times}

-- how many places of the list lie in the rows below n
abbrev pub in_rows : List Place → ℕ → ℕ
in_rows [] n = 0
in_rows (x ∷ xs) n = cond (ltb x.row.0 n) 1 0 + in_rows xs n

pub nothing_adds_up : (n : ℕ) → rows_hold all_empty n ≡ 0
unfolding sum
nothing_adds_up zero = refl
nothing_adds_up (suc n) = omega (arith, nothing_adds_up n)

a_place_has_one_phase : (f : Phase) (row n : ℕ)
    → cond (eqb row n && eqb (phase_number f) 1) 1 0 + cond (eqb row n && eqb (phase_number f) 2) 1 0 ≡ cond {A = ℕ} (eqb row n) 1 0
a_place_has_one_phase PreWrite row n = grind (arith, nat_tests)
a_place_has_one_phase Write row n = grind (arith, nat_tests)

one_row_more : (row n : ℕ) → cond {A = ℕ} (ltb row (suc n)) 1 0 ≡ cond (ltb row n) 1 0 + cond (eqb row n) 1 0
one_row_more row n = grind (arith, nat_tests)

a_place_counts_once : (x : Place) (xs : List Place) (n : ℕ)
    → sum (λ row. times (x ∷ xs) row 1 + times (x ∷ xs) row 2) n ≡ cond (ltb x.row.0 n) 1 0 + sum (λ row. times xs row 1 + times xs row 2) n
unfolding sum
a_place_counts_once x xs zero = grind (arith, nat_tests)
a_place_counts_once x xs (suc n) =
    omega (arith, a_place_counts_once x xs n, a_place_has_one_phase x.phase x.row.0 n, one_row_more x.row.0 n)

pub places_add_up : (xs : List Place) (n : ℕ) → sum (λ row. times xs row 1 + times xs row 2) n ≡ in_rows xs n
places_add_up [] n = nothing_adds_up n
places_add_up (x ∷ xs) n = omega (arith, a_place_counts_once x xs n, places_add_up xs n)

-- the messages of the rows below n are the places of the list there
pub messages_are_places : (xs : List Place) (masks : Masks) (n : ℕ) → Names xs masks → rows_hold masks n ≡ in_rows xs n
messages_are_places xs masks n names =
    ap (λ f. sum f n) (fun_ext (λ row. omega (arith, names row 1, names row 2))) ∙ places_add_up xs n

a_place_names_itself : (x : Place) → is_named x x.row.0 (phase_number x.phase) ≡ true
a_place_names_itself x = grind (arith, nat_tests)

all_lie_below : (xs : List Place) (n : ℕ) → ((row phase : ℕ) → n ≤ row → times xs row phase ≡ 0) → in_rows xs n ≡ length xs
all_lie_below [] n h = refl
all_lie_below (x ∷ xs) n h =
    let e = all_lie_below xs n (λ row phase l. omega (arith, h row phase l)) in
    let self = a_place_names_itself x in
    let here = h x.row.0 (phase_number x.phase) in
    let low : ltb x.row.0 n ≡ true = grind (arith, nat_tests) in
    grind (arith, nat_tests)

pub as_many_as_wait : (xs : List Place) (t : MaskTable) → Names xs (masks_of t) → length xs ≡ rows_hold (masks_of t) 256
as_many_as_wait xs t names =
    let past : (row phase : ℕ) → 256 ≤ row → times xs row phase ≡ 0 = λ row phase l.
    let out : names_a_place row phase ≡ false = grind (arith, nat_tests) in
    let z = no_place_has_a_mask t.rows row phase t.sized out in
    names row phase ∙ (ap entry z ∙ grind (arith, nat_tests)) in
    sym (messages_are_places xs (masks_of t) 256 names ∙ all_lie_below xs 256 past)

at_most_two_a_row : (masks : Masks) (n : ℕ) → rows_hold masks n ≤ n + n
unfolding sum
at_most_two_a_row masks zero = omega arith
at_most_two_a_row masks (suc n) = let h = at_most_two_a_row masks n in grind (arith, nat_tests)

at_most_512_wait : (xs : List Place) (t : MaskTable) → Names xs (masks_of t) → length xs ≤ 512
at_most_512_wait xs t names = omega (arith, as_many_as_wait xs t names, at_most_two_a_row (masks_of t) 256)

-- 1 where the place has these numbers
abbrev pub hit : ℕ → ℕ → Place → ℕ
hit row phase x = cond (is_named x row phase) 1 0

pub times_are_a_sum : (row phase : ℕ) (xs : List Place) → times xs row phase ≡ sum_by (hit row phase) xs
times_are_a_sum row phase = is_sum_by (λ xs. times xs row phase) (hit row phase) refl (λ x xs. refl)

pub times_append : (xs ys : List Place) (row phase : ℕ) → times (xs ++ ys) row phase ≡ times xs row phase + times ys row phase
times_append [] ys row phase = omega arith
times_append (x ∷ xs) ys row phase = omega (arith, times_append xs ys row phase)

names_carry_over : (xs : List Place) (a b : Masks) → b ≡ a → Names xs a → Names xs b
names_carry_over xs a b e names k f = names k f ∙ ap (λ (m : Masks). entry (m k f)) (sym e)

pub no_place_for_no_message : (xs : List Place) (masks : Masks) → xs ≡ [] → masks ≡ all_empty → Names xs masks
no_place_for_no_message xs masks e z row phase = ap (λ (ys : List Place). times ys row phase) e ∙ ap (λ (m : Masks). entry (m row phase)) (sym z)

-- a new message's place is named once more
a_new_place_is_named : (x : Place) (xs : List Place) (before : Masks) (t : MaskTable) (mask : ℕ) → Names xs before
    → masks_of t ≡ joined_mask before x.row.0 (phase_number x.phase) mask → is_new before x.row.0 (phase_number x.phase) mask ≡ true
    → Names (xs ++ x ∷ []) (masks_of t)
a_new_place_is_named x xs before t mask names e new = names_carry_over (xs ++ x ∷ []) _ (masks_of t) e (λ k f.
    let more = times_append xs (x ∷ []) k f in
    let n = names k f in
    let j = join_pos (before x.row.0 (phase_number x.phase)) mask in
    grind (arith, nat_tests))

-- there is room for it in a list that takes 512 places, so that it is not turned away
pub a_new_place_has_room : (x : Place) (xs ys : List Place) (before : Masks) (t : MaskTable) (mask : ℕ) → Names xs before
    → masks_of t ≡ joined_mask before x.row.0 (phase_number x.phase) mask → is_new before x.row.0 (phase_number x.phase) mask ≡ true
    → ys ≡ cond (ltb (length xs) 512) (xs ++ x ∷ []) xs → (ys ≡ xs ++ x ∷ []) × Names ys (masks_of t)
a_new_place_has_room x xs ys before t mask names e new pushed =
    let named = a_new_place_is_named x xs before t mask names e new in
    let few : ltb (length xs) 512 ≡ true = (let n = at_most_512_wait (xs ++ x ∷ []) t named in let l = length_push xs x in grind (arith, nat_tests)) in
    let is : ys ≡ xs ++ x ∷ [] = pushed ∙ cond-true _ _ _ few in
    (is, λ k f. ap (λ (zs : List Place). times zs k f) is ∙ named k f)

-- where no new message comes, the list goes on naming what waits
pub no_new_place_is_named : (xs : List Place) (before : Masks) (t : MaskTable) (row phase mask : ℕ) → Names xs before
    → masks_of t ≡ joined_mask before row phase mask → is_new before row phase mask ≡ false → Names xs (masks_of t)
no_new_place_is_named xs before t row phase mask names e old = names_carry_over xs _ (masks_of t) e (λ k f.
    let n = names k f in
    let j = join_pos (before row phase) mask in
    grind (arith, nat_tests))

-- a message goes out, and its place is named once less
pub a_place_is_named_no_more : (x : Place) (xs ys : List Place) (before after : Masks) (m : Message)
    → ((row phase : ℕ) → times ys row phase ≡ cond (is_named x row phase) 1 0 + times xs row phase)
    → Names ys before → GoesOut x before m after → Names xs after
a_place_is_named_no_more x xs ys before after m less names out = names_carry_over xs _ after out.left (λ k f.
    let t = names k f in let e = less k f in grind (arith, nat_tests))
