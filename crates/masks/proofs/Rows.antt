-- Laws of a table's rows: rows of empty masks have none, and there is no mask where there is no place.
use Rattle.std.proofs.Common.{◌≡◌, ℕ, ◌<◌, ◌≤◌, false, List, length, get_or, replicate, ap, ◌∙◌, ⊎_elim, arith}
use mathlib.Core.Path.{fun_ext}
use Rattle.std.proofs.lemmas.List.{get_or-replicate, get_or_past, length-replicate}
use Rattle.std.proofs.lemmas.Bool.{cases_lt}
use Rattle.std.proofs.lemmas.Bool.Decides.{nat_tests}
use Rattle.messages.specs.Places.{names_a_place}
use Rattle.servers.specs.declared.ServerSet.{ServerSet}
use Rattle.masks.specs.declared.table.RowMasks.{RowMasks}
use Rattle.masks.specs.Table.{all_empty, masks_in, no_masks, of_phase}

pub empty_rows_have_no_mask : (n : ℕ) (a b : ServerSet) → a.bits ≡ 0 → b.bits ≡ 0
    → masks_in (replicate n (record { pre_write = a; write = b })) ≡ all_empty
empty_rows_have_no_mask n a b x y =
    let r : RowMasks = record { pre_write = a; write = b } in
    let none : (phase : ℕ) → of_phase r phase ≡ 0 = λ phase. grind (arith, nat_tests) in
    let past : (phase : ℕ) → of_phase no_masks phase ≡ 0 = λ phase. grind (arith, nat_tests) in
    fun_ext (λ row. fun_ext (λ phase. ⊎_elim
    (λ l. ap (λ z. of_phase z phase) (get_or-replicate n row r no_masks l) ∙ none phase)
    (λ (l : n ≤ row). ap (λ z. of_phase z phase) (get_or_past (replicate n r) row no_masks (omega (arith, length-replicate n r))) ∙ past phase)
    (cases_lt row n)))

pub no_place_has_a_mask : (rows : List RowMasks) (row phase : ℕ) → length rows ≡ 256 → names_a_place row phase ≡ false → masks_in rows row phase ≡ 0
no_place_has_a_mask rows row phase h e =
    let past : 256 ≤ row → masks_in rows row phase ≡ 0 = λ l.
    let g : get_or rows row no_masks ≡ no_masks = get_or_past rows row no_masks (omega arith) in ap (λ z. of_phase z phase) g ∙ grind (arith, nat_tests) in
    ⊎_elim (λ (l : row < 256). grind (arith, nat_tests)) past (cases_lt row 256)
