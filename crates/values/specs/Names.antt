-- The bytes of a mark that fits have no fault and read as it. The name stands behind two bytes and is six long, so it is what is taken there.
use Rattle.std.specs.Prelude.{◌≡◌, ℕ, ◌+◌, ◌*◌, ◌/◌, ◌%◌, ◌^◌, ◌<◌, true, false, ◌&&◌, List, ◌++◌, length, drop, None, nat_lt, slice_index}
use Rattle.std.proofs.Common.{ap, ◌∙◌, arith}
use Rattle.std.proofs.lemmas.List.{at_drop_more, length-append, take_at}
use Rattle.std.proofs.lemmas.Bool.{and_parts, eqb-true, le-ltb, ltb-true}
use Rattle.values.specs.Kinds.{all_allowed, allowed, name_part, value_fault}
use Rattle.values.specs.Marks.{mark_bytes, mark_fits, mark_value}
use Rattle.values.specs.declared.kind.Kind.TheVariants.{Mark as MarkKind}
use Rattle.values.specs.declared.mark.Mark.{Mark}

-- The test of all the bytes from one on is the test of that one and of those behind it.
pub all_allowed_more : (xs : List ℕ) (i : ℕ) → i < length xs → all_allowed (drop i xs) ≡ (allowed (slice_index xs i) && all_allowed (drop (i + 1) xs))
unfolding all_allowed
all_allowed_more xs i h = at_drop_more all_allowed xs i 0 h

-- What a mark that fits is made of.
record Fitting (v : Mark) : Type 0 where
  pub small : v.trace < 2 ^ 16
  pub six : length v.name ≡ 6
  pub named : all_allowed v.name ≡ true

-- A mark that passes the test is made so.
fitting : (v : Mark) → mark_fits v ≡ true → Fitting v
fitting v h =
    let p = and_parts _ _ h in
    let q = and_parts _ _ p.1 in
    record { small = ltb-true _ _ p.0; six = eqb-true _ _ q.0; named = q.1 }

-- The name of a mark stands where it is looked for.
name_stands : (v : Mark) (rest : List ℕ) → Fitting v → name_part (mark_bytes v ++ rest) ≡ v.name
name_stands v rest f = take_at v.name rest 6 f.six

-- Nothing is wrong with the bytes of a mark that fits.
pub mark_is_faultless : (v : Mark) (rest : List ℕ) → mark_fits v ≡ true → value_fault MarkKind (mark_bytes v ++ rest) ≡ None
mark_is_faultless v rest h =
    let f = fitting v h in
    let long : nat_lt (length (mark_bytes v ++ rest)) 8 ≡ false = le-ltb _ _ (omega (arith, length-append v.name rest, f.six)) in
    let fine : all_allowed (name_part (mark_bytes v ++ rest)) ≡ true = ap all_allowed (name_stands v rest f) ∙ f.named in
    simp (long, fine)

-- They read as the mark.
pub mark_reads_back : (v : Mark) (rest : List ℕ) → mark_fits v ≡ true → mark_value (mark_bytes v ++ rest) ≡ v
mark_reads_back v rest h =
    let f = fitting v h in
    let number : v.trace % 256 + v.trace / 256 % 256 * 256 ≡ v.trace = omega (arith, f.small) in
    let e = name_stands v rest f in
    simp (number, e)
