-- The bytes of a number read as it, and no other bytes do: by cases on how many groups there are, with the arithmetic of each.
use Rattle.std.proofs.Common.{◌≡◌, ℕ, suc, ◌+◌, ◌-◌, ◌*◌, ◌/◌, ◌%◌, ◌<◌, ◌≤◌, true, false, eqb, ltb, List, [], ◌∷◌, ◌++◌, Ok, Result, sym, ap, ◌∙◌, arith}
use Rattle.std.proofs.lemmas.Bool.{eqb-false, ltb-true, ltb-false, lt-ltb, le-ltb, ne_eqb}
use Rattle.numbers.specs.declared.faults.NumberFault.{NumberFault}
use Rattle.numbers.specs.Numbers.{number_at, number_bytes, number_limit, second_byte, third_byte}
use Rattle.numbers.specs.Bytes.{AllBytes}
use Rattle.numbers.proofs.Tests.{by_test}

-- Equal answers have equal numbers and leave equal bytes.
same_answer : (a n : ℕ) (xs ys : List ℕ) → ◌≡◌ {A = Result (ℕ × List ℕ) NumberFault} (Ok (a, xs)) (Ok (n, ys)) → (a ≡ n) × (xs ≡ ys)
same_answer a n xs ys e =
    let p : ◌≡◌ {A = ℕ × List ℕ} (a, xs) (n, ys) = cc in (ap (λ (q : ℕ × List ℕ). q.0) p, ap (λ (q : ℕ × List ℕ). q.1) p)

-- The bytes of a number read as it, whatever stands behind them.
pub a_number_reads_back : (place n : ℕ) (rest : List ℕ) → n < number_limit → number_at place (number_bytes n ++ rest) ≡ Ok (n, rest)
a_number_reads_back place n rest h =
    by_test (ltb n 128)
    (λ a. simp a)
    (λ a. let la = ltb-false n 128 a in
    let p : ltb (n % 128 + 128) 128 ≡ false = le-ltb (n % 128 + 128) 128 (omega arith) in
    by_test (ltb n 16384)
    (λ b. let lb = ltb-true n 16384 b in
    let q : ltb (n / 128) 128 ≡ true = lt-ltb (n / 128) 128 (omega arith) in
    let z : eqb (n / 128) 0 ≡ false = ne_eqb (n / 128) 0 (λ y. omega arith) in
    let v : n % 128 + 128 - 128 + n / 128 * 128 ≡ n = omega arith in
    simp (a, b, p, q, z, v))
    (λ b. let lb = ltb-false n 16384 b in
    let q : ltb (n / 128 % 128 + 128) 128 ≡ false = le-ltb (n / 128 % 128 + 128) 128 (omega arith) in
    let r : ltb (n / 16384) 128 ≡ true = lt-ltb (n / 16384) 128 (omega arith) in
    let z : eqb (n / 16384) 0 ≡ false = ne_eqb (n / 16384) 0 (λ y. omega arith) in
    let v : n % 128 + 128 - 128 + (n / 128 % 128 + 128 - 128) * 128 + n / 16384 * 16384 ≡ n = omega arith in
    simp (a, b, p, q, r, z, v)))

-- What bytes that read as a number are, and how large it is.
abbrev pub ReadAs : ℕ → List ℕ → List ℕ → Type 0
ReadAs n bs rest = (bs ≡ number_bytes n ++ rest) × (n < number_limit)

-- Three bytes that read as a number are its bytes.
back_third : (place x y n : ℕ) (cs rest : List ℕ) → 128 ≤ x → x < 256 → 128 ≤ y → y < 256 → third_byte place (x - 128 + (y - 128) * 128) cs ≡ Ok (n, rest) → ReadAs n (x ∷ y ∷ cs) rest
back_third place x y n [] rest a b c d e = cc
back_third place x y n (z ∷ zs) rest a b c d e =
    by_test (ltb z 128)
    (λ p. by_test (eqb z 0)
    (λ q. let no = simp (p, q) at e in cc)
    (λ q. let lz = ltb-true z 128 p in
    let nz = eqb-false z 0 q in
    let s = same_answer (x - 128 + (y - 128) * 128 + z * 16384) n zs rest (simp (p, q) at e) in
    let v = s.0 in
    let z1 : 0 < z = omega (arith, nz) in
    let t1 : ltb n 128 ≡ false = le-ltb n 128 (omega arith) in
    let t2 : ltb n 16384 ≡ false = le-ltb n 16384 (omega arith) in
    let e1 : n % 128 + 128 ≡ x = omega arith in
    let h1 : n / 128 ≡ y - 128 + z * 128 = omega arith in
    let h2 : (y - 128 + z * 128) % 128 ≡ y - 128 = omega (arith, c, d) in
    let e2 : n / 128 % 128 + 128 ≡ y = omega (arith, ap (λ k. k % 128) h1 ∙ h2, c) in
    let e3 : n / 16384 ≡ z = omega arith in
    let r = s.1 in
    (simp (t1, t2, e1, e2, e3) (ap (λ (ws : List ℕ). x ∷ y ∷ z ∷ ws) r), omega arith)))
    (λ p. let no = simp p at e in cc)

-- Two or three bytes that read as a number are its bytes.
back_second : (place x n : ℕ) (ys rest : List ℕ) → 128 ≤ x → x < 256 → AllBytes ys → second_byte place (x - 128) ys ≡ Ok (n, rest) → ReadAs n (x ∷ ys) rest
back_second place x n [] rest a b w e = cc
back_second place x n (y ∷ ys) rest a b w e =
    by_test (ltb y 128)
    (λ p. by_test (eqb y 0)
    (λ q. let no = simp (p, q) at e in cc)
    (λ q. let ly = ltb-true y 128 p in
    let ny = eqb-false y 0 q in
    let s = same_answer (x - 128 + y * 128) n ys rest (simp (p, q) at e) in
    let v = s.0 in
    let y1 : 0 < y = omega (arith, ny) in
    let t1 : ltb n 128 ≡ false = le-ltb n 128 (omega arith) in
    let t2 : ltb n 16384 ≡ true = lt-ltb n 16384 (omega arith) in
    let e1 : n % 128 + 128 ≡ x = omega arith in
    let e2 : n / 128 ≡ y = omega arith in
    let r = s.1 in
    (simp (t1, t2, e1, e2) (ap (λ (ws : List ℕ). x ∷ y ∷ ws) r), omega arith)))
    (λ p. back_third place x y n ys rest a b (ltb-false y 128 p) (w 0) (simp p at e))

-- Bytes that read as a number are its bytes and those behind them, and it is below the limit.
pub no_other_bytes_read_as_a_number : (place n : ℕ) (bs rest : List ℕ) → AllBytes bs → number_at place bs ≡ Ok (n, rest) → ReadAs n bs rest
no_other_bytes_read_as_a_number place n [] rest w e = cc
no_other_bytes_read_as_a_number place n (x ∷ xs) rest w e =
    by_test (ltb x 128)
    (λ p. let s = same_answer x n xs rest (simp p at e) in
    let t : ltb n 128 ≡ true = ap (λ k. ltb k 128) (sym s.0) ∙ p in
    let v = s.0 in let r = s.1 in
    let small = ltb-true n 128 t in
    (simp t (ap (λ (k : ℕ). k ∷ xs) v ∙ ap (λ (ws : List ℕ). n ∷ ws) r), omega arith))
    (λ p. back_second place x n xs rest (ltb-false x 128 p) (w 0) (λ k. w (suc k)) (simp p at e))
