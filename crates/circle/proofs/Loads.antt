-- Each turn and each delivery lowers the load by at least one, and the load is at most 6 m for each entry and queued write.
-- Each of the four tables changes in one place at most, and the costs of that one entry fall.
use Rattle.std.proofs.Common.{◌≡◌, ℕ, suc, ◌+◌, ◌*◌, ◌<◌, ◌≤◌, Bool, true, false, sym, refl, ap, ◌∙◌, subst, mul-le-mul_right, arith}
use Rattle.servers.specs.Sets.{join, one}
use Rattle.circle.specs.Circle.{next_standing}
use Rattle.circle.specs.Costs.{standing_count, passed, on_wire, to_forward, write_lap, queued_cost, table_cost, load, under_way}
use Rattle.circle.proofs.Noticed.{next_standing_below}
use Rattle.circle.proofs.Costs.{forward_falls, deliver_falls, turn_falls, start_falls, on_wire_more, to_forward_more, on_wire_bound, to_forward_bound}
use Rattle.circle.proofs.Tables.{Emptied, Joined, Unchanged, Antitone, table_emptied, table_joined, table_unchanged, table_repriced, table_bound}

module _ (n rows : ℕ) (standing : ℕ → Bool) where
  -- the prices of the four tables
  abbrev wire_prewrite_price : (ℕ → ℕ) → ℕ → ℕ → ℕ → ℕ
  wire_prewrite_price home p r mask = on_wire n standing (home r) p mask + write_lap n standing

  -- a write on the wire
  abbrev wire_write_price : (ℕ → ℕ) → ℕ → ℕ → ℕ → ℕ
  wire_write_price home p r mask = on_wire n standing (home r) p mask

  -- a pre-write to forward
  abbrev forward_prewrite_price : (ℕ → ℕ) → ℕ → ℕ → ℕ → ℕ
  forward_prewrite_price home p r mask = to_forward n standing (home r) p mask + write_lap n standing

  -- a write to forward
  abbrev forward_write_price : (ℕ → ℕ) → ℕ → ℕ → ℕ → ℕ
  forward_write_price home p r mask = to_forward n standing (home r) p mask

  -- each row's home stands
  abbrev pub Homes : (ℕ → ℕ) → Type 0
  Homes home = (r : ℕ) → r < rows → (home r < n) × (standing (home r) ≡ true)

  -- a larger mask costs no more: a write on the wire
  wire_antitone : (home : ℕ → ℕ) → Homes home → (p r : ℕ) → r < rows → Antitone (wire_write_price home p r)
  wire_antitone home homes p r lr mask more h = let z = homes r lr in on_wire_more n standing (home r) z.0 z.1 p mask more h

  -- a pre-write on the wire
  wire_prewrite_antitone : (home : ℕ → ℕ) → Homes home → (p r : ℕ) → r < rows → Antitone (wire_prewrite_price home p r)
  wire_prewrite_antitone home homes p r lr mask more h = let a = wire_antitone home homes p r lr mask more h in omega arith

  -- a write to forward
  forward_antitone : (home : ℕ → ℕ) → Homes home → (p r : ℕ) → r < rows → Antitone (forward_write_price home p r)
  forward_antitone home homes p r lr mask more h = let z = homes r lr in to_forward_more n standing (home r) z.0 z.1 p mask more h

  -- a pre-write to forward
  forward_prewrite_antitone : (home : ℕ → ℕ) → Homes home → (p r : ℕ) → r < rows → Antitone (forward_prewrite_price home p r)
  forward_prewrite_antitone home homes p r lr mask more h = let a = forward_antitone home homes p r lr mask more h in omega arith

  -- at most 6 m for each entry and each queued write, where the home of each entry stands
  pub load_bound_at : (home : ℕ → ℕ) (waiting : ℕ → ℕ → ℕ → ℕ) (prewrites writes : ℕ → ℕ → ℕ) (q : ℕ)
      → ((p r : ℕ) → p < n → r < rows → 0 < waiting p r 1 + waiting p r 2 + prewrites p r + writes p r → (home r < n) × (standing (home r) ≡ true))
      → load n rows standing home waiting prewrites writes q ≤ 6 * standing_count n standing * (under_way n rows waiting prewrites writes + q)
  load_bound_at home waiting prewrites writes q homes =
      let K = 6 * standing_count n standing in
      let a = table_bound (wire_prewrite_price home) (λ i k. waiting i k 1) n rows K (λ p r lp lr l. let z = homes p r lp lr (omega arith) in let b = on_wire_bound n standing (home r) z.0 z.1 p (waiting p r 1) in omega arith) in
      let b = table_bound (wire_write_price home) (λ i k. waiting i k 2) n rows K (λ p r lp lr l. let z = homes p r lp lr (omega arith) in let b = on_wire_bound n standing (home r) z.0 z.1 p (waiting p r 2) in omega arith) in
      let c = table_bound (forward_prewrite_price home) prewrites n rows K (λ p r lp lr l. let z = homes p r lp lr (omega arith) in let b = to_forward_bound n standing (home r) z.0 z.1 p (prewrites p r) in omega arith) in
      let d = table_bound (forward_write_price home) writes n rows K (λ p r lp lr l. let z = homes p r lp lr (omega arith) in let b = to_forward_bound n standing (home r) z.0 z.1 p (writes p r) in omega arith) in
      let e : queued_cost n standing ≤ K = omega arith in
      omega (arith, mul-le-mul_right q e)

  -- the same where the home of every row stands
  pub load_bound : (home : ℕ → ℕ) → Homes home → (waiting : ℕ → ℕ → ℕ → ℕ) (prewrites writes : ℕ → ℕ → ℕ) (q : ℕ)
      → load n rows standing home waiting prewrites writes q ≤ 6 * standing_count n standing * (under_way n rows waiting prewrites writes + q)
  load_bound home homes waiting prewrites writes q = load_bound_at home waiting prewrites writes q (λ p r lp lr l. homes r lr)

  -- a step, from what waits and is to be forwarded to what does so after it
  module _ (home : ℕ → ℕ) (homes : Homes home) (waiting waiting_after : ℕ → ℕ → ℕ → ℕ) (prewrites prewrites_after writes writes_after : ℕ → ℕ → ℕ) where
    -- the load falls, whatever is queued
    abbrev pub Falls : Type 0
    Falls = (q : ℕ) → load n rows standing home waiting_after prewrites_after writes_after q < load n rows standing home waiting prewrites writes q

    -- y forwards its pre-write of row r, with itself in the mask, to the next standing server
    pub forwards_prewrite_falls : (y r : ℕ) → y < n → standing y ≡ true → r < rows → 0 < prewrites y r
        → Joined (λ i k. waiting i k 1) (λ i k. waiting_after i k 1) (next_standing n standing y) r (join (prewrites y r) (one y)) → Unchanged (λ i k. waiting i k 2) (λ i k. waiting_after i k 2)
        → Emptied prewrites prewrites_after y r → Unchanged writes writes_after → Falls
    forwards_prewrite_falls y r ly uy lr pos w1 w2 p1 p2 q =
        let z = homes r lr in
        let a = table_joined (wire_prewrite_price home) (λ i k. waiting i k 1) n rows (λ i k. waiting_after i k 1) (next_standing n standing y) r (join (prewrites y r) (one y)) (next_standing_below n standing y ly) lr (wire_prewrite_antitone home homes (next_standing n standing y) r lr) w1 in
        let b = table_unchanged (wire_write_price home) (λ i k. waiting i k 2) n rows (λ i k. waiting_after i k 2) w2 in
        let c = table_emptied (forward_prewrite_price home) prewrites n rows prewrites_after y r ly lr pos p1 in
        let d = table_unchanged (forward_write_price home) writes n rows writes_after p2 in
        let f = forward_falls n standing (home r) z.0 z.1 y (prewrites y r) ly uy in
        omega arith

    -- y forwards its write
    pub forwards_write_falls : (y r : ℕ) → y < n → standing y ≡ true → r < rows → 0 < writes y r
        → Unchanged (λ i k. waiting i k 1) (λ i k. waiting_after i k 1) → Joined (λ i k. waiting i k 2) (λ i k. waiting_after i k 2) (next_standing n standing y) r (join (writes y r) (one y))
        → Unchanged prewrites prewrites_after → Emptied writes writes_after y r → Falls
    forwards_write_falls y r ly uy lr pos w1 w2 p1 p2 q =
        let z = homes r lr in
        let a = table_unchanged (wire_prewrite_price home) (λ i k. waiting i k 1) n rows (λ i k. waiting_after i k 1) w1 in
        let b = table_joined (wire_write_price home) (λ i k. waiting i k 2) n rows (λ i k. waiting_after i k 2) (next_standing n standing y) r (join (writes y r) (one y)) (next_standing_below n standing y ly) lr (wire_antitone home homes (next_standing n standing y) r lr) w2 in
        let c = table_unchanged (forward_prewrite_price home) prewrites n rows prewrites_after p1 in
        let d = table_emptied (forward_write_price home) writes n rows writes_after y r ly lr pos p2 in
        let f = forward_falls n standing (home r) z.0 z.1 y (writes y r) ly uy in
        omega arith

    -- a pre-write comes to z, and z is to forward it
    pub keeps_prewrite_falls : (z r : ℕ) → z < n → r < rows → 0 < waiting z r 1 → (z ≡ home r → passed n standing (home r) z (waiting z r 1) ≡ false)
        → Emptied (λ i k. waiting i k 1) (λ i k. waiting_after i k 1) z r → Unchanged (λ i k. waiting i k 2) (λ i k. waiting_after i k 2)
        → Joined prewrites prewrites_after z r (waiting z r 1) → Unchanged writes writes_after → Falls
    keeps_prewrite_falls z r lz lr pos un w1 w2 p1 p2 q =
        let h = homes r lr in
        let a = table_emptied (wire_prewrite_price home) (λ i k. waiting i k 1) n rows (λ i k. waiting_after i k 1) z r lz lr pos w1 in
        let b = table_unchanged (wire_write_price home) (λ i k. waiting i k 2) n rows (λ i k. waiting_after i k 2) w2 in
        let c = table_joined (forward_prewrite_price home) prewrites n rows prewrites_after z r (waiting z r 1) lz lr (forward_prewrite_antitone home homes z r lr) p1 in
        let d = table_unchanged (forward_write_price home) writes n rows writes_after p2 in
        let f = deliver_falls n standing (home r) h.0 h.1 z (waiting z r 1) lz un in
        omega arith

    -- a write comes to z, and z is to forward it
    pub keeps_write_falls : (z r : ℕ) → z < n → r < rows → 0 < waiting z r 2 → (z ≡ home r → passed n standing (home r) z (waiting z r 2) ≡ false)
        → Unchanged (λ i k. waiting i k 1) (λ i k. waiting_after i k 1) → Emptied (λ i k. waiting i k 2) (λ i k. waiting_after i k 2) z r
        → Unchanged prewrites prewrites_after → Joined writes writes_after z r (waiting z r 2) → Falls
    keeps_write_falls z r lz lr pos un w1 w2 p1 p2 q =
        let h = homes r lr in
        let a = table_unchanged (wire_prewrite_price home) (λ i k. waiting i k 1) n rows (λ i k. waiting_after i k 1) w1 in
        let b = table_emptied (wire_write_price home) (λ i k. waiting i k 2) n rows (λ i k. waiting_after i k 2) z r lz lr pos w2 in
        let c = table_unchanged (forward_prewrite_price home) prewrites n rows prewrites_after p1 in
        let d = table_joined (forward_write_price home) writes n rows writes_after z r (waiting z r 2) lz lr (forward_antitone home homes z r lr) p2 in
        let f = deliver_falls n standing (home r) h.0 h.1 z (waiting z r 2) lz un in
        omega arith

    -- a pre-write ends at z, its home, and z sends a write
    pub turns_prewrite_falls_at : (z r : ℕ) → z ≡ home r → r < rows → 0 < waiting z r 1 → (mask : ℕ)
        → Emptied (λ i k. waiting i k 1) (λ i k. waiting_after i k 1) z r → Joined (λ i k. waiting i k 2) (λ i k. waiting_after i k 2) (next_standing n standing z) r mask
        → Unchanged prewrites prewrites_after → Unchanged writes writes_after → Falls
    turns_prewrite_falls_at z r is lr pos mask w1 w2 p1 p2 q =
        let h = homes r lr in
        let lz : z < n = rw is h.0 in
        let a = table_emptied (wire_prewrite_price home) (λ i k. waiting i k 1) n rows (λ i k. waiting_after i k 1) z r lz lr pos w1 in
        let b = table_joined (wire_write_price home) (λ i k. waiting i k 2) n rows (λ i k. waiting_after i k 2) (next_standing n standing z) r mask (next_standing_below n standing z lz) lr (wire_antitone home homes (next_standing n standing z) r lr) w2 in
        let c = table_unchanged (forward_prewrite_price home) prewrites n rows prewrites_after p1 in
        let d = table_unchanged (forward_write_price home) writes n rows writes_after p2 in
        let f = subst (λ x. on_wire n standing (home r) (next_standing n standing x) mask + 1 ≤ on_wire n standing (home r) x (waiting z r 1) + write_lap n standing) (sym is) (turn_falls n standing (home r) h.0 h.1 (waiting z r 1) mask) in
        omega arith

    -- the same, said of the home itself
    pub turns_prewrite_falls : (r : ℕ) → r < rows → 0 < waiting (home r) r 1 → (mask : ℕ)
        → Emptied (λ i k. waiting i k 1) (λ i k. waiting_after i k 1) (home r) r → Joined (λ i k. waiting i k 2) (λ i k. waiting_after i k 2) (next_standing n standing (home r)) r mask
        → Unchanged prewrites prewrites_after → Unchanged writes writes_after → Falls
    turns_prewrite_falls r = turns_prewrite_falls_at (home r) r refl

    -- a write ends
    pub ends_write_falls : (z r : ℕ) → z < n → r < rows → 0 < waiting z r 2
        → Unchanged (λ i k. waiting i k 1) (λ i k. waiting_after i k 1) → Emptied (λ i k. waiting i k 2) (λ i k. waiting_after i k 2) z r
        → Unchanged prewrites prewrites_after → Unchanged writes writes_after → Falls
    ends_write_falls z r lz lr pos w1 w2 p1 p2 q =
        let a = table_unchanged (wire_prewrite_price home) (λ i k. waiting i k 1) n rows (λ i k. waiting_after i k 1) w1 in
        let b = table_emptied (wire_write_price home) (λ i k. waiting i k 2) n rows (λ i k. waiting_after i k 2) z r lz lr pos w2 in
        let c = table_unchanged (forward_prewrite_price home) prewrites n rows prewrites_after p1 in
        let d = table_unchanged (forward_write_price home) writes n rows writes_after p2 in
        omega arith

  -- a price by the home, where the home of row r alone changes and the table has nothing of row r
  rehomed : (cost : ℕ → ℕ → ℕ → ℕ) (home HomeAfter : ℕ → ℕ) (t : ℕ → ℕ → ℕ) (r : ℕ) → ((k : ℕ) → (k ≡ r → ⊥) → HomeAfter k ≡ home k) → ((i : ℕ) → t i r ≡ 0)
      → table_cost (λ p k mask. cost (HomeAfter k) p mask) t n rows ≤ table_cost (λ p k mask. cost (home k) p mask) t n rows
  rehomed cost home HomeAfter t r others none = table_repriced (λ p k mask. cost (home k) p mask) t n rows (λ p k mask. cost (HomeAfter k) p mask) (λ i k l.
      ap (λ h. cost h i (t i k)) (others k (λ e. let z : t i k ≡ 0 = ap (t i) e ∙ none i in omega arith)))

  -- a queued write starts at z, which becomes the home of its row; the row had no entry
  pub starts_falls_at : (home HomeAfter : ℕ → ℕ) → Homes HomeAfter → (waiting waiting_after : ℕ → ℕ → ℕ → ℕ) (prewrites prewrites_after writes writes_after : ℕ → ℕ → ℕ) (z r q mask : ℕ) → z ≡ HomeAfter r → r < rows
      → ((k : ℕ) → (k ≡ r → ⊥) → HomeAfter k ≡ home k)
      → ((i f : ℕ) → waiting i r f ≡ 0) → ((i : ℕ) → prewrites i r ≡ 0) → ((i : ℕ) → writes i r ≡ 0)
      → Joined (λ i k. waiting i k 1) (λ i k. waiting_after i k 1) (next_standing n standing z) r mask → Unchanged (λ i k. waiting i k 2) (λ i k. waiting_after i k 2)
      → Unchanged prewrites prewrites_after → Unchanged writes writes_after
      → load n rows standing HomeAfter waiting_after prewrites_after writes_after q < load n rows standing home waiting prewrites writes (suc q)
  starts_falls_at home HomeAfter homes_after waiting waiting_after prewrites prewrites_after writes writes_after z r q mask is lr others none none_prewrite none_write w1 w2 p1 p2 =
      let h = homes_after r lr in
      let lz : z < n = rw is h.0 in
      let a = table_joined (wire_prewrite_price HomeAfter) (λ i k. waiting i k 1) n rows (λ i k. waiting_after i k 1) (next_standing n standing z) r mask (next_standing_below n standing z lz) lr (wire_prewrite_antitone HomeAfter homes_after (next_standing n standing z) r lr) w1 in
      let b = table_unchanged (wire_write_price HomeAfter) (λ i k. waiting i k 2) n rows (λ i k. waiting_after i k 2) w2 in
      let c = table_unchanged (forward_prewrite_price HomeAfter) prewrites n rows prewrites_after p1 in
      let d = table_unchanged (forward_write_price HomeAfter) writes n rows writes_after p2 in
      let a2 = rehomed (λ x p m. on_wire n standing x p m + write_lap n standing) home HomeAfter (λ i k. waiting i k 1) r others (λ i. none i 1) in
      let b2 = rehomed (on_wire n standing) home HomeAfter (λ i k. waiting i k 2) r others (λ i. none i 2) in
      let c2 = rehomed (λ x p m. to_forward n standing x p m + write_lap n standing) home HomeAfter prewrites r others none_prewrite in
      let d2 = rehomed (to_forward n standing) home HomeAfter writes r others none_write in
      let f = subst (λ x. on_wire n standing (HomeAfter r) (next_standing n standing x) mask + write_lap n standing + 1 ≤ queued_cost n standing) (sym is) (start_falls n standing (HomeAfter r) h.0 h.1 mask) in
      omega arith

  -- the same, said of the new home itself
  pub starts_falls : (home HomeAfter : ℕ → ℕ) → Homes HomeAfter → (waiting waiting_after : ℕ → ℕ → ℕ → ℕ) (prewrites writes prewrites_after writes_after : ℕ → ℕ → ℕ) (r q mask : ℕ) → r < rows
      → ((k : ℕ) → (k ≡ r → ⊥) → HomeAfter k ≡ home k)
      → ((i f : ℕ) → waiting i r f ≡ 0) → ((i : ℕ) → prewrites i r ≡ 0) → ((i : ℕ) → writes i r ≡ 0)
      → Joined (λ i k. waiting i k 1) (λ i k. waiting_after i k 1) (next_standing n standing (HomeAfter r)) r mask → Unchanged (λ i k. waiting i k 2) (λ i k. waiting_after i k 2)
      → Unchanged prewrites prewrites_after → Unchanged writes writes_after
      → load n rows standing HomeAfter waiting_after prewrites_after writes_after q < load n rows standing home waiting prewrites writes (suc q)
  starts_falls home HomeAfter homes_after waiting waiting_after prewrites writes prewrites_after writes_after r q mask = starts_falls_at home HomeAfter homes_after waiting waiting_after prewrites prewrites_after writes writes_after (HomeAfter r) r q mask refl
