-- Every run has one order: the started writes and answered reads by tag, a write before the reads of its tag, and those by row.
-- A read then stands behind the write that it names, with no other write between since tags of writes differ; what began after an answer has a higher tag or is a later read of the same.
use Rattle.std.proofs.Common.{◌≡◌, ℕ, suc, ◌+◌, ◌*◌, ◌<◌, ◌≤◌, Bool, true, false, cond, ◌&&◌, ltb, ◌⊎◌, List, sym, refl, ap, ◌∙◌, subst, inl, inr, ⊎_elim, arith}
use Rattle.std.proofs.lemmas.Bool.Decides.{nat_tests as tests}
use Rattle.std.proofs.lemmas.Bool.{cases_eq, cases_Bool, cases_lt, cases_order, true≢false}
use Rattle.model.specs.State.{Journal, Shelf}
use Rattle.model.specs.Questions.{named_row, telling}
use Rattle.model.specs.Runs.{Run, last, Begins, Wrote, Asked, Tells, Answered, Started, Gives}
use Rattle.model.specs.Orders.{In, Ahead, Nearest, First}
use Rattle.model.specs.Promises.{OneOrder}
use Rattle.model.proofs.Inv.{Base}
use Rattle.model.proofs.Later.{Later}
use Rattle.model.proofs.Births.{answers, Answers, answered_is}
use Rattle.model.proofs.AlongRuns.{inv_at, rows_at, kept, later_at, birth, origin}
use Rattle.model.proofs.Sorting.{sorted, sorted_in, in_sorted, sorted_rises, ahead_below, below_ahead, ahead_in, rises_once, Rises}

-- the keys: by tag, then a write before reads, then by row
abbrev key_of : ℕ → Bool → ℕ → ℕ
key_of t w r = t * 512 + cond w 0 256 + r

-- keys of different rows differ
key_apart : (t u : ℕ) (v w : Bool) (a b : ℕ) → a < 256 → b < 256 → key_of t v a ≡ key_of u w b → a ≡ b
key_apart t u v w a b la lb e = ⊎_elim
    (λ q. grind (arith, tests)) (λ q. ⊎_elim (λ l. grind (arith, tests)) (λ l. grind (arith, tests)) q) (cases_order t u)

-- a key is below another
key_tag : (t u : ℕ) (v w : Bool) (a b : ℕ) → a < 256 → t < u → key_of t v a < key_of u w b
key_tag t u v w a b la l = grind (arith, tests)

-- a read comes after its write, and reads of one tag come by their rows
key_read : (t : ℕ) (v : Bool) (a b : ℕ) → a < 256 → (v ≡ false → a < b) → key_of t v a < key_of t false b
key_read t v a b la l = grind (arith, tests)

-- a lower key has no higher tag
key_below : (t u : ℕ) (v w : Bool) (a b : ℕ) → b < 256 → key_of t v a < key_of u w b → t ≤ u
key_below t u v w a b lb l = grind (arith, tests)

-- the key of an operation
abbrev key : Journal → ℕ → ℕ
key l r = key_of (l.tag (named_row l r)) (l.is_write r) r

-- started writes and answered reads
abbrev counts : Journal → ℕ → Bool
counts l r = ltb 0 r && (ltb r l.used && cond (l.is_write r) (ltb 0 (l.tag r)) (l.answered r))

module _ {V : Type 0} (run : Run V) where
  -- the last journal
  abbrev journal : Journal
  journal = (last run).state.journal

  -- what holds of the last journal
  base : Base (last run).state.size journal (last run).state.servers
  base = (inv_at run run.length (omega arith)).base

  -- an operation of the run is no row 0, and is a write or a read in the journal to the end
  later_row : (r i : ℕ) → Begins run r i → (0 < r) × (journal.is_write r ≡ (run.at (suc i)).state.journal.is_write r)
  later_row r i h =
      let b = birth run r i h in
      let some = (inv_at run i (let l = h.within in omega arith)).base.some in
      (let e = b.is_new in omega arith, (kept run run.length (suc i) h.within (omega arith)).is_write r b.low)

  -- a write of the run is one in the journal
  wrote_is : (r : ℕ) (v : V) → Wrote run r v → (0 < r) × (journal.is_write r ≡ true)
  wrote_is r v w =
      let c = w.is in
      let x = later_row r w.place w.begins in (
        x.0,
        x.1 ∙ ⊎_elim
            (λ k. k.4)
            (λ k. absurd (let d = k.2 in let z : ◌≡◌ {A = ℕ} 0 1 = cc in omega arith))
            (birth run r w.place w.begins).kind,
      )

  -- a read of the run is one in the journal
  asked_is : (r : ℕ) → Asked run r → (0 < r) × (journal.is_write r ≡ false)
  asked_is r w =
      let c = w.is in
      let x = later_row r w.place w.begins in (
        x.0,
        x.1 ∙ ⊎_elim
            (λ k. absurd (let d = k.3 in let z : ◌≡◌ {A = ℕ} 0 1 = cc in omega arith))
            (λ k. k.3)
            (birth run r w.place w.begins).kind,
      )

  -- what is told of a row at the end
  told_is : (s : Shelf V) (r : ℕ) (v : V) → Tells run s r v → Answers s r v
  told_is s r v t = subst (Answers s r) t.value (answered_is s r t.telling t.is)

  -- of an answered operation the last shelf tells
  pub tells_last : (r : ℕ) → r < journal.used → journal.answered r ≡ true → Tells run (last run) r ((last run).values (named_row (last run).state.journal r))
  tells_last r l d = record { telling = telling (last run) r; is = answers (last run) r l d (rows_at run run.length (omega arith)); value = refl }

  -- THE ORDER

  -- used rows are below 256
  row_below_256 : (r : ℕ) → r < journal.used → r < 256
  row_below_256 r l = let b = base.room in omega arith

  -- the order: by keys
  order : List ℕ
  order = sorted (key journal) (counts journal) journal.used

  -- what counts stands in it
  counted_in : (r : ℕ) → r < journal.used → counts journal r ≡ true → In order r
  unfolding order
  counted_in = sorted_in (key journal) (counts journal) journal.used

  -- a started write or an answered read
  record Counted (r : ℕ) : Type 0 where
    pos : 0 < r
    used : r < journal.used
    is_write : journal.is_write r ≡ true → 0 < journal.tag r
    read : journal.is_write r ≡ false → journal.answered r ≡ true

  -- and nothing else does
  in_counted : (r : ℕ) → In order r → Counted r
  unfolding order
  in_counted r h = let x = (in_sorted (key journal) (counts journal) journal.used r h).1 in record { pos = grind (arith, tests); used = grind (arith, tests); is_write = λ e. grind (arith, tests); read = λ e. grind (arith, tests) }

  -- its keys rise
  rises : Rises (key journal) order
  unfolding order
  rises = sorted_rises (key journal) (counts journal) journal.used (λ a b la lb ca cb e. key_apart _ _ (journal.is_write a) (journal.is_write b) a b (row_below_256 a la) (row_below_256 b lb) e) journal.used (omega arith)

  -- started writes stand in it
  write_in : (r : ℕ) → 0 < journal.tag r → In order r
  write_in r t =
      let l = base.tag_used r t in
      let w = base.tag_write r t in
      let z = base.zero_tag in
      let pos : 0 < r = ⊎_elim (λ e. absurd (let q = ap journal.tag e in omega arith)) (λ ne. omega arith) (cases_eq r 0) in
      counted_in r l (grind (arith, tests))

  -- answered reads stand in it
  read_in : (r : ℕ) → Asked run r → r < journal.used → journal.answered r ≡ true → In order r
  read_in r a l d = let x = asked_is r a in let p = x.0 in let w = x.1 in counted_in r l (grind (arith, tests))

  -- a key by what the operation is
  key_write : (r : ℕ) → journal.is_write r ≡ true → key journal r ≡ key_of (journal.tag r) true r
  key_write r e = rw e

  -- of a read
  key_asked : (r : ℕ) → journal.is_write r ≡ false → key journal r ≡ key_of (journal.tag (journal.gave r)) false r
  key_asked r e = rw e

  -- a write ahead of a row has its tag, which is not above
  write_ahead : (u : ℕ) (x : V) (r : ℕ) → Wrote run u x → Ahead order u r → (0 < journal.tag u) × (journal.tag u ≤ journal.tag (named_row journal r))
  write_ahead u x r w h =
      let e = (wrote_is u x w).1 in
      let both = ahead_in (key journal) order u r h in
      let c = in_counted u both.0 in
      let d = in_counted r both.1 in
      let l = ahead_below (key journal) order u r rises h in
      (c.is_write e, key_below _ _ true (journal.is_write r) u r (row_below_256 r d.used) (rw (key_write u e) at l))

  -- the write that a read names is the nearest ahead of it, since tags of writes differ
  nearest : (r : ℕ) (v : V) → Gives run r v → ((w : ℕ) × Nearest run order w r v) ⊎ First run order r v
  nearest r v (a, t) = ⊎_elim none some (cases_eq (journal.gave r) 0)
    where
      is_read : journal.is_write r ≡ false
      is_read = (asked_is r a).1

      said : Answers (last run) r v
      said = told_is (last run) r v t

      row : named_row journal r ≡ journal.gave r
      row = rw is_read

      value : v ≡ (last run).values (journal.gave r)
      value = said.value ∙ ap (last run).values row

      none : journal.gave r ≡ 0 → ((w : ℕ) × Nearest run order w r v) ⊎ First run order r v
      none z = inr (record {
        is = value ∙ ap (last run).values z ∙ ⊎_elim (λ w. w.2 refl) (λ w. absurd (let q = w.1 in omega arith)) (origin run run.length (omega arith) 0 base.some);
        none = λ u x w h. let y = write_ahead u x r w h in let q = ap journal.tag (row ∙ z) ∙ base.zero_tag in let y0 = y.0 in let y1 = y.1 in omega arith;
      })

      some : (journal.gave r ≡ 0 → ⊥) → ((w : ℕ) × Nearest run order w r v) ⊎ First run order r v
      some nz =
          let g = journal.gave r in
          let tg : 0 < journal.tag g = base.gave_tag r is_read said.answered (omega arith) in
          let wg = base.tag_write g tg in
          let same = ap journal.tag row in
          let wrote : Wrote run g v = ⊎_elim (λ w. subst (Wrote run g) (sym value) (w.1 (omega arith))) (λ w. absurd (true≢false (sym wg ∙ w.0))) (origin run run.length (omega arith) g (base.tag_used g tg)) in
          inl (
            g,
            record {
              wrote = wrote;
              ahead = below_ahead (key journal) order g r rises (write_in g tg) (read_in r a said.low said.answered)
                  (rw (key_write g wg, key_asked r is_read) (key_read (journal.tag g) true g r (row_below_256 g (base.tag_used g tg)) (λ e. absurd (true≢false e))));
              none = λ u x w h k.
                  let y = write_ahead u x r w k in
                  let c = write_ahead g v u wrote h in
                  let wu = (wrote_is u x w).1 in
                  let ru = ap journal.tag (the_write u wu) in
                  let y1 = y.1 in
                  let c1 = c.1 in
                  let eq : journal.tag g ≡ journal.tag u = omega arith in
                  let e = (inv_at run run.length (omega arith)).ranks.apart g u tg y.0 eq in
                  let l = ahead_below (key journal) order g u rises h in
                  let q = ap (key journal) e in
                  omega arith;
            },
          )
        where
          the_write : (u : ℕ) → journal.is_write u ≡ true → named_row journal u ≡ u
          the_write u e = rw e

  -- what began after an answer has a higher key
  timely : (a b i j : ℕ) → In order a → In order b → Answered run a i → Begins run b j → i < j → Ahead order a b
  timely a b i j ia ib an bg l = below_ahead (key journal) order a b rises ia ib (⊎_elim as_write as_read (cases_Bool (journal.is_write b)))
    where
      soon : j ≤ run.length
      soon = let m = bg.within in omega arith

      done_then : (run.at j).state.journal.answered a ≡ true
      done_then = (kept run j (suc i) l soon).answered a (told_is (run.at (suc i)) a an.value an.after).answered

      since : Later journal a b
      since = later_at run run.length (suc j) a b bg.within (omega arith) ((birth run b j bg).later a done_then)

      low_a : a < 256
      low_a = row_below_256 a (in_counted a ia).used

      as_write : journal.is_write b ≡ true → key journal a < key journal b
      as_write e = rw (key_write b e) (key_tag _ (journal.tag b) (journal.is_write a) true a b low_a (since.writes ((in_counted b ib).is_write e)))

      as_read : journal.is_write b ≡ false → key journal a < key journal b
      as_read e =
          let le = since.reads e ((in_counted b ib).read e) in
          rw (key_asked b e) (⊎_elim
          (λ less. key_tag _ _ (journal.is_write a) false a b low_a less)
          (λ more. let q : journal.tag (named_row journal a) ≡ journal.tag (journal.gave b) = omega arith in rw q (key_read _ (journal.is_write a) a b low_a (λ f. since.less)))
          (cases_lt (journal.tag (named_row journal a)) (journal.tag (journal.gave b))))

  -- what stands in it is a started write or an answered read of the run
  only : (r : ℕ) → In order r → Started run r ⊎ ((v : V) × Gives run r v)
  only r h =
      let c = in_counted r h in
      ⊎_elim
      (λ w. inl ((last run).values r, w.1 c.pos, c.is_write w.0))
      (λ w. inr ((last run).values (named_row (last run).state.journal r), (w.2, tells_last r c.used (c.read w.0))))
      (origin run run.length (omega arith) r c.used)

  -- so there is one order
  pub one_order : OneOrder run
  one_order = record {
    order = order;
    once = rises_once (key journal) order rises;
    writes = λ r h. write_in r h.2;
    reads = λ r v h. let t = told_is (last run) r v h.1 in read_in r h.0 t.low t.answered;
    only = only;
    nearest = nearest;
    timely = timely;
  }
