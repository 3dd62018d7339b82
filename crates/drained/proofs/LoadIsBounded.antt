-- The load of a state, a sum of what all that is under way or queued still costs, is at most 6 m (w + q).
-- A message or an entry costs at most 6 m and a queued write less, and all of them are counted in w and q, since a crashed server has nothing.
use Rattle.std.proofs.Common.{◌≡◌, ℕ, ◌+◌, ◌*◌, ◌<◌, ◌≤◌, Bool, true, false, cond, ◌&&◌, sym, refl, ◌∙◌, ⊎_elim, le_trans, mul-le-mul_left, arith}
use Rattle.std.proofs.lemmas.Bool.{cases_eq, cases_Bool}
use Rattle.messages.specs.Waiting.{entry, waiting_count}
use Rattle.circle.specs.Circle.{first_standing}
use Rattle.counting.specs.Below.{sum, sum2, count}
use Rattle.circle.specs.Costs.{load, under_way}
use Rattle.circle.proofs.Noticed.{first_standing_below, first_standing_stands}
use Rattle.counting.proofs.Sums.{count_is_sum, sum_same, sum_add, sum_mono, sum_of_zeros}
use Rattle.circle.proofs.Loads.{Homes, load_bound}
use Rattle.model.specs.State.{State, tag_server, is_queued}
use Rattle.model.specs.Questions.{forward_count, standing_servers, entries_under_way, queued_writes, amounts}
use Rattle.model.specs.Draining.{drain_bound}
use Rattle.model.proofs.Inv.{Inv}
use Rattle.drained.proofs.CrashedHaveNothing.{CrashedIdle}

-- the stand-in for the server that the tag of row r names: where messages of the row end
abbrev pub home : State → ℕ → ℕ
home s r = first_standing s.size s.servers.standing (tag_server (s.journal.tag r))

-- the queued writes at standing servers, as a sum over a table
abbrev pub queued_sum : State → ℕ
queued_sum s = sum2 (λ p r. cond (s.servers.standing p && is_queued s.journal p r) 1 0) s.size 256

-- counting where a test holds, as a sum
count_if : (b : Bool) (test : ℕ → Bool) (n : ℕ) → cond b (count test n) 0 ≡ sum (λ k. cond (b && test k) 1 0) n
count_if true test n = count_is_sum test n
count_if false test n = sym (sum_of_zeros (λ k. 0) n (λ k l. refl))

-- q is that sum
queued_writes_is_sum : (s : State) → queued_writes s ≡ queued_sum s
queued_writes_is_sum s = sum_same _ _ s.size (λ p l. count_if (s.servers.standing p) (is_queued s.journal p) 256)

-- of row r at server p: the messages of both phases, the pre-write and the write to forward
abbrev work : State → ℕ → ℕ → ℕ
work s p r = entry (s.waiting p r 1) + entry (s.waiting p r 2) + entry (s.servers.forward_prewrite p r) + entry (s.servers.forward_write p r)

-- the load of a state: what all that is under way or queued still costs
abbrev pub load_of : State → ℕ
load_of s = load s.size 256 s.servers.standing (home s) s.waiting s.servers.forward_prewrite s.servers.forward_write (queued_sum s)

-- a sum of sums over a table
sum2_add : (f g : ℕ → ℕ → ℕ) (n k : ℕ) → sum2 (λ p r. f p r + g p r) n k ≡ sum2 f n k + sum2 g n k
sum2_add f g n k = sum_same (λ p. sum (λ r. f p r + g p r) k) (λ p. sum (f p) k + sum (g p) k) n (λ p lp. sum_add (f p) (g p) k) ∙ sum_add (λ p. sum (f p) k) (λ p. sum (g p) k) n

module _ (s : State) (i : Inv s) where
  -- the server that a tag names is one of the ring
  pub origin_below : (p : ℕ) → p < s.size → (r : ℕ) → tag_server (s.journal.tag r) < s.size
  origin_below p lp r = ⊎_elim (λ (z : s.journal.tag r ≡ 0). omega arith) (λ nz. i.base.tag_low r (omega arith)) (cases_eq (s.journal.tag r) 0)

  -- and its stand-in stands
  pub homes_stand : (p : ℕ) → p < s.size → s.servers.standing p ≡ true → Homes s.size 256 s.servers.standing (home s)
  homes_stand p lp u r lr = let origin = origin_below p lp r in (first_standing_below s.size s.servers.standing p lp u _ origin, first_standing_stands s.size s.servers.standing p lp u _ origin)

  -- what is under way at p: nothing where p has crashed
  under_way_at_one : CrashedIdle s → (p : ℕ) → sum (work s p) 256 ≤ cond (s.servers.standing p) (waiting_count s.waiting p + forward_count s.servers p) 0
  under_way_at_one idle p = ⊎_elim
      (λ (u : s.servers.standing p ≡ true). rw u (
      let parts = sum_add (λ r. entry (s.waiting p r 1) + entry (s.waiting p r 2)) (λ r. entry (s.servers.forward_prewrite p r) + entry (s.servers.forward_write p r)) 256 in
      let same = sum_same (work s p) (λ r. entry (s.waiting p r 1) + entry (s.waiting p r 2) + (entry (s.servers.forward_prewrite p r) + entry (s.servers.forward_write p r))) 256 (λ r l. omega arith) in
      omega arith))
      (λ (d : s.servers.standing p ≡ false). rw d (
      let none = sum_of_zeros (work s p) 256 (λ r l.
      let a = idle.no_message p r 1 d in let b = idle.no_message p r 2 d in let c = idle.no_prewrite p r d in let e = idle.no_write p r d in rw (a, b, c, e) refl) in
      omega arith))
      (cases_Bool (s.servers.standing p))

  -- all that the load adds up is counted in w
  under_way_is_counted : CrashedIdle s → under_way s.size 256 s.waiting s.servers.forward_prewrite s.servers.forward_write ≤ entries_under_way s
  under_way_is_counted idle =
      let first = λ (p r : ℕ). entry (s.waiting p r 1) in
      let second = λ (p r : ℕ). entry (s.waiting p r 2) in
      let prewrites = λ (p r : ℕ). entry (s.servers.forward_prewrite p r) in
      let writes = λ (p r : ℕ). entry (s.servers.forward_write p r) in
      let e1 = sum2_add first second s.size 256 in
      let e2 = sum2_add (λ p r. first p r + second p r) prewrites s.size 256 in
      let e3 = sum2_add (λ p r. first p r + second p r + prewrites p r) writes s.size 256 in
      let m = sum_mono (λ p. cond (s.servers.standing p) (waiting_count s.waiting p + forward_count s.servers p) 0) (λ p. sum (work s p) 256) s.size (λ p lp. under_way_at_one idle p) in
      omega arith

  -- the load is at most 6 m (w + q)
  pub load_is_bounded : CrashedIdle s → (p : ℕ) → p < s.size → s.servers.standing p ≡ true → load_of s ≤ drain_bound (amounts s)
  load_is_bounded idle p lp u =
      let a = load_bound s.size 256 s.servers.standing (home s) (homes_stand p lp u) s.waiting s.servers.forward_prewrite s.servers.forward_write (queued_sum s) in
      let b : under_way s.size 256 s.waiting s.servers.forward_prewrite s.servers.forward_write + queued_sum s ≤ entries_under_way s + queued_writes s = (let c = under_way_is_counted idle in let d = queued_writes_is_sum s in omega arith) in
      le_trans a (mul-le-mul_left (6 * standing_servers s) b)
