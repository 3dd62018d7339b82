-- Messages that the rules put to wait are put as a wiring puts them: one message at a place that exists, and the pre-writes of all pending rows one after the other.
-- Both sides are compared place by place; a mask that is empty adds nothing anywhere.
use Rattle.std.proofs.Common.{◌≡◌, ℕ, zero, suc, ◌+◌, true, false, cond, ◌&&◌, eqb, ltb, refl, ap, add-one, arith}
use mathlib.Core.Path.{fun_ext}
use lib.Bits.{or_add_and, and_le_r}
use Rattle.std.proofs.lemmas.Bool.Decides.{nat_tests}
use Rattle.messages.specs.Waiting.{Waiting, is_at, is_place, joined_at, put_in}
use Rattle.servers.specs.Sets.{join}
use Rattle.model.specs.State.{State, with_waiting}
use Rattle.model.specs.Sending.{posted_if, rows_joined}
use Rattle.model.specs.Crashes.{posts_pending_if}

-- at a place where a message can wait, `put` joins the mask to what waits there
pub put_where_a_message_can_wait : (w : Waiting) (q r phase mask : ℕ) → is_place q r phase ≡ true → put_in w q r phase mask ≡ joined_at w q r phase mask
put_where_a_message_can_wait w q r phase mask e = ap {B = Waiting} (λ exists x k f. cond (exists && is_at q r phase x k f) (join (w x k f) mask) (w x k f)) e

-- a message for a standing server is put, one for a crashed server is lost
pub posted_to_a_standing_server : (s : State) (q r phase mask : ℕ) → posted_if true s q r phase mask ≡ with_waiting s (joined_at s.waiting q r phase mask)
posted_to_a_standing_server s q r phase mask = refl

-- one for a crashed server is lost
pub posted_to_a_crashed_server : (s : State) (q r phase mask : ℕ) → posted_if false s q r phase mask ≡ s
posted_to_a_crashed_server s q r phase mask = refl

-- an empty mask adds nothing
join_none : (a : ℕ) → join a 0 ≡ a
unfolding join
join_none a = let e = or_add_and a 0 in let l = and_le_r a 0 in omega arith

-- so putting an empty mask changes nothing
pub an_empty_mask_adds_nothing : (w : Waiting) (q r phase : ℕ) → joined_at w q r phase 0 ≡ w
an_empty_mask_adds_nothing w q r phase = fun_ext (λ x. fun_ext (λ k. fun_ext (λ f. let e = join_none (w x k f) in grind (arith, nat_tests))))

-- putting none, and putting one row more
pub rows_joined_none : (w : Waiting) (q phase : ℕ) (masks : ℕ → ℕ) → rows_joined w q phase masks 0 ≡ w
unfolding rows_joined
rows_joined_none w q phase masks = refl

-- and putting one row more
pub rows_joined_more : (w : Waiting) (q phase : ℕ) (masks : ℕ → ℕ) (n : ℕ) → rows_joined w q phase masks (n + 1) ≡ joined_at (rows_joined w q phase masks n) q n phase (masks n)
unfolding rows_joined
rows_joined_more w q phase masks n = rw add-one

-- what waits after the rows below n were put in turn
rows_at : (w : Waiting) (q phase : ℕ) (masks : ℕ → ℕ) (n x k f : ℕ) → rows_joined w q phase masks n x k f ≡ cond (eqb x q && (eqb f phase && ltb k n)) (join (w x k f) (masks k)) (w x k f)
unfolding rows_joined
rows_at w q phase masks zero x k f = grind (arith, nat_tests)
rows_at w q phase masks (suc n) x k f = let ih = rows_at w q phase masks n x k f in grind (arith, nat_tests)

-- the pre-writes of the pending rows are put one after the other, from row 0 on
pub rows_put_in_turn : (s : State) (p q : ℕ) → posts_pending_if true s p q ≡ with_waiting s (rows_joined s.waiting q 1 (s.servers.pending p) 256)
rows_put_in_turn s p q = ap (with_waiting s) (fun_ext (λ x. fun_ext (λ k. fun_ext (λ f. let e = rows_at s.waiting q 1 (s.servers.pending p) 256 x k f in grind (arith, nat_tests)))))

-- all of them are lost where the server has crashed
pub rows_lost : (s : State) (p q : ℕ) → posts_pending_if false s p q ≡ s
rows_lost s p q = refl
