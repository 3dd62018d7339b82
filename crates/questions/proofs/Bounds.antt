-- How large the amounts can be: each row counts for at most one queued write and two entries.
use Rattle.std.proofs.Common.{ℕ, zero, suc, ◌+◌, ◌*◌, ◌≤◌, arith}
use Rattle.std.proofs.lemmas.Bool.Decides.{nat_tests}
use Rattle.counting.specs.Below.{sum}
use Rattle.messages.specs.Waiting.{Waiting, entry, waiting_count}
use Rattle.model.specs.State.{Servers}
use Rattle.model.specs.Questions.{forward_count}

-- a mask counts for one at most
one_at_most : (mask : ℕ) → entry mask ≤ 1
one_at_most mask = grind (arith, nat_tests)

-- so two masks for each row count for two at most
two_for_each_row : (a b : ℕ → ℕ) (n : ℕ) → sum (λ r. entry (a r) + entry (b r)) n ≤ 2 * n
unfolding sum
two_for_each_row a b zero = omega arith
two_for_each_row a b (suc n) = let h = two_for_each_row a b n in let x = one_at_most (a n) in let y = one_at_most (b n) in omega arith

pub few_messages_wait : (w : Waiting) (p : ℕ) → waiting_count w p ≤ 512
few_messages_wait w p = two_for_each_row (λ r. w p r 1) (λ r. w p r 2) 256

pub few_entries_are_to_forward : (v : Servers) (p : ℕ) → forward_count v p ≤ 512
few_entries_are_to_forward v p = two_for_each_row (v.forward_prewrite p) (v.forward_write p) 256

-- so few entries are at each server
abbrev pub at_each : Servers → Waiting → ℕ → ℕ
at_each v w p = waiting_count w p + forward_count v p

pub few_at_each : (v : Servers) (w : Waiting) (p : ℕ) → at_each v w p ≤ 1024
few_at_each v w p = let a = few_messages_wait w p in let b = few_entries_are_to_forward v p in omega arith
