-- What the rules say of all rows at a number above 7, which names no server: nothing is pending or waits there.
use Rattle.std.proofs.Common.{◌≡◌, ℕ, zero, suc, ◌≤◌, false, List, length, refl, ap, ◌∙◌}
use Rattle.counting.specs.Below.{any, sum}
use Rattle.counting.proofs.Sums.{sum_of_zeros}
use Rattle.server.specs.declared.server.Server.{Server}
use Rattle.server.specs.Cells.{has_entry, is_pending, entry_count}
use Rattle.server.specs.Servers.{cell_at}
use Rattle.table.specs.Table.{server_at, no_server}
use Rattle.table.proofs.OneServer.{none_past_the_end}

-- where each fails, none passes
none_of : (n : ℕ) → any (λ k. false) n ≡ false
unfolding any
none_of zero = refl
none_of (suc n) = none_of n

module _ (l : List Server) (p : ℕ) (sized : length l ≡ 8) (past : 8 ≤ p) where
  pub nothing_is_pending : any (λ r. is_pending (cell_at (server_at l p) r)) 256 ≡ false
  nothing_is_pending = ap (λ s. any (λ r. is_pending (cell_at s r)) 256) (none_past_the_end l p sized past) ∙ none_of 256

  pub no_entry_waits : any (λ r. has_entry (cell_at (server_at l p) r)) 256 ≡ false
  no_entry_waits = ap (λ s. any (λ r. has_entry (cell_at s r)) 256) (none_past_the_end l p sized past) ∙ none_of 256

  pub no_entry_is_counted : sum (λ r. entry_count (cell_at (server_at l p) r)) 256 ≡ 0
  no_entry_is_counted = ap (λ s. sum (λ r. entry_count (cell_at s r)) 256) (none_past_the_end l p sized past) ∙ sum_of_zeros (λ k. entry_count (cell_at no_server k)) 256 (λ k l. refl)
