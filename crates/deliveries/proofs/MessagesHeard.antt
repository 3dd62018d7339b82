-- What a message does, by the parts that the calls change: one lemma for each way that a message can go.
use Rattle.std.proofs.Common.{◌≡◌, ℕ, ◌<◌, true, false, cond, ltb, ap, ◌∙◌, arith}
use Rattle.std.proofs.lemmas.Bool.Decides.{nat_tests}
use Rattle.messages.specs.declared.Phase.TheVariants.{Write}
use Rattle.messages.specs.Phases.{phase_number}
use Rattle.messages.specs.Waiting.{Waiting}
use Rattle.servers.specs.Sets.{alone, one}
use Rattle.journal.specs.declared.journal.Journal.{Journal}
use Rattle.fleet.specs.declared.fleet.Fleet.{Fleet}
use Rattle.fleet.specs.View.{servers, ChangedAt}
use Rattle.model.specs.ServerChanges.{servers_kept_write}
use Rattle.model.specs.Sending.{sent}
use Rattle.model.specs.Deliveries.{took, took_and_returned, ends_at, keeps_prewrite, keeps_write, hears_prewrite, hears_write}
use Rattle.sending.specs.declared.memory.Memory.{Memory}
use Rattle.sending.specs.View.{memory_state, state}

-- a pre-write ends: the row is taken, and a write of the server's own is sent
pub an_ended_prewrite_becomes_a_write : (m m' : Memory) (w w' : Waiting) (p r mask own : ℕ)
    → true ≡ ends_at (memory_state m w) p r mask
    → memory_state m' w ≡ took (memory_state m w) p r
    → own ≡ alone p
    → p < 8
    → ((k : Journal) → state k m'.fleet w' ≡ sent (state k m'.fleet w) p r (phase_number Write) own)
    → memory_state m' w' ≡ hears_prewrite (memory_state m w) p r mask
an_ended_prewrite_becomes_a_write m m' w w' p r mask own ends taken own_is low sends =
    let s = memory_state m w in
    let low_test : ltb p 8 ≡ true = grind (arith, nat_tests) in
    let alone_is : own ≡ one p = own_is ∙ ap (λ b. cond b (one p) 0) low_test in
    sends m'.journal ∙ (λ i. sent (taken i) p r (phase_number Write) (alone_is i)) ∙ ap (λ b. cond b (sent (took s p r) p r (phase_number Write) (one p)) (keeps_prewrite s p r mask)) ends

-- a write that does not end: the row is returned, and the write kept to be forwarded
pub a_write_that_goes_on_is_kept : (m m' : Memory) (f : Fleet) (w : Waiting) (p r mask : ℕ)
    → false ≡ ends_at (memory_state m w) p r mask
    → memory_state m' w ≡ took_and_returned (memory_state m w) p r
    → ChangedAt p m'.fleet (servers_kept_write (servers m'.fleet) p r mask) f
    → p < 8
    → state m'.journal f w ≡ hears_write (memory_state m w) p r mask
a_write_that_goes_on_is_kept m m' f w p r mask goes_on returned change low =
    let s = memory_state m w in
    let kept : state m'.journal f w ≡ keeps_write (memory_state m' w) p r mask = (λ i. record { size = change.size i; journal = (memory_state m' w).journal; servers = change.kept low i; waiting = w }) in
    kept ∙ ap (λ x. keeps_write x p r mask) returned ∙ ap (λ b. cond b (took_and_returned s p r) (keeps_write (took_and_returned s p r) p r mask)) goes_on
