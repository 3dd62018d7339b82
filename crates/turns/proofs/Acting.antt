-- Forwarding and starting, by the parts that the calls change. The idea: each part's equation is put in its place in the state from which the message is sent.
use Rattle.std.proofs.Common.{◌≡◌, ℕ, ◌+◌, ◌<◌, Bool, true, false, cond, ltb, Some, None, sym, ap, ◌∙◌, arith}
use Rattle.std.proofs.lemmas.Bool.Decides.{nat_tests}
use Rattle.messages.specs.declared.Phase.TheVariants.{PreWrite, Write}
use Rattle.messages.specs.Phases.{phase_number}
use Rattle.messages.specs.Waiting.{Waiting}
use Rattle.servers.specs.Sets.{alone, join, one}
use Rattle.counting.specs.Below.{least}
use Rattle.counting.proofs.Searches.{least_passes}
use Rattle.journal.specs.declared.journal.Journal.{Journal}
use Rattle.journal.specs.View.{view}
use Rattle.fleet.specs.declared.fleet.Fleet.{Fleet}
use Rattle.fleet.specs.View.{servers, ChangedAt}
use Rattle.model.specs.State.{tag_of, tag_number, is_news, is_queued}
use Rattle.model.specs.JournalChanges.{journal_tagged}
use Rattle.model.specs.ServerChanges.{servers_released_prewrite_if, servers_released_write, servers_started}
use Rattle.model.specs.Sending.{sent}
use Rattle.model.specs.Turns.{forwards, forwards_prewrite, forwards_write, forwards_or_starts, fresh_number}
use Rattle.sending.specs.declared.memory.Memory.{Memory}
use Rattle.sending.specs.View.{memory_state, state}

-- a write leaves the server that forwards it, and is sent with the server added
pub a_write_goes_on : (m : Memory) (f : Fleet) (w w' : Waiting) (p r mask : ℕ)
    → true ≡ ltb 0 ((servers m.fleet).forward_write p r)
    → (p < 8 → mask ≡ join ((servers m.fleet).forward_write p r) (one p))
    → ChangedAt p m.fleet (servers_released_write (servers m.fleet) p r) f
    → p < 8
    → ((k : Journal) → state k f w' ≡ sent (state k f w) p r (phase_number Write) mask)
    → state m.journal f w' ≡ forwards (memory_state m w) p r
a_write_goes_on m f w w' p r mask test mask_is change low sends =
    let s = memory_state m w in
    sends m.journal
    ∙ (λ i. sent (record { size = change.size i; journal = view m.journal; servers = change.kept low i; waiting = w }) p r (phase_number Write) (mask_is low i))
    ∙ ap (λ b. cond b (forwards_write s p r) (forwards_prewrite s p r)) test

-- a pre-write leaves the server that forwards it, joins pending if it is news, and is sent with the server added
pub a_prewrite_goes_on : (m : Memory) (f : Fleet) (w w' : Waiting) (p r mask : ℕ) (news : Bool)
    → false ≡ ltb 0 ((servers m.fleet).forward_write p r)
    → news ≡ is_news (memory_state m w) p r
    → (p < 8 → mask ≡ join ((servers m.fleet).forward_prewrite p r) (one p))
    → ChangedAt p m.fleet (servers_released_prewrite_if news (servers m.fleet) p r) f
    → p < 8
    → ((k : Journal) → state k f w' ≡ sent (state k f w) p r (phase_number PreWrite) mask)
    → state m.journal f w' ≡ forwards (memory_state m w) p r
a_prewrite_goes_on m f w w' p r mask news test news_is mask_is change low sends =
    let s = memory_state m w in
    let kept : servers f ≡ servers_released_prewrite_if (is_news s p r) (servers m.fleet) p r = change.kept low ∙ ap (λ b. servers_released_prewrite_if b (servers m.fleet) p r) news_is in
    sends m.journal
    ∙ (λ i. sent (record { size = change.size i; journal = view m.journal; servers = kept i; waiting = w }) p r (phase_number PreWrite) (mask_is low i))
    ∙ ap (λ b. cond b (forwards_write s p r) (forwards_prewrite s p r)) test

-- the queued write that was found gets its tag, is pending at the server alone, and its pre-write is sent
pub a_queued_write_starts : (m m' : Memory) (w w' : Waiting) (p r highest own : ℕ)
    → Some r ≡ least (is_queued (view m.journal) p) (λ k. k) 256
    → 1 + tag_number ((view m.journal).tag highest) ≡ fresh_number (memory_state m w) p
    → view m'.journal ≡ cond (is_queued (view m.journal) p r) (journal_tagged (view m.journal) r (tag_of (1 + tag_number ((view m.journal).tag highest)) p)) (view m.journal)
    → ChangedAt p m.fleet (servers_started (servers m.fleet) p r) m'.fleet
    → own ≡ alone p
    → p < 8
    → ((k : Journal) → state k m'.fleet w' ≡ sent (state k m'.fleet w) p r (phase_number PreWrite) own)
    → memory_state m' w' ≡ forwards_or_starts (memory_state m w) p None (least (is_queued (view m.journal) p) (λ k. k) 256)
a_queued_write_starts m m' w w' p r highest own found number journal_is change own_is low sends =
    let s = memory_state m w in
    let low_test : ltb p 8 ≡ true = grind (arith, nat_tests) in
    let alone_is : own ≡ one p = own_is ∙ ap (λ b. cond b (one p) 0) low_test in
    let queued : is_queued (view m.journal) p r ≡ true = (least_passes (is_queued (view m.journal) p) (λ k. k) 256 r (sym found)).1 in
    let tag = tag_of (1 + tag_number ((view m.journal).tag highest)) p in
    let journal : view m'.journal ≡ journal_tagged (view m.journal) r (tag_of (fresh_number s p) p) =
    journal_is ∙ ap (λ b. cond b (journal_tagged (view m.journal) r tag) (view m.journal)) queued ∙ ap (λ n. journal_tagged (view m.journal) r (tag_of n p)) number in
    sends m'.journal
    ∙ (λ i. sent (record { size = change.size i; journal = journal i; servers = change.kept low i; waiting = w }) p r (phase_number PreWrite) (alone_is i))
    ∙ ap (forwards_or_starts s p None) found
