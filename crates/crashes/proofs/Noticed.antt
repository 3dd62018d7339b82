-- What a server that notices a crash tells its new next, by the parts that the calls change. The idea: each part's equation is put in its place in the state, and a test of the rule is replaced by its result.
use Rattle.std.proofs.Common.{◌≡◌, ℕ, ◌<◌, true, cond, eqb, ltb, sym, ap, ◌∙◌, arith}
use Rattle.std.proofs.lemmas.Bool.Decides.{nat_tests}
use Rattle.messages.specs.declared.Phase.TheVariants.{Write}
use Rattle.messages.specs.Phases.{phase_number}
use Rattle.messages.specs.Waiting.{Waiting}
use Rattle.servers.specs.Sets.{alone, one}
use Rattle.journal.specs.declared.journal.Journal.{Journal}
use Rattle.journal.specs.View.{view}
use Rattle.fleet.specs.declared.fleet.Fleet.{Fleet}
use Rattle.fleet.specs.View.{servers, ChangedAt}
use Rattle.model.specs.ServerChanges.{servers_noticed}
use Rattle.model.specs.Sending.{next_of, sent}
use Rattle.model.specs.Crashes.{learns, sends_held, sends_pending, notices}
use Rattle.sending.specs.View.{state}

-- the held row is sent as a write of the server's own
pub the_held_row_is_sent : (j : Journal) (f : Fleet) (w w' : Waiting) (p held mask : ℕ)
    → p < 8
    → held ≡ (servers f).held p
    → mask ≡ cond (eqb held 0) 0 (alone p)
    → state j f w' ≡ sent (state j f w) p held (phase_number Write) mask
    → state j f w' ≡ sends_held (state j f w) p
the_held_row_is_sent j f w w' p held mask low held_is mask_is sends =
    let low_test : ltb p 8 ≡ true = grind (arith, nat_tests) in
    let alone_is : alone p ≡ one p = ap (λ b. cond b (one p) 0) low_test in
    let own : mask ≡ cond (eqb ((servers f).held p) 0) 0 (one p) = mask_is ∙ (λ i. cond (eqb (held_is i) 0) 0 (alone_is i)) in
    sends ∙ (λ i. sent (state j f w) p (held_is i) (phase_number Write) (own i))

-- the crashed server was the next: the crash is noticed, then the held row and the pending rows are sent
pub the_new_next_is_told : (j : Journal) (f f' : Fleet) (w w' w'' : Waiting) (p x : ℕ)
    → p < 8
    → ChangedAt p f (servers_noticed (servers f) p x) f'
    → eqb (next_of (state j f w) p) x ≡ true
    → state j f' w' ≡ sends_held (state j f' w) p
    → state j f' w'' ≡ sends_pending (state j f' w') p
    → state j f' w'' ≡ notices (state j f w) p x
the_new_next_is_told j f f' w w' w'' p x low change was_next held pending =
    let s = state j f w in
    let learned : state j f' w ≡ learns s p x = (λ i. record { size = change.size i; journal = view j; servers = change.kept low i; waiting = w }) in
    pending ∙ ap (λ t. sends_pending t p) (held ∙ ap (λ t. sends_held t p) learned) ∙ sym (ap (λ b. cond b (sends_pending (sends_held (learns s p x) p) p) (learns s p x)) was_next)
