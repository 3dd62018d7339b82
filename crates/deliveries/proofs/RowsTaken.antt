-- Taking a row and returning it, by the parts that the calls change. The idea: each part's equation is put in its place in the state, and a test of a rule is replaced by its result.
use Rattle.std.proofs.Common.{◌≡◌, ℕ, ◌+◌, ◌<◌, false, sym, refl, ap, ◌∙◌, arith}
use Rattle.messages.specs.Waiting.{Waiting}
use Rattle.counting.specs.Below.{count}
use Rattle.counting.proofs.Counts.{nothing_passes}
use Rattle.journal.specs.View.{view}
use Rattle.fleet.specs.View.{servers, ChangedAt}
use Rattle.model.specs.State.{Journal as ModelJournal, State, with_journal, is_news}
use Rattle.model.specs.JournalChanges.{journal_answered}
use Rattle.model.specs.ServerChanges.{servers_raised}
use Rattle.model.specs.Deliveries.{took, took_if, is_due_write, raised, writes_answered, took_and_returned}
use Rattle.sending.specs.declared.memory.Memory.{Memory}
use Rattle.sending.specs.View.{memory_state}

-- the journal with another last mark
abbrev with_mark : ModelJournal → ℕ → ModelJournal
with_mark j mark = record {
  used = j.used;
  mark = mark;
  is_write = j.is_write;
  client = j.client;
  server = j.server;
  begin_mark = j.begin_mark;
  answered = j.answered;
  answer_mark = j.answer_mark;
  given_up = j.given_up;
  tag = j.tag;
  threshold = j.threshold;
  gave = j.gave;
}

-- a row that is not news changes nothing
pub an_old_row_is_not_taken : (s : State) (p r : ℕ) → is_news s p r ≡ false → s ≡ took s p r
an_old_row_is_not_taken s p r old =
    let mark : s.journal.mark ≡ s.journal.mark + count (λ k. false) s.journal.used = (let none = nothing_passes (λ k. false) s.journal.used (λ k l. refl) in omega arith) in
    let left : s ≡ took_if false s p r = ap (λ m. with_journal s (with_mark s.journal m)) mark in
    left ∙ ap (λ news. took_if news s p r) (sym old)

-- a row is taken, the returned tag raised to its tag, and the writes up to the returned tag are answered: the row is returned
pub a_taken_row_is_returned : (m m' m'' : Memory) (w : Waiting) (p r tag returned : ℕ)
    → memory_state m' w ≡ took (memory_state m w) p r
    → tag ≡ (view m'.journal).tag r
    → ChangedAt p m'.fleet (servers_raised (servers m'.fleet) p tag) m''.fleet
    → p < 8
    → returned ≡ (servers m''.fleet).returned p
    → view m''.journal ≡ journal_answered (view m'.journal) (is_due_write (view m'.journal) p returned) 0
    → memory_state m'' w ≡ took_and_returned (memory_state m w) p r
a_taken_row_is_returned m m' m'' w p r tag returned taken tag_is change low returned_is answers =
    let s = memory_state m w in
    let s' = memory_state m' w in
    let settled : view m''.journal ≡ (writes_answered (raised s' p tag) p).journal =
    answers ∙ ap (λ t. journal_answered (view m'.journal) (is_due_write (view m'.journal) p t) 0) (returned_is ∙ ap (λ v. v.returned p) (change.kept low)) in
    let parts : memory_state m'' w ≡ writes_answered (raised s' p tag) p = (λ i. record { size = change.size i; journal = settled i; servers = change.kept low i; waiting = w }) in
    let same_tag : tag ≡ s.journal.tag r = tag_is ∙ ap (λ x. x.journal.tag r) taken in
    parts ∙ (λ i. writes_answered (raised (taken i) p (same_tag i)) p)
