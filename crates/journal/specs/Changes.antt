-- What the calls of the journal make of the model's journal: the model's changes, each where it fits.
use Rattle.std.specs.Prelude.{ℕ, ◌+◌, Bool, cond, ◌&&◌, ◌==◌, nat_le}
use Rattle.model.specs.State.{Journal, is_open, is_queued, tag_number, tag_of}
use Rattle.model.specs.JournalChanges.{journal_begun, journal_tagged, journal_given_up, journal_answered}
use Rattle.journal.specs.Questions.{is_open_read}

-- an operation by client c at server p begins, unless all rows are used; a read waits for tag t
abbrev pub begun_unless_full : Journal → Bool → ℕ → ℕ → ℕ → Journal
begun_unless_full j write c p t = cond (nat_le 256 j.used) j (journal_begun j write c p t)

-- the write of row r, if it is queued at p, starts under the tag of p with the number after that of row `above`
abbrev pub started_if_queued : Journal → ℕ → ℕ → ℕ → Journal
started_if_queued j r p above = cond (is_queued j p r) (journal_tagged j r (tag_of (1 + tag_number (j.tag above)) p)) j

-- the operation of row r, if it is open, is given up
abbrev pub given_up_if_open : Journal → ℕ → Journal
given_up_if_open j r = cond (is_open j r) (journal_given_up j r) j

-- the read of row r, if it is open, is answered and gives another row
abbrev pub read_answered : Journal → ℕ → ℕ → Journal
read_answered j r given = journal_answered j (λ k. (k == r) && is_open_read j k) given
