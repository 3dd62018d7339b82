-- The questions: amounts, and what is told of an answered operation.
use Rattle.std.specs.Prelude.{ℕ, ◌+◌, Bool, cond, not, Some, None, Option, ◌==◌, nat_le}
use Rattle.messages.specs.Waiting.{entry, waiting_count}
use Rattle.counting.specs.Below.{count, sum}
use Rattle.model.specs.declared.Refusal.{Refusal}
use Rattle.model.specs.declared.Refusal.TheVariants.{WrongRowCount, NotUsed, NotAnswered}
use Rattle.model.specs.State.{tag_number, tag_server, Journal, Servers, State, Shelf, is_queued}
use Rattle.model.specs.Refusals.{refuse}

-- AMOUNTS

-- how many entries p has to forward
abbrev pub forward_count : Servers → ℕ → ℕ
forward_count v p = sum (λ r. entry (v.forward_prewrite p r) + entry (v.forward_write p r)) 256

-- m: how many servers stand
abbrev pub standing_servers : State → ℕ
standing_servers s = count s.servers.standing s.size

-- w: how many messages wait for standing servers, and how many entries those have to forward
abbrev pub entries_under_way : State → ℕ
entries_under_way s = sum (λ p. cond (s.servers.standing p) (waiting_count s.waiting p + forward_count s.servers p) 0) s.size

-- q: how many writes are queued at standing servers, given up or not
abbrev pub queued_writes : State → ℕ
queued_writes s = sum (λ p. cond (s.servers.standing p) (count (is_queued s.journal p) 256) 0) s.size

-- the three numbers together; the question refuses nothing
abbrev pub amounts : State → ℕ × ℕ × ℕ
amounts s = (standing_servers s, entries_under_way s, queued_writes s)

-- ANSWER

-- the row whose tag and value are told: a write's own, or the one that a read gave
abbrev pub named_row : Journal → ℕ → ℕ
named_row j r = cond (j.is_write r) r (j.gave r)

-- row not used; not answered; not 256 value rows
abbrev pub refuse_answer : Journal → ℕ → ℕ → Option Refusal
refuse_answer j rows r = refuse (nat_le j.used r) NotUsed (refuse (not (j.answered r)) NotAnswered (refuse (not (rows == 256)) WrongRowCount None))

-- what is told of an operation: its tag, client, kind and value
pub record Telling (V : Type 0) : Type 0 where
  pub number : ℕ
  pub server : ℕ
  pub client : ℕ
  pub is_write : Bool
  pub value : V

-- the answer to the question, or why it is refused
pub data Reply (V : Type 0) : Type 0 where
  tells : Telling V → Reply V
  refuses : Refusal → Reply V

module _ {V : Type 0} where
  -- told unless refused
  abbrev pub reply : Option Refusal → Telling V → Reply V
  reply (Some reason) t = refuses reason
  reply None t = tells t

  -- what there is to tell of row r
  abbrev pub telling : Shelf V → ℕ → Telling V
  telling s r = record {
    number = tag_number (s.state.journal.tag (named_row s.state.journal r));
    server = tag_server (s.state.journal.tag (named_row s.state.journal r));
    client = s.state.journal.client r;
    is_write = s.state.journal.is_write r;
    value = s.values (named_row s.state.journal r);
  }

  -- answer
  abbrev pub answer : Shelf V → ℕ → Reply V
  answer s r = reply (refuse_answer s.state.journal s.rows r) (telling s r)
