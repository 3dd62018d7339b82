-- The refusals that write and read have alike, one after the other. The idea: each test that does not hold passes on what comes after it.
use Rattle.std.proofs.Common.{◌≡◌, ℕ, ◌<◌, true, false, cond, ltb, leb, Some, Option, ap, ◌∙◌, arith}
use Rattle.std.proofs.lemmas.Bool.Decides.{nat_tests}
use Rattle.counting.specs.Below.{any}
use Rattle.model.specs.declared.Refusal.{Refusal}
use Rattle.model.specs.declared.Refusal.TheVariants.{NoClient, Busy, Full}
use Rattle.model.specs.State.{State, is_open_of}
use Rattle.model.specs.Refusals.{refuse, refuse_server}
use Rattle.requests.specs.Beginning.{refuse_begin}

module _ (s : State) (c p : ℕ) (low : c < 16) (later : Option Refusal) where
  -- what comes after the server's refusals
  abbrev after_server : Option Refusal
  after_server = refuse (any (is_open_of s.journal c) 256) Busy (refuse (leb 256 s.journal.used) Full later)

  -- a client below 16 passes
  to_the_server : refuse_begin s c p later ≡ refuse_server s p after_server
  to_the_server = let client : ltb 15 c ≡ false = grind (arith, nat_tests) in ap (λ b. cond b (Some NoClient) (refuse_server s p after_server)) client

  pub a_refused_server_refuses : (o : Option Refusal) → ((then : Option Refusal) → refuse_server s p then ≡ o) → refuse_begin s c p later ≡ o
  a_refused_server_refuses o is = to_the_server ∙ is after_server

  module _ (passes : (then : Option Refusal) → refuse_server s p then ≡ then) where
    to_the_journal : refuse_begin s c p later ≡ after_server
    to_the_journal = to_the_server ∙ passes after_server

    pub an_open_operation_refuses : any (is_open_of s.journal c) 256 ≡ true → refuse_begin s c p later ≡ Some Busy
    an_open_operation_refuses busy = to_the_journal ∙ ap (λ b. cond b (Some Busy) (refuse (leb 256 s.journal.used) Full later)) busy

    module _ (free : any (is_open_of s.journal c) 256 ≡ false) where
      to_the_rows : refuse_begin s c p later ≡ refuse (leb 256 s.journal.used) Full later
      to_the_rows = to_the_journal ∙ ap (λ b. cond b (Some Busy) (refuse (leb 256 s.journal.used) Full later)) free

      pub a_full_journal_refuses : leb 256 s.journal.used ≡ true → refuse_begin s c p later ≡ Some Full
      a_full_journal_refuses full = to_the_rows ∙ ap (λ b. cond b (Some Full) later) full

      pub nothing_refuses : leb 256 s.journal.used ≡ false → refuse_begin s c p later ≡ later
      nothing_refuses room = to_the_rows ∙ ap (λ b. cond b (Some Full) later) room
