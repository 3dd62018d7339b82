-- What each event makes of an operation that it fits: the next state, and what that state says.
-- By cases of the state; where the event does not fit, the test given as a premise is false.
use Rattle.std.proofs.Common.{◌≡◌, ℕ, ◌<◌, Bool, true, false, cond, not, ◌&&◌, eqb, ltb, refl, ap, ◌∙◌, arith}
use Rattle.std.proofs.lemmas.Bool.Decides.{nat_tests}
use Rattle.std.proofs.lemmas.Bool.{true≢false, false≢true, not-true, and_parts}
use Rattle.messages.specs.declared.Row.{Row}
use Rattle.operation.specs.declared.tag.Tag.{Tag}
use Rattle.operation.specs.declared.operation.Operation.{Operation}
use Rattle.operation.specs.declared.operation.State.{State}
use Rattle.operation.specs.declared.operation.State.TheVariants.{Unused, Queued, Started, Written, Waiting, Told}
use Rattle.operation.specs.declared.operation.Event.TheVariants.{Begin, Start, Answer, GiveUp}
use Rattle.operation.specs.declared.operation.Request.{Request}
use Rattle.operation.specs.declared.operation.Request.TheVariants.{Write, Read}
use Rattle.operation.specs.Tags.{first_tag, tag_key}
use Rattle.operation.specs.Events.{in_state, abandoned, new_operation, first_state, after_in}
use Rattle.operation.specs.Parts.{is_taken, is_write, is_queued, is_started, has_tag, is_numbered, is_answered, answer_mark, state_tag, threshold_key, row_given, asks_to_write, threshold_asked, is_open, is_answerable}

-- an unused row takes a new operation
pub an_operation_begins : (o : Operation) (s : State) (c p mark : ℕ) (request : Request) → is_taken s ≡ false → after_in o s (Begin c p mark request) ≡ new_operation c p mark (first_state request)
an_operation_begins o Unused c p mark request e = refl
an_operation_begins o Queued c p mark request e = absurd (true≢false e)
an_operation_begins o (Started t) c p mark request e = absurd (true≢false e)
an_operation_begins o (Written t m) c p mark request e = absurd (true≢false e)
an_operation_begins o (Waiting t) c p mark request e = absurd (true≢false e)
an_operation_begins o (Told r m) c p mark request e = absurd (true≢false e)

-- what the first state of an operation says
pub record Fresh (s : State) (request : Request) : Type 0 where
  pub taken : is_taken s ≡ true
  pub write : is_write s ≡ asks_to_write request
  pub answered : is_answered s ≡ false
  pub mark : answer_mark s ≡ 0
  pub has_tag : has_tag s ≡ false
  pub tag : state_tag s ≡ first_tag
  pub numbered : is_numbered s ≡ true
  pub threshold : threshold_key s ≡ threshold_asked request
  pub gave : row_given s ≡ 0

pub the_first_state_is_fresh : (request : Request) → Fresh (first_state request) request
the_first_state_is_fresh Write = record { taken = refl; write = refl; answered = refl; mark = refl; has_tag = refl; tag = refl; numbered = refl; threshold = refl; gave = refl }
the_first_state_is_fresh (Read t) = record { taken = refl; write = refl; answered = refl; mark = refl; has_tag = refl; tag = refl; numbered = refl; threshold = refl; gave = refl }

-- a state that is not taken says nothing
pub record Blank (s : State) : Type 0 where
  pub answered : is_answered s ≡ false
  pub has_tag : has_tag s ≡ false
  pub tag : state_tag s ≡ first_tag

pub an_unused_state_is_blank : (s : State) → is_taken s ≡ false → Blank s
an_unused_state_is_blank Unused e = record { answered = refl; has_tag = refl; tag = refl }
an_unused_state_is_blank Queued e = absurd (true≢false e)
an_unused_state_is_blank (Started t) e = absurd (true≢false e)
an_unused_state_is_blank (Written t m) e = absurd (true≢false e)
an_unused_state_is_blank (Waiting t) e = absurd (true≢false e)
an_unused_state_is_blank (Told r m) e = absurd (true≢false e)

-- what a queued write says, and that it starts under a tag with a number above 0
pub record Queue (o : Operation) (s : State) (t : Tag) : Type 0 where
  pub starts : 0 < t.number → after_in o s (Start t) ≡ in_state o (Started t)
  pub taken : is_taken s ≡ true
  pub write : is_write s ≡ true
  pub answered : is_answered s ≡ false
  pub mark : answer_mark s ≡ 0
  pub has_tag : has_tag s ≡ false
  pub tag : state_tag s ≡ first_tag
  pub threshold : threshold_key s ≡ 0
  pub gave : row_given s ≡ 0

pub a_queued_write_starts : (o : Operation) (s : State) (t : Tag) → is_queued s ≡ true → Queue o s t
a_queued_write_starts o Unused t e = absurd (false≢true e)
a_queued_write_starts o Queued t e = record {
  starts = λ above. let b : ltb 0 t.number ≡ true = grind (arith, nat_tests) in ap (λ b. cond b (in_state o (Started t)) o) b;
  taken = refl;
  write = refl;
  answered = refl;
  mark = refl;
  has_tag = refl;
  tag = refl;
  threshold = refl;
  gave = refl;
}
a_queued_write_starts o (Started u) t e = absurd (false≢true e)
a_queued_write_starts o (Written u m) t e = absurd (false≢true e)
a_queued_write_starts o (Waiting u) t e = absurd (false≢true e)
a_queued_write_starts o (Told r m) t e = absurd (false≢true e)

-- the state t that an open operation in the state s gets by its answer
pub record Answered (s t : State) (row m : ℕ) : Type 0 where
  pub before : is_answered s ≡ false
  pub gave_before : row_given s ≡ 0
  pub taken : is_taken t ≡ is_taken s
  pub write : is_write t ≡ is_write s
  pub answered : is_answered t ≡ true
  pub mark : answer_mark t ≡ m
  pub has_tag : has_tag t ≡ has_tag s
  pub tag : state_tag t ≡ state_tag s
  pub numbered : is_numbered t ≡ true
  pub threshold : threshold_key t ≡ 0
  pub gave : row_given t ≡ cond (is_write s) 0 row

-- o after its answer
pub record Answers (o : Operation) (s : State) (row : Row) (mark : ℕ) : Type 0 where
  pub state : State
  pub is : after_in o s (Answer row mark) ≡ in_state o state
  pub says : Answered s state row.0 mark

pub an_answer_fits : (o : Operation) (s : State) (row : Row) (mark : ℕ) → ((is_taken s && (not (is_answered s) && not o.given_up)) && not (is_queued s)) ≡ true → Answers o s row mark
an_answer_fits o Unused row mark e = absurd (false≢true e)
an_answer_fits o Queued row mark e = absurd (let z = and_parts (not o.given_up) false e in false≢true z.1)
an_answer_fits o (Started t) row mark e = record {
  state = Written t mark;
  is = ap (λ b. cond b o (in_state o (Written t mark))) (not-true o.given_up (and_parts (not o.given_up) true e).0);
  says = record { before = refl; gave_before = refl; taken = refl; write = refl; answered = refl; mark = refl; has_tag = refl; tag = refl; numbered = refl; threshold = refl; gave = refl };
}
an_answer_fits o (Written t m) row mark e = absurd (false≢true e)
an_answer_fits o (Waiting t) row mark e = record {
  state = Told row mark;
  is = ap (λ b. cond b o (in_state o (Told row mark))) (not-true o.given_up (and_parts (not o.given_up) true e).0);
  says = record { before = refl; gave_before = refl; taken = refl; write = refl; answered = refl; mark = refl; has_tag = refl; tag = refl; numbered = refl; threshold = refl; gave = refl };
}
an_answer_fits o (Told r m) row mark e = absurd (false≢true e)

-- an open operation is given up
pub an_open_operation_is_given_up : (o : Operation) (s : State) → (is_taken s && (not (is_answered s) && not o.given_up)) ≡ true → after_in o s GiveUp ≡ abandoned o
an_open_operation_is_given_up o Unused e = absurd (false≢true e)
an_open_operation_is_given_up o Queued e = refl
an_open_operation_is_given_up o (Started t) e = refl
an_open_operation_is_given_up o (Written t m) e = absurd (false≢true e)
an_open_operation_is_given_up o (Waiting t) e = refl
an_open_operation_is_given_up o (Told r m) e = absurd (false≢true e)

-- what is no write is not queued
pub a_read_is_not_queued : (s : State) → is_write s ≡ false → is_queued s ≡ false
a_read_is_not_queued Unused e = refl
a_read_is_not_queued Queued e = absurd (true≢false e)
a_read_is_not_queued (Started t) e = refl
a_read_is_not_queued (Written t m) e = refl
a_read_is_not_queued (Waiting t) e = refl
a_read_is_not_queued (Told r m) e = refl

-- where a started write has a number above 0, a queued write is one without a tag
pub a_queued_write_has_no_tag : (s : State) (x : Bool) → is_numbered s ≡ true → (is_taken s && (is_write s && (not (is_answered s) && (eqb (tag_key (state_tag s)) 0 && x)))) ≡ (is_queued s && x)
a_queued_write_has_no_tag Unused x n = refl
a_queued_write_has_no_tag Queued x n = refl
a_queued_write_has_no_tag (Started t) x n = let e : eqb (tag_key t) 0 ≡ false = grind (arith, nat_tests) in ap (λ b. b && x) e
a_queued_write_has_no_tag (Written t m) x n = refl
a_queued_write_has_no_tag (Waiting t) x n = refl
a_queued_write_has_no_tag (Told r m) x n = refl

-- and an open write has started where it has a tag
pub an_open_write_with_a_tag_has_started : (s : State) (g x : Bool) → is_numbered s ≡ true
    → ((is_taken s && (not (is_answered s) && g)) && (is_write s && (ltb 0 (tag_key (state_tag s)) && x))) ≡ ((is_taken s && (not (is_answered s) && g)) && (is_started s && x))
an_open_write_with_a_tag_has_started Unused g x n = refl
an_open_write_with_a_tag_has_started Queued g x n = refl
an_open_write_with_a_tag_has_started (Started t) g x n = let e : ltb 0 (tag_key t) ≡ true = grind (arith, nat_tests) in ap (λ b. g && (b && x)) e
an_open_write_with_a_tag_has_started (Written t m) g x n = refl
an_open_write_with_a_tag_has_started (Waiting t) g x n = refl
an_open_write_with_a_tag_has_started (Told r m) g x n = refl

-- an open read can be answered
pub an_open_read_is_answerable : (o : Operation) (x : Bool) → (is_open o && (not (is_write o.state) && x)) ≡ true → is_answerable o ≡ true
an_open_read_is_answerable o x e =
    let parts = and_parts (is_open o) (not (is_write o.state) && x) e in
    let read = and_parts (not (is_write o.state)) x parts.1 in
    let q = a_read_is_not_queued o.state (not-true (is_write o.state) read.0) in
    ap (λ b. b && not (is_queued o.state)) parts.0 ∙ ap (λ b. not b) q
