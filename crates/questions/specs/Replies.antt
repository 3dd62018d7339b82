-- What is told of an operation, as the rules have it.
use Rattle.std.specs.Prelude.{Bool, true, false, Ok, Err, Result}
use Rattle.model.specs.declared.Refusal.{Refusal}
use Rattle.model.specs.Questions.{Reply, tells, refuses}
use Rattle.questions.specs.declared.answers.Kind.{Kind}
use Rattle.questions.specs.declared.answers.Kind.TheVariants.{Write, Read}
use Rattle.questions.specs.declared.answers.Answer.{Answer}

-- whether an operation of this kind is a write
abbrev pub writes : Kind → Bool
writes Write = true
writes Read = false

module _ {V : Type 0} where
  -- the reply that a result stands for
  abbrev pub reply_of : Result (Answer V) Refusal → Reply V
  reply_of (Ok a) = tells (record { number = a.tag.number; server = a.tag.server; client = a.client; is_write = writes a.kind; value = a.value })
  reply_of (Err reason) = refuses reason
