-- What a step says, and the meaning of its code.
use Rattle.std.specs.Prelude.{ℕ, cond, ◌&&◌, List, Some, None, Option, ◌==◌}
use Rattle.schedule.specs.declared.headers.WiringKind.{WiringKind}
use Rattle.schedule.specs.Headers.{is_line}
use Rattle.schedule.specs.declared.steps.Code.{Code}
use Rattle.schedule.specs.declared.steps.Code.TheVariants.{Write, Read, GiveUp, Turn, Deliver, Crash, Notice, Pick}
use Rattle.schedule.specs.declared.steps.Step.{Step}
use Rattle.schedule.specs.declared.steps.Step.TheVariants as step

-- The byte that a step begins with.
abbrev pub code_number : Code → ℕ
code_number Write = 1
code_number Read = 2
code_number GiveUp = 3
code_number Turn = 4
code_number Deliver = 5
code_number Crash = 6
code_number Notice = 7
code_number Pick = 8

-- The letters W, R, G, T, D, C, N and P.
abbrev pub code_letter : Code → ℕ
code_letter Write = 87
code_letter Read = 82
code_letter GiveUp = 71
code_letter Turn = 84
code_letter Deliver = 68
code_letter Crash = 67
code_letter Notice = 78
code_letter Pick = 80

-- The code that a byte stands for, if it stands for one.
abbrev pub code_of : ℕ → Option Code
code_of b =
    cond (b == code_number Write) (Some Write)
    (cond (b == code_number Read) (Some Read)
    (cond (b == code_number GiveUp) (Some GiveUp)
    (cond (b == code_number Turn) (Some Turn)
    (cond (b == code_number Deliver) (Some Deliver)
    (cond (b == code_number Crash) (Some Crash)
    (cond (b == code_number Notice) (Some Notice)
    (cond (b == code_number Pick) (Some Pick) None)))))))

-- The code that a byte stands for under a wiring: the line wiring knows no picks.
abbrev pub code_under : WiringKind → ℕ → Option Code
code_under wiring b = cond (is_line wiring && b == code_number Pick) None (code_of b)

-- What a step says, wherever the bytes of its value stand: its clients, servers, value and pick in the order of the format.
pub data PlainStep : Type 0 where
  write : ℕ → ℕ → List ℕ → PlainStep
  read : ℕ → ℕ → PlainStep
  give_up : ℕ → PlainStep
  turn : ℕ → PlainStep
  deliver : ℕ → PlainStep
  crash : ℕ → PlainStep
  notice : ℕ → ℕ → PlainStep
  pick : ℕ → PlainStep

-- What a step says.
abbrev pub plain_step : Step → PlainStep
plain_step (step.Write client server value) = write client server value.now
plain_step (step.Read client server) = read client server
plain_step (step.GiveUp client) = give_up client
plain_step (step.Turn server) = turn server
plain_step (step.Deliver server) = deliver server
plain_step (step.Crash server) = crash server
plain_step (step.Notice server crashed) = notice server crashed
plain_step (step.Pick n) = pick n

-- The code of a step.
abbrev pub step_code : Step → Code
step_code (step.Write client server value) = Write
step_code (step.Read client server) = Read
step_code (step.GiveUp client) = GiveUp
step_code (step.Turn server) = Turn
step_code (step.Deliver server) = Deliver
step_code (step.Crash server) = Crash
step_code (step.Notice server crashed) = Notice
step_code (step.Pick n) = Pick
