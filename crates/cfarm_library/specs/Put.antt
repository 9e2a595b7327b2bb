-- What a call puts where C finds it.
use Rattle.std.specs.Prelude.{ℕ}
use Rattle.cfarm_library_answers.specs.Answered.{Answers, Coming}
use Rattle.cfarm_library.specs.declared.answering.CfarmAnswer.{CfarmAnswer}

-- the status and the bytes of a command that comes to this, or that memory was refused
abbrev pub Puts : Coming → ℕ → CfarmAnswer → Type 0
Puts Comes status it = Answers Comes status it.bytes.now it.written
