-- Why `run` meets its clause `does`.
use Rattle.std.proofs.Common.{refl, inl, inr}
use Rattle.cfarm_program.proofs.Placing.{keeps_files}
use Rattle.cfarm_program.proofs.program.run.Goals as goal

pub returns-in-Ok-Some-clause-does : goal.returns-in-Ok-Some-clause-does
returns-in-Ok-Some-clause-does g c =
    let asked = c.in-Ok-Some.asked in
    let answers = rw c.in-Ok-Some.field-0-is at c.in-Ok-Some.ensures.answers in
    (c.offered-choices.result, c.offered-choices.ensures, inl (answers.0, asked.task, asked.path.now, answers.1.1, answers.1.0, c.run_task.ensures.does))

pub returns-in-Ok-None-clause-does : goal.returns-in-Ok-None-clause-does
returns-in-Ok-None-clause-does g c =
    let answers = rw c.in-Ok-None.field-0-is at c.in-Ok-None.ensures.answers in
    (c.offered-choices.result, c.offered-choices.ensures, inr (inr (keeps_files _ _, (answers.0, answers.1.1), refl, refl, refl)))

pub returns-in-Err-clause-does : goal.returns-in-Err-clause-does
returns-in-Err-clause-does g c = (
  c.offered-choices.result,
  c.offered-choices.ensures,
  inr (inl (record {
    keeps = keeps_files _ _;
    fault = c.in-Err.fault;
    kind = c.in-Err.ensures.wrong;
    only = c.in-Err.ensures.refused;
    answered = c.tell_refused.ensures.told;
  })),
)
