-- Why `resume` meets its contract.
use Rattle.std.proofs.Common.{refl, ap, ◌∙◌}
use Rattle.std.proofs.lemmas.List.{with_items_is}
use Rattle.std.specs.Vec.{with_items}
use Rattle.machine.specs.Frames.{after_call}
use Rattle.linear_faults_run.specs.declared.words.Words.{Words}
use Rattle.linear_faults_run.proofs.Resuming.{resumes}
use Rattle.linear_faults_run.proofs.returning.resume.Goals as goal

pub returns-in-Some : goal.returns-in-Some
returns-in-Some c =
    let words = c.args.caller.words in
    let lost : Words = record { registers = with_items words.registers c.lose.new.registers; slots = words.slots } in
    resumes c.args.run.now c.args.caller c.args.given c.in-Some.location lost c.put.new.words c.in-Some.is
    (with_items_is words.registers c.lose.new.registers (c.lose.auto.registers ∙ c.deref_mut.ensures.len) ∙ c.lose.ensures ∙ ap after_call c.deref_mut.ensures.value) refl
    c.put.ensures
