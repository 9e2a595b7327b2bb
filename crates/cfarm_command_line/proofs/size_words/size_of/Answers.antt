-- Why `size_of` meets its contract.
use Rattle.std.proofs.Common.{refl, subst, ◌∙◌, Some, None}
use Rattle.clap.specs.Words.{found_of}
use Rattle.clap.proofs.WalkLemmas.{first_value-rows}
use Rattle.cfarm_command_line_tasks.specs.Words.{ReadsPerhaps}
use Rattle.cfarm_command_line_others.proofs.Commands.{reads_none, reads_some}
use Rattle.cfarm_command_line.proofs.size_words.size_of.Goals as goal

pub returns-in-Ok : goal.returns-in-Ok
returns-in-Ok c =
    subst (λ o. ReadsPerhaps 8 o (Some c.in-Ok.size)) (c.in-Some.ensures ∙ first_value-rows (found_of c.args.words.now) c.args.name.now)
    (reads_some 8 c.in-Some.text.now c.in-Ok.size c.parse.result c.in-Ok.is c.parse.ensures.value.0)

pub returns-in-Err : goal.returns-in-Err
returns-in-Err c =
    subst (λ o. ReadsPerhaps 8 o None) (c.in-Some.ensures ∙ first_value-rows (found_of c.args.words.now) c.args.name.now)
    (reads_none 8 c.in-Some.text.now c.in-Err.field-0 c.parse.result c.in-Err.is c.parse.ensures.value.0)

pub returns-in-None : goal.returns-in-None
returns-in-None c = subst (λ o. ReadsPerhaps 8 o None) (c.in-None.ensures ∙ first_value-rows (found_of c.args.words.now) c.args.name.now) refl
