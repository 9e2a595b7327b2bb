-- Why `expected_of` meets its contract.
use Rattle.std.specs.Prelude.{codes}
use Rattle.std.proofs.Common.{refl, subst, ◌∙◌, None}
use Rattle.clap.specs.Words.{found_of}
use Rattle.clap.proofs.WalkLemmas.{first_value-rows}
use Rattle.cfarm_command_line_tasks.specs.Words.{ReadsSigned}
use Rattle.cfarm_command_line_others.proofs.Commands.{reads_signed}
use Rattle.cfarm_command_line_others.proofs.run_words.expected_of.Goals as goal

pub returns-in-Some : goal.returns-in-Some
returns-in-Some c =
    subst (λ o. ReadsSigned o c.ok.result) (c.in-Some.ensures ∙ first_value-rows (found_of c.args.words.now) (codes "expect"))
    (rw c.ok.ensures.value (reads_signed c.in-Some.text.now c.parse.result c.parse.ensures.value.0))

pub returns-in-None : goal.returns-in-None
returns-in-None c = subst (λ o. ReadsSigned o None) (c.in-None.ensures ∙ first_value-rows (found_of c.args.words.now) (codes "expect")) refl
