-- Why `seed_of` meets its contract.
use Rattle.std.specs.Prelude.{codes}
use Rattle.std.proofs.Common.{refl, subst, ◌∙◌}
use Rattle.clap.specs.Words.{found_of}
use Rattle.clap.proofs.WalkLemmas.{first_value-rows}
use Rattle.cfarm_command_line_tasks.specs.Words.{Reads}
use Rattle.cfarm_command_line_others.proofs.Commands.{reads_of}
use Rattle.cfarm_command_line.proofs.build_words.seed_of.Goals as goal

pub returns-in-Some : goal.returns-in-Some
returns-in-Some c = subst (λ o. Reads 64 o c.unwrap_or.result) (c.in-Some.ensures ∙ first_value-rows (found_of c.args.words.now) (codes "seed")) (rw c.unwrap_or.ensures (reads_of 64 c.in-Some.text.now c.parse.result c.parse.ensures.value.0))

pub returns-in-None : goal.returns-in-None
returns-in-None c = subst (λ o. Reads 64 o 0) (c.in-None.ensures ∙ first_value-rows (found_of c.args.words.now) (codes "seed")) refl
