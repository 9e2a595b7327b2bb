-- Why `bound_in` meets its contract.
use Rattle.std.proofs.Common.{refl, subst, ◌∙◌}
use Rattle.clap.specs.Words.{found_of}
use Rattle.clap.proofs.WalkLemmas.{first_value-rows}
use Rattle.cfarm_command_line_tasks.specs.Words.{ReadsBound}
use Rattle.cfarm_command_line_others.proofs.bound_words.bound_in.Goals as goal

pub returns-in-Some : goal.returns-in-Some
returns-in-Some c = subst (λ o. ReadsBound o c.bound_of.result) (c.in-Some.ensures ∙ first_value-rows (found_of c.args.words.now) c.args.name.now) c.bound_of.ensures

pub returns-in-None : goal.returns-in-None
returns-in-None c = subst (λ o. ReadsBound o 0) (c.in-None.ensures ∙ first_value-rows (found_of c.args.words.now) c.args.name.now) refl
