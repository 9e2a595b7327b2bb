-- Why `explaining_of` meets its clauses `some` and `none`.
use Rattle.std.specs.Prelude.{codes}
use Rattle.std.proofs.Common.{sym, ◌∙◌}
use Rattle.std.proofs.lemmas.Option.{IfSome_then}
use Rattle.clap.specs.Words.{found_of}
use Rattle.clap.proofs.WalkLemmas.{first_value-rows}
use Rattle.cfarm_command_line_others.proofs.explain_words.explaining_of.Goals as goal

pub returns-clause-some : goal.returns-clause-some
returns-clause-some c =
    IfSome_then c.explaining_found.result c.explaining_found.ensures.some (λ e h. sym (first_value-rows (found_of c.args.words.now) (codes "explain")) ∙ h)

pub returns-clause-none : goal.returns-clause-none
returns-clause-none c = λ none e is. c.explaining_found.ensures.none none e (first_value-rows (found_of c.args.words.now) (codes "explain") ∙ is)
