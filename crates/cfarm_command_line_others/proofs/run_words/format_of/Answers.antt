-- Why `format_of` meets its clauses `some` and `none`.
use Rattle.std.specs.Prelude.{codes}
use Rattle.std.proofs.Common.{sym, ◌∙◌}
use Rattle.std.proofs.lemmas.Option.{IfSome_then}
use Rattle.clap.specs.Words.{found_of}
use Rattle.clap.proofs.WalkLemmas.{first_value-rows}
use Rattle.cfarm_command_line_others.proofs.run_words.format_of.Goals as goal

pub returns-clause-some : goal.returns-clause-some
returns-clause-some c =
    IfSome_then c.format_named.result c.format_named.ensures.some (λ f h. sym (first_value-rows (found_of c.args.words.now) (codes "format")) ∙ h)

pub returns-clause-none : goal.returns-clause-none
returns-clause-none c = λ none f is. c.format_named.ensures.none none f (first_value-rows (found_of c.args.words.now) (codes "format") ∙ is)
