-- Why `paths_of` meets its clauses `none` and `some`.
use Rattle.std.specs.Prelude.{◌≡◌, Some, None, codes}
use Rattle.std.proofs.Common.{sym, ◌∙◌}
use Rattle.clap.specs.Words.{found_of}
use Rattle.clap.proofs.WalkLemmas.{first_value-rows}
use Rattle.cfarm_command_line_others.proofs.verify_words.paths_of.Goals as goal

pub returns-in_default-clause-none : goal.returns-in_default-clause-none
returns-in_default-clause-none c = λ _ p are.
    let given : None ≡ Some p.program.now = c.in_default.ensures ∙ first_value-rows (found_of c.args.words.now) (codes "program") ∙ are.program in
    absurd (cc given)

pub returns-in_default-get_str-clause-none : goal.returns-in_default-get_str-clause-none
returns-in_default-get_str-clause-none c = λ _ p are.
    let given : None ≡ Some p.bundle.now = c.in_default-get_str.ensures ∙ first_value-rows (found_of c.args.words.now) (codes "bundle") ∙ are.bundle in
    absurd (cc given)

pub returns-clause-some : goal.returns-clause-some
returns-clause-some c = record {
  program = sym (c.in-Some.ensures ∙ first_value-rows (found_of c.args.words.now) (codes "program"));
  bundle = sym (c.in-Some-get_str.ensures ∙ first_value-rows (found_of c.args.words.now) (codes "bundle"));
  native = sym (first_value-rows (found_of c.args.words.now) (codes "native")) ∙ sym c.get_str-3.ensures;
}
