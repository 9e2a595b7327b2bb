-- Why `options_of` meets its clauses `none` and `some`.
use Rattle.std.specs.Prelude.{◌≡◌, Some, None, codes}
use Rattle.std.proofs.Common.{refl, sym, ◌∙◌}
use Rattle.clap.specs.Words.{found_of}
use Rattle.clap.proofs.WalkLemmas.{first_value-rows}
use Rattle.cfarm_command_line.proofs.build_words.options_of.Goals as goal

pub returns-in_default-clause-none : goal.returns-in_default-clause-none
returns-in_default-clause-none c = λ _ o are.
    c.in_default.ensures.none refl o.nodes (first_value-rows (found_of c.args.words.now) (codes "nodes") ∙ are.nodes)

pub returns-in_default-optimise_of-clause-none : goal.returns-in_default-optimise_of-clause-none
returns-in_default-optimise_of-clause-none c = λ _ o are.
    c.in_default-optimise_of.ensures.none refl o.optimise (first_value-rows (found_of c.args.words.now) (codes "optimise") ∙ are.optimise)

pub returns-in_default-get_str-clause-none : goal.returns-in_default-get_str-clause-none
returns-in_default-get_str-clause-none c = λ _ o are.
    let given : None ≡ Some o.folder.now = c.in_default-get_str.ensures ∙ first_value-rows (found_of c.args.words.now) (codes "dir") ∙ are.folder in
    absurd (cc given)

pub returns-clause-some : goal.returns-clause-some
returns-clause-some c = record {
  nodes = sym (first_value-rows (found_of c.args.words.now) (codes "nodes")) ∙ c.in-Some.ensures.some;
  promise = c.size_of.ensures;
  accept = c.size_of-2.ensures;
  turns = c.turns_of.ensures;
  seed = c.seed_of.ensures;
  optimise = sym (first_value-rows (found_of c.args.words.now) (codes "optimise")) ∙ c.in-Some-optimise_of.ensures.some;
  folder = sym (c.in-Some-get_str.ensures ∙ first_value-rows (found_of c.args.words.now) (codes "dir"));
  bundle = c.path_of.ensures;
  offers = c.path_of-2.ensures;
}
