-- Why `fsck_options_of` meets its clauses `none` and `some`.
use Rattle.std.specs.Prelude.{◌≡◌, Some, None, codes}
use Rattle.std.proofs.Common.{refl, sym, ◌∙◌}
use Rattle.clap.specs.Words.{found_of}
use Rattle.clap.proofs.WalkLemmas.{first_value-rows}
use Rattle.cfarm_command_line.proofs.fsck_words.fsck_options_of.Goals as goal

pub returns-in_default-clause-none : goal.returns-in_default-clause-none
returns-in_default-clause-none c = λ _ o are.
    c.in_default.ensures.none refl are.nodes (first_value-rows (found_of c.args.words.now) (codes "nodes") ∙ are.named)

pub returns-in_default-get_str-clause-none : goal.returns-in_default-get_str-clause-none
returns-in_default-get_str-clause-none c = λ _ o are.
    let given : None ≡ Some o.folder.now = c.in_default-get_str.ensures ∙ first_value-rows (found_of c.args.words.now) (codes "dir") ∙ are.folder in
    absurd (cc given)

pub returns-clause-some : goal.returns-clause-some
returns-clause-some c = record {
  nodes = c.in-Some.nodes;
  promise = c.size_of.result;
  accept = c.size_of-2.result;
  named = sym (first_value-rows (found_of c.args.words.now) (codes "nodes")) ∙ c.in-Some.ensures.some;
  promised = c.size_of.ensures;
  accepted = c.size_of-2.ensures;
  sizes = c.sizes_among.ensures;
  folder = sym (c.in-Some-get_str.ensures ∙ first_value-rows (found_of c.args.words.now) (codes "dir"));
}
