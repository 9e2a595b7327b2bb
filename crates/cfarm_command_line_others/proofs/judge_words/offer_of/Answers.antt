-- Why `offer_of` meets its clauses `none` and `some`.
use Rattle.std.specs.Prelude.{◌≡◌, Some, None, codes}
use Rattle.std.proofs.Common.{sym, ◌∙◌}
use Rattle.clap.specs.Words.{found_of}
use Rattle.clap.proofs.WalkLemmas.{first_value-rows}
use Rattle.cfarm_command_line_others.proofs.judge_words.offer_of.Goals as goal

pub returns-in_default-clause-none : goal.returns-in_default-clause-none
returns-in_default-clause-none c = λ _ o are.
    let given : None ≡ Some o.function.now = c.in_default.ensures ∙ first_value-rows (found_of c.args.words.now) (codes "function") ∙ are.function in
    absurd (cc given)

pub returns-in_default-get_str-clause-none : goal.returns-in_default-get_str-clause-none
returns-in_default-get_str-clause-none c = λ _ o are.
    let given : None ≡ Some o.path.now = c.in_default-get_str.ensures ∙ first_value-rows (found_of c.args.words.now) (codes "offer") ∙ are.path in
    absurd (cc given)

pub returns-clause-some : goal.returns-clause-some
returns-clause-some c = record {
  function = sym (c.in-Some.ensures ∙ first_value-rows (found_of c.args.words.now) (codes "function"));
  path = sym (c.in-Some-get_str.ensures ∙ first_value-rows (found_of c.args.words.now) (codes "offer"));
}
