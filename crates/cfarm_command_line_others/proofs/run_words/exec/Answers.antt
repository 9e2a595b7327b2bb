-- Why `exec` meets its contract.
use Rattle.std.specs.Prelude.{codes}
use Rattle.std.proofs.Common.{ap, ◌∙◌}
use Rattle.clap.specs.Words.{new_app}
use Rattle.clap.specs.Simple.{app_of_fields}
use Rattle.cfarm_command_line_tasks.specs.Words.{expect_rule, explain_rule, file_rule, limit_rule}
use Rattle.cfarm_command_line_others.proofs.run_words.exec.Goals as goal

pub returns : goal.returns
returns c =
    let named = c.with_argument-named.ensures (new_app (codes "exec")) file_rule (
      ap app_of_fields c.after_help-plain.ensures ∙ ap app_of_fields c.about.ensures ∙ c.new.ensures.app,
      ap (λ f. f.has_globals) c.after_help-plain.ensures ∙ ap (λ f. f.has_globals) c.about.ensures ∙ c.new.ensures.local,
    )
    c.file.ensures in
    let bounded = c.with_argument-bounded.ensures _ (limit_rule c.args.bounds c.args.choices) named c.limit.ensures in
    let expected = c.with_argument-expected.ensures _ expect_rule bounded c.expect.ensures in
    c.with_argument.ensures _ explain_rule expected c.explain.ensures
