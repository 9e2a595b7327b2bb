-- Why `list` meets its contract.
use Rattle.std.specs.Prelude.{codes}
use Rattle.std.proofs.Common.{ap, ◌∙◌}
use Rattle.clap.specs.Words.{new_app}
use Rattle.clap.specs.Simple.{app_of_fields}
use Rattle.cfarm_command_line_tasks.specs.Words.{file_rule}
use Rattle.cfarm_command_line_others.proofs.log_words.list.Goals as goal

pub returns : goal.returns
returns c =
    c.with_argument.ensures (new_app (codes "log")) file_rule (
      ap app_of_fields c.after_help-plain.ensures ∙ ap app_of_fields c.about.ensures ∙ c.new.ensures.app,
      ap (λ f. f.has_globals) c.after_help-plain.ensures ∙ ap (λ f. f.has_globals) c.about.ensures ∙ c.new.ensures.local,
    )
    c.file.ensures
