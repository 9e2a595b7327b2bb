-- Why `native` meets its contract.
use Rattle.std.specs.Prelude.{codes}
use Rattle.std.proofs.Common.{ap, ◌∙◌}
use Rattle.clap.specs.Words.{new_app}
use Rattle.clap.specs.Simple.{app_of_fields}
use Rattle.cfarm_command_line_tasks.specs.Words.{export_rule, file_rule, header_rule, output_rule}
use Rattle.cfarm_command_line.proofs.native_words.native.Goals as goal

pub returns : goal.returns
returns c =
    let named = c.with_argument-named.ensures (new_app (codes "native")) file_rule (
      ap app_of_fields c.after_help-plain.ensures ∙ ap app_of_fields c.about.ensures ∙ c.new.ensures.app,
      ap (λ f. f.has_globals) c.after_help-plain.ensures ∙ ap (λ f. f.has_globals) c.about.ensures ∙ c.new.ensures.local,
    )
    c.file.ensures in
    let placed = c.with_argument-placed.ensures _ output_rule named c.output.ensures in
    let exported = c.with_argument-exported.ensures _ export_rule placed c.export.ensures in
    c.with_argument.ensures _ header_rule exported c.header.ensures
