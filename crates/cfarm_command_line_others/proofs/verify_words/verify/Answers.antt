-- Why `verify` meets its contract.
use Rattle.std.specs.Prelude.{codes}
use Rattle.std.proofs.Common.{ap, ◌∙◌}
use Rattle.clap.specs.Words.{new_app}
use Rattle.clap.specs.Simple.{app_of_fields}
use Rattle.cfarm_command_line_tasks.specs.Words.{bundle_rule, file_rule, native_path_rule, program_rule}
use Rattle.cfarm_command_line_others.proofs.verify_words.verify.Goals as goal

pub returns : goal.returns
returns c =
    let named = c.with_argument-named.ensures (new_app (codes "verify")) file_rule (
      ap app_of_fields c.after_help-plain.ensures ∙ ap app_of_fields c.about.ensures ∙ c.new.ensures.app,
      ap (λ f. f.has_globals) c.after_help-plain.ensures ∙ ap (λ f. f.has_globals) c.about.ensures ∙ c.new.ensures.local,
    )
    c.file.ensures in
    let programmed = c.with_argument-programmed.ensures _ program_rule named c.needed.ensures in
    let bundled = c.with_argument-bundled.ensures _ bundle_rule programmed c.needed-2.ensures in
    c.with_argument.ensures _ native_path_rule bundled c.native.ensures
