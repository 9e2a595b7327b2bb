-- Why `statuses` meets its contract.
use Rattle.std.specs.Prelude.{true}
use Rattle.std.proofs.Common.{ap, ◌∙◌}
use Rattle.clap.specs.Simple.{app_of_fields, on_top}
use Rattle.cfarm_command_line.proofs.command_line.statuses.Goals as goal

pub returns : goal.returns
returns c =
    let plain = ap app_of_fields c.about.ensures ∙ c.new.ensures.app in
    let helped = ap app_of_fields c.arg_required_else_help.ensures ∙ ap (on_top (λ s. record s { arg_required_else_help = true })) plain in (
      ap app_of_fields c.override_help.ensures ∙ helped,
      ap (λ f. f.has_globals) c.override_help.ensures
          ∙ ap (λ f. f.has_globals) c.arg_required_else_help.ensures ∙ ap (λ f. f.has_globals) c.about.ensures ∙ c.new.ensures.local,
    )
