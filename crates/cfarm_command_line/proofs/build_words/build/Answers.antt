-- Why `build` meets its contract.
use Rattle.std.specs.Prelude.{codes}
use Rattle.std.proofs.Common.{ap, ◌∙◌}
use Rattle.clap.specs.Words.{new_app}
use Rattle.clap.specs.Simple.{app_of_fields}
use Rattle.cfarm_command_line_tasks.specs.Words.{file_rule, folder_rule, optimise_rule, bundle_path_rule, offers_path_rule, seed_rule, turns_rule}
use Rattle.cfarm_command_line.proofs.build_words.build.Goals as goal

pub returns : goal.returns
returns c =
    let named = c.with_argument-named.ensures (new_app (codes "build")) file_rule (
      ap app_of_fields c.after_help-plain.ensures ∙ ap app_of_fields c.about.ensures ∙ c.new.ensures.app,
      ap (λ f. f.has_globals) c.after_help-plain.ensures ∙ ap (λ f. f.has_globals) c.about.ensures ∙ c.new.ensures.local,
    )
    c.file.ensures in
    let counted = c.sized-counted.ensures _ named in
    let bounded = c.with_argument-bounded.ensures _ turns_rule counted c.turns.ensures in
    let seeded = c.with_argument-seeded.ensures _ seed_rule bounded c.seed.ensures in
    let optimised = c.with_argument-optimised.ensures _ (optimise_rule c.args.choices) seeded c.optimise.ensures in
    let placed = c.with_argument-placed.ensures _ folder_rule optimised c.needed.ensures in
    let bundled = c.with_argument-bundled.ensures _ bundle_path_rule placed c.path.ensures in
    c.with_argument.ensures _ offers_path_rule bundled c.path-2.ensures
