-- Why `native_options_of` meets its contract.
use Rattle.std.specs.Prelude.{codes}
use Rattle.std.proofs.Common.{ap, sym, ◌∙◌}
use Rattle.clap.specs.Words.{found_of}
use Rattle.clap.proofs.WalkLemmas.{first_value-rows}
use Rattle.cfarm_command_line_tasks.specs.Words.{written_by}
use Rattle.cfarm_command_line.proofs.native_words.native_options_of.Goals as goal

pub returns : goal.returns
returns c = record {
  written = c.written_by.ensures ∙ ap written_by (c.get_str.ensures ∙ first_value-rows (found_of c.args.words.now) (codes "header"));
  output = sym (first_value-rows (found_of c.args.words.now) (codes "output")) ∙ sym c.get_str-2.ensures;
  prefix = sym (first_value-rows (found_of c.args.words.now) (codes "export")) ∙ sym c.get_str-3.ensures;
}
