-- Why `path_of` meets its contract.
use Rattle.std.proofs.Common.{sym, ◌∙◌}
use Rattle.clap.specs.Words.{found_of}
use Rattle.clap.proofs.WalkLemmas.{first_value-rows}
use Rattle.cfarm_command_line.proofs.build_words.path_of.Goals as goal

pub returns : goal.returns
returns c = sym (first_value-rows (found_of c.args.words.now) c.args.name.now) ∙ sym c.get_str.ensures
