use Rattle.cfarm_shown_paths.proofs.Characters.{shown_plain}
use Rattle.cfarm_shown_paths.proofs.laws.shown_is_plain.Goals as goal

pub returns : goal.returns
returns c = shown_plain c.args.path.now c.utf8.path
