use Rattle.cfarm_shown_paths.proofs.Characters.{plain_shown}
use Rattle.cfarm_shown_paths.proofs.laws.plain_stays.Goals as goal

pub returns : goal.returns
returns c = plain_shown c.args.path.now c.utf8.path
