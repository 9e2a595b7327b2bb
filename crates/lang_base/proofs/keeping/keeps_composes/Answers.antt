-- Why `keeps_composes` meets its contract.
use Rattle.lang_base.proofs.Composition.{keeps-composes}
use Rattle.lang_base.proofs.keeping.keeps_composes.Goals as goal

pub returns : goal.returns
returns c = keeps-composes
