-- Why `one_program` meets its contract.
use Rattle.lang.proofs.Whole as whole
use Rattle.lang.proofs.laws.one_program.Goals as goal

pub returns : goal.returns
returns g c = whole.one_program g.L.Language.TAG g.L.Language.spelling g.L.Language.fits g.met.L.Language.one_spelling
