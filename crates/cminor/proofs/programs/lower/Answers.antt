use Rattle.cminor.proofs.InRange.{each_in_range}
use Rattle.cminor.proofs.programs.lower.Goals as goal

pub lower_all-requires-clause-functions : goal.lower_all-requires-clause-functions
lower_all-requires-clause-functions c = each_in_range c.args.program.now.functions c.lowered_fits.ensures.fits
