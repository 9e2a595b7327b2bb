-- Why `push_program` may call `push_head` and `push_functions`.
use Rattle.std.proofs.Common.{[]}
use Rattle.lang.proofs.Texts.{globals_short, functions_short}
use Rattle.lang.proofs.programs.push_program.Goals as goal

pub push_head-requires-clause-short : goal.push_head-requires-clause-short
push_head-requires-clause-short g c = rw c.as_slice.ensures (globals_short c.args.program.now.globals c.requires.globals c.requires.few_cells)

pub push_functions-requires-after_bounds : goal.push_functions-requires-after_bounds
push_functions-requires-after_bounds g c κs within = rw c.as_slice-functions.ensures (functions_short g.L.Language.fits [] c.args.program.now.functions c.requires.functions)
