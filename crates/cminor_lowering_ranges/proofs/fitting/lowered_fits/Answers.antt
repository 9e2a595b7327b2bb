-- Why `lowered_fits` meets its clauses `globals` and `fits`.
use Rattle.std.proofs.Common.{All, sym, subst}
use Rattle.std.specs.List.{AllByRecursion}
use Rattle.c_program.specs.Views.{function_tree}
use Rattle.cminor_syntax.specs.Fits.{IsFunction}
use Rattle.cminor_lowering.specs.Programs.{low}
use Rattle.cminor_lowering.specs.Held.{IsHeldFunction, IsHeldProgram}
use Rattle.cminor_lowering_ranges.specs.Globals.{IsSized}
use Rattle.cminor_lowering_ranges.proofs.Rows.{functions_held, each_of}
use Rattle.cminor_lowering_ranges.proofs.Programs.{globals_sized, program_fits}
use Rattle.cminor_lowering_ranges.proofs.fitting.lowered_fits.Goals as goal

pub returns-clause-globals : goal.returns-clause-globals
returns-clause-globals c =
    let k = c.known.ensures in
    each_of IsSized c.args.program.now.globals (subst (λ p. AllByRecursion IsSized p.globals) (sym k.3) (globals_sized k.0 k.2))

pub returns-clause-fits : goal.returns-clause-fits
returns-clause-fits c =
    let k = c.known.ensures in
    let fs = c.args.program.now.functions in
    let each = subst (All (λ f. IsHeldFunction (function_tree f))) c.functions.ensures c.functions_held.ensures in
    let held = functions_held fs each in
    subst (λ p. AllByRecursion (λ f. IsFunction f.function) (low p).functions) (sym k.3) (program_fits k.0 k.1 k.2 (subst IsHeldProgram k.3 held))
