-- How many globals, cells and functions a well formed text has.
use Rattle.std.proofs.Common.{◌≡◌, ℕ, ◌+◌, ◌≤◌, List, [], ◌∷◌, length, map, arith}
use Rattle.c_checker_scopes.specs.Bound.{Bound}
use Rattle.c_syntax.specs.Trees.{DeclarationTree}
use Rattle.c_syntax.specs.Trees as T
use Rattle.c_checker_rules.specs.Units.{File, behind, naming, globals_from, functions_from, declarations_faults}
use Rattle.cminor_syntax.specs.Fits.{global_limit, function_limit}
use Rattle.cminor_lowering.specs.Programs.{low_global}
use Rattle.cminor_lowering_ranges.proofs.Globals.{within}
use Rattle.cminor_lowering_ranges.proofs.Programs.{first_none, rest_none, name_none}
use Rattle.lang.specs.Form.{cells_of_all, cell_limit}

module _ (all : List (Bound ℕ)) where
  pub few_globals : (file : File) (ds : List DeclarationTree) → file.globals ≤ global_limit → declarations_faults all file ds ≡ [] → file.globals + length (globals_from file ds) ≤ global_limit
  few_globals file [] few none = omega arith
  few_globals file (T.Global g ∷ ds) few none =
      let here = within file.scope file.globals file.cells g (first_none all file (T.Global g) ds none) in
      let number = here.number in
      let rest = few_globals (behind file (T.Global g)) ds number (rest_none all file (T.Global g) ds none) in
      omega arith
  few_globals file (T.Function g ∷ ds) few none = few_globals (behind file (T.Function g)) ds few (rest_none all file (T.Function g) ds none)
  few_globals file (T.Prototype' p ∷ ds) few none = few_globals (behind file (T.Prototype' p)) ds few (rest_none all file (T.Prototype' p) ds none)

  pub few_cells : (file : File) (ds : List DeclarationTree) → file.cells ≤ cell_limit → declarations_faults all file ds ≡ [] → file.cells + cells_of_all (map low_global (globals_from file ds)) ≤ cell_limit
  few_cells file [] few none = omega arith
  few_cells file (T.Global g ∷ ds) few none =
      let here = within file.scope file.globals file.cells g (first_none all file (T.Global g) ds none) in
      let rest = few_cells (behind file (T.Global g)) ds here.all (rest_none all file (T.Global g) ds none) in
      omega arith
  few_cells file (T.Function g ∷ ds) few none = few_cells (behind file (T.Function g)) ds few (rest_none all file (T.Function g) ds none)
  few_cells file (T.Prototype' p ∷ ds) few none = few_cells (behind file (T.Prototype' p)) ds few (rest_none all file (T.Prototype' p) ds none)

  pub few_functions : (file : File) (ds : List DeclarationTree) → file.defined ≤ function_limit → declarations_faults all file ds ≡ [] → file.defined + length (functions_from all file ds) ≤ function_limit
  few_functions file [] few none = omega arith
  few_functions file (T.Global g ∷ ds) few none = few_functions (behind file (T.Global g)) ds few (rest_none all file (T.Global g) ds none)
  few_functions file (T.Function g ∷ ds) few none =
      let number = name_none all file g (first_none all file (T.Function g) ds none) in
      let rest = few_functions (naming file g) ds number (rest_none all file (T.Function g) ds none) in
      omega arith
  few_functions file (T.Prototype' p ∷ ds) few none = few_functions (behind file (T.Prototype' p)) ds few (rest_none all file (T.Prototype' p) ds none)
