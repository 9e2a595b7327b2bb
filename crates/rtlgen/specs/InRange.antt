-- That translated functions are in range.
use Rattle.std.specs.Prelude.{◌≤◌, length}
use Rattle.cminor_syntax.specs.Trees.{FunctionTree}
use Rattle.cminor_syntax.specs.Fits as C
use Rattle.rtl_language.specs.Function as R
use Rattle.rtlgen_definition.specs.Gen.{gen_function}

-- a function in range is translated to one in range where the nodes can be numbered
abbrev pub GeneratedFits : Type 0
GeneratedFits = (f : FunctionTree) → C.IsFunction f → length (gen_function f).nodes ≤ R.node_limit → R.IsFunction (gen_function f)

-- it has at most 2,048 registers
abbrev pub GeneratedIsSmall : Type 0
GeneratedIsSmall = (f : FunctionTree) → C.IsFunction f → (gen_function f).registers ≤ 2048
