-- Functions in range are translated to functions of few registers.
use Rattle.std.proofs.Common.{◌≤◌, List, map}
use Rattle.std.specs.Prelude.{All}
use Rattle.std.proofs.lemmas.List.Elements.{All-map, All-weaker}
use Rattle.lang_base.specs.declared.program.Named.{Named}
use Rattle.cminor_syntax.specs.Fits.{IsFunction}
use Rattle.cminor_syntax.specs.Trees.{FunctionTree}
use Rattle.rtlgen_definition.specs.Gen.{gen_function, gen_named}

pub all_small : (fs : List (Named FunctionTree)) → ((f : FunctionTree) → IsFunction f → (gen_function f).registers ≤ 2048)
    → All (λ f. IsFunction f.function) fs → All (λ g. g.function.registers ≤ 2048) (map gen_named fs)
all_small fs small fits =
    All-map (λ g. g.function.registers ≤ 2048) gen_named fs (All-weaker (λ f. IsFunction f.function) (λ f. (gen_named f).function.registers ≤ 2048) (λ f is. small f.function is) fs fits)
