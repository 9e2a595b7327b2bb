-- No function of a text that is made ready needs too many nodes, since its RTL has a spelling.
use Rattle.std.proofs.Common.{◌≡◌, ℕ, List, [], ◌∷◌, ◌++◌, map, ap, ◌∙◌, subst}
use Rattle.std.specs.Arc.{arc_value}
use Rattle.std.specs.List.{AllByRecursion}
use Rattle.std.proofs.lemmas.List.Elements.{All-from_recursion}
use Rattle.lang_base.specs.Texts.{EachFits}
use Rattle.lang_base.specs.declared.program.Named.{Named}
use Rattle.lang_base.specs.declared.program.Program.{Program}
use Rattle.lang.specs.Form.{FunctionFits, IsProgram}
use Rattle.c_syntax.specs.Trees.{UnitTree}
use Rattle.c_program.specs.Trees.{ProgramTree}
use Rattle.c_checker_rules.specs.Checked.{program_tree}
use Rattle.c_checker_rules.specs.Units.{program_of}
use Rattle.c_texts.specs.Accepted.{IsAccepted}
use Rattle.cminor_lowering.specs.Programs.{low}
use Rattle.cminor_syntax.specs.Trees.{FunctionTree}
use Rattle.rtlgen_definition.specs.Gen.{gen, gen_named}
use Rattle.rtl_language.specs.Function as rtl
use Rattle.farm_nodes_source.specs.declared.source.Source.{Source}
use Rattle.cfarm_verify_reading.specs.Found.{IsSourceOf}
use Rattle.cfarm_verify_reading.specs.Refused.{HasFewNodes}
use Rattle.cfarm_verify.specs.Told.{HasSmallFunctions}

few_nodes : (before : List (Named rtl.FunctionData)) (fs : List (Named FunctionTree)) → EachFits (FunctionFits rtl.IsFunction) before (map gen_named fs)
    → AllByRecursion HasFewNodes fs
few_nodes before [] fits = tt
few_nodes before (f ∷ fs) fits = (fits.0.function.nodes, few_nodes (before ++ gen_named f ∷ []) fs fits.1)

pub small_functions : (tree : ProgramTree) (u : UnitTree) → tree ≡ program_of u → (begun : Program rtl.FunctionData) → begun ≡ gen (low tree)
    → IsProgram rtl.IsFunction begun → HasSmallFunctions u
small_functions tree u of begun made fits =
    let fs = (low (program_of u)).functions in
    let same : begun ≡ gen (low (program_of u)) = made ∙ ap (λ t. gen (low t)) of in
    let each = subst (λ p. IsProgram rtl.IsFunction p) same fits in
    All-from_recursion HasFewNodes fs (few_nodes [] fs each.functions)

-- a text that was made ready is not refused
pub ready : (text : List ℕ) (s : Source) → IsSourceOf text s → (u : UnitTree) × IsAccepted text u × HasSmallFunctions u
ready text s is =
    let it = is.accepted in (it.0, it.1, small_functions (program_tree s.program) it.0 it.2 (arc_value s.translated) is.translated is.fits)
