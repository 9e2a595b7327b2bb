-- What is reached behind some declarations of a text.
use Rattle.std.specs.Prelude.{◌≡◌, ℕ, List, [], ◌∷◌, ◌++◌, length, map, Option}
use Rattle.c_checker_scopes.specs.Bound.{Bound}
use Rattle.c_syntax.specs.declared.identifier.Identifier.{Identifier}
use Rattle.c_syntax.specs.declared.declaration.Declaration.{Declaration}
use Rattle.c_syntax.specs.Trees.{DeclarationTree}
use Rattle.c_syntax.specs.Trees as T
use Rattle.c_syntax.specs.Views.{declaration_tree}
use Rattle.c_program.specs.declared.function.GlobalVariable.{GlobalVariable}
use Rattle.c_program.specs.declared.function.Function.{Function}
use Rattle.c_program.specs.Trees as P
use Rattle.c_program.specs.Views.{function_tree}
use Rattle.c_checker_rules.specs.declared.errors.CheckError.{CheckError}
use Rattle.c_checker_rules.specs.declared.signature.Signature.{Signature}
use Rattle.c_checker_rules.specs.Names.{Scope}
use Rattle.c_checker_rules.specs.Calls.{Functions}
use Rattle.c_checker_rules.specs.Globals.{with_global, global_of}
use Rattle.c_checker_rules.specs.Functions.{function_of, function_name_faults, with_function, with_signature}
use Rattle.c_checker_rules.specs.Units.{File, naming, known, behind, empty_file, declaration_faults, declarations_faults, globals_from, functions_from}
use Rattle.c_checker.specs.declared.progress.Progress.{Progress}

abbrev pub file_of : {F : Type 0} → Progress F → File
file_of p = record { scope = p.here.scope; signatures = p.functions.signatures; globals = length p.globals.items; cells = p.cells; defined = length p.defined.items }

-- the global that a declaration stands for, if it is one
abbrev pub globals_in : File → DeclarationTree → List GlobalVariable
globals_in file (T.Global g) = global_of (with_global file.globals file.scope g) g ∷ []
globals_in file (T.Function g) = []
globals_in file (T.Prototype' p) = []

-- the function with a body that a declaration stands for, if it is one
abbrev pub functions_in : List (Bound ℕ) → File → DeclarationTree → List P.FunctionTree
functions_in bodies file (T.Global g) = []
functions_in bodies file (T.Function g) = function_of (known bodies (naming file g)) (naming file g).scope g ∷ []
functions_in bodies file (T.Prototype' p) = []

-- what is wrong with the next declaration, and what is known behind it
abbrev pub faults_at : {F : Type 0} → Progress F → DeclarationTree → List CheckError
faults_at p d = declaration_faults p.functions.bodies (file_of p) d

abbrev pub file_behind : {F : Type 0} → Progress F → DeclarationTree → File
file_behind p d = behind (file_of p) d

-- The global that the declaration stands for comes behind the others.
abbrev pub GlobalsGrow : {F : Type 0} → Progress F → Progress F → DeclarationTree → Type 0
GlobalsGrow old new d = new.globals.items ≡ old.globals.items ++ globals_in (file_of old) d

-- The function with a body that the declaration stands for comes behind the others.
abbrev pub FunctionsGrow : Progress Function → Progress Function → DeclarationTree → Type 0
FunctionsGrow old new d =
    map function_tree new.defined.items ≡ map function_tree old.defined.items ++ functions_in old.functions.bodies (file_of old) d

-- what is wrong with a function's name here, and what is known behind it
abbrev pub naming_faults : {F : Type 0} → Progress F → Identifier → Signature → Option ℕ → List CheckError
naming_faults p name signature number = function_name_faults p.functions p.here.scope name signature number

abbrev pub scope_with : {F : Type 0} → Progress F → Identifier → Scope
scope_with p name = with_function p.functions.signatures p.here.scope name

abbrev pub functions_with : {F : Type 0} → Progress F → Identifier → Signature → Functions
functions_with p name signature =
    record { signatures = with_signature p.functions.signatures p.here.scope name signature; bodies = p.functions.bodies }

-- what is wrong with the declarations of a whole text, and the globals and functions that they stand for
abbrev pub faults_in : List (Bound ℕ) → List Declaration → List CheckError
faults_in bodies all = declarations_faults bodies empty_file (map declaration_tree all)

abbrev pub globals_of : List Declaration → List GlobalVariable
globals_of all = globals_from empty_file (map declaration_tree all)

abbrev pub functions_of : List (Bound ℕ) → List Declaration → List P.FunctionTree
functions_of bodies all = functions_from bodies empty_file (map declaration_tree all)
