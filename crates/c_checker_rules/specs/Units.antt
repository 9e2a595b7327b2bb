-- A whole text (C99 5.1.2.2.1 and 6.9): when it is well formed, and the program that it then stands for.
use Rattle.std.specs.Prelude.{◌≡◌, ℕ, suc, ◌+◌, List, [], ◌∷◌, ◌++◌, map, Option, Some, None, is_some, codes}
use Rattle.c_checker_scopes.specs.Bound.{Bound, found}
use Rattle.c_syntax.specs.Trees.{GlobalTree, FunctionTree, DeclarationTree, UnitTree}
use Rattle.c_syntax.specs.Trees as T
use Rattle.c_syntax.specs.declared.declaration.Prototype.{Prototype}
use Rattle.c_program.specs.declared.function.GlobalVariable.{GlobalVariable}
use Rattle.c_program.specs.Trees.{ProgramTree}
use Rattle.c_program.specs.Trees as P
use Rattle.c_checker_rules.specs.declared.errors.CheckError.{CheckError}
use Rattle.c_checker_rules.specs.declared.errors.CheckError.TheVariants.{NoMain}
use Rattle.c_checker_rules.specs.declared.signature.Signature.{Signature}
use Rattle.c_checker_rules.specs.Told.{unless}
use Rattle.c_checker_rules.specs.Names.{Scope}
use Rattle.c_checker_rules.specs.Calls.{Functions, number_of}
use Rattle.c_checker_rules.specs.Globals.{size_of, with_global, global_faults, global_of}
use Rattle.c_checker_rules.specs.Functions.{opened, signature_of, with_function, with_signature, function_name_faults, parameters_faults, body_faults, function_of}

-- The functions with bodies, each with its number in the order of the text; of two of one name the first counts.
abbrev pub with_body : ℕ → List (Bound ℕ) → List ℕ → List (Bound ℕ)
with_body number bodies name = added (found name bodies)
  where
    added : Option (Bound ℕ) → List (Bound ℕ)
    added None = record { name = name; depth = 0; value = number } ∷ bodies
    added (Some b) = bodies

abbrev pub bodies_from : ℕ → List (Bound ℕ) → List DeclarationTree → List (Bound ℕ)
bodies_from number bodies [] = bodies
bodies_from number bodies (T.Global g ∷ ds) = bodies_from number bodies ds
bodies_from number bodies (T.Function g ∷ ds) = bodies_from (suc number) (with_body number bodies g.name.name) ds
bodies_from number bodies (T.Prototype' p ∷ ds) = bodies_from number bodies ds

abbrev pub bodies_of : UnitTree → List (Bound ℕ)
bodies_of u = bodies_from 0 [] u.declarations

-- what stands before a declaration: its names, the signatures of its functions, and how many globals, cells of globals and
-- functions with bodies there are
pub record File : Type 0 where
  pub scope : Scope
  pub signatures : List Signature
  pub globals : ℕ
  pub cells : ℕ
  pub defined : ℕ

abbrev pub empty_file : File
empty_file = record { scope = []; signatures = []; globals = 0; cells = 0; defined = 0 }

-- the file with a function's name
abbrev pub naming : File → FunctionTree → File
naming file g =
    let s = signature_of g.result (map opened g.parameters) in
    record file { scope = with_function file.signatures file.scope g.name; signatures = with_signature file.signatures file.scope g.name s; defined = suc file.defined }

abbrev pub prototyped : File → Prototype → File
prototyped file p =
    let s = signature_of p.result p.parameters in
    record file { scope = with_function file.signatures file.scope p.name; signatures = with_signature file.signatures file.scope p.name s }

abbrev pub behind : File → DeclarationTree → File
behind file (T.Global g) =
    record file { scope = with_global file.globals file.scope g; globals = suc file.globals; cells = file.cells + size_of g.size }
behind file (T.Function g) = naming file g
behind file (T.Prototype' p) = prototyped file p

-- the functions that are known, with this one and those before
abbrev pub known : List (Bound ℕ) → File → Functions
known bodies file = record { signatures = file.signatures; bodies = bodies }

abbrev pub declaration_faults : List (Bound ℕ) → File → DeclarationTree → List CheckError
declaration_faults bodies file (T.Global g) = global_faults file.scope file.globals file.cells g
declaration_faults bodies file (T.Function g) =
    function_name_faults (known bodies file) file.scope g.name (signature_of g.result (map opened g.parameters)) (Some file.defined)
    ++ body_faults (known bodies (naming file g)) (naming file g).scope g
declaration_faults bodies file (T.Prototype' p) =
    function_name_faults (known bodies file) file.scope p.name (signature_of p.result p.parameters) None
    ++ parameters_faults (record { scope = (prototyped file p).scope; locals = 0 }) p.parameters

abbrev pub declarations_faults : List (Bound ℕ) → File → List DeclarationTree → List CheckError
declarations_faults bodies file [] = []
declarations_faults bodies file (d ∷ ds) = declaration_faults bodies file d ++ declarations_faults bodies (behind file d) ds

-- All that is not well formed in a text, in the order of the text.
abbrev pub unit_faults : UnitTree → List CheckError
unit_faults u =
    declarations_faults (bodies_of u) empty_file u.declarations
    ++ unless (is_some (found (codes "main") (bodies_of u))) (NoMain u.end)

abbrev pub IsWellFormed : UnitTree → Type 0
IsWellFormed u = unit_faults u ≡ []

abbrev pub globals_from : File → List DeclarationTree → List GlobalVariable
globals_from file [] = []
globals_from file (T.Global g ∷ ds) = global_of (with_global file.globals file.scope g) g ∷ globals_from (behind file (T.Global g)) ds
globals_from file (T.Function g ∷ ds) = globals_from (behind file (T.Function g)) ds
globals_from file (T.Prototype' p ∷ ds) = globals_from (behind file (T.Prototype' p)) ds

abbrev pub functions_from : List (Bound ℕ) → File → List DeclarationTree → List P.FunctionTree
functions_from bodies file [] = []
functions_from bodies file (T.Global g ∷ ds) = functions_from bodies (behind file (T.Global g)) ds
functions_from bodies file (T.Function g ∷ ds) = function_of (known bodies (naming file g)) (naming file g).scope g ∷ functions_from bodies (naming file g) ds
functions_from bodies file (T.Prototype' p ∷ ds) = functions_from bodies (behind file (T.Prototype' p)) ds

-- The program that a well formed text stands for.
abbrev pub program_of : UnitTree → ProgramTree
program_of u = record {
  globals = globals_from empty_file u.declarations;
  functions = functions_from (bodies_of u) empty_file u.declarations;
  main = number_of (found (codes "main") (bodies_of u));
}
