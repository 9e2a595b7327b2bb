-- What is told of a text's run: where it goes wrong, if it does.
use Rattle.std.specs.Prelude.{◌≡◌, ℕ, List, map, Option}
use Rattle.std.specs.Option.{option_map}
use Rattle.c_syntax.specs.Trees.{DeclarationTree, UnitTree}
use Rattle.c_program.specs.Trees.{ProgramTree}
use Rattle.c_syntax.specs.declared.declaration.Declaration.{Declaration}
use Rattle.c_syntax.specs.declared.token.Token.{Token}
use Rattle.c_syntax.specs.Views.{declaration_tree}
use Rattle.c_texts.specs.Accepted.{IsAccepted}
use Rattle.c_checker_rules.specs.Checked.{Contents, program_tree}
use Rattle.c_checker_rules.specs.Units.{program_of}
use Rattle.c_faults.specs.declared.fault.Fault.{Fault}
use Rattle.c_faults.specs.Faults.{fault_of}
use Rattle.c_faults_places.specs.Table.{places_of}
use Rattle.cfarm_explain.specs.Lines.{fault_text}

-- the fault of the program of a tree at a bound, by the places of these tokens
abbrev pub fault_at : UnitTree → List Token → ℕ → Option Fault
fault_at u tokens depth = let p = program_of u in fault_of (places_of u.declarations p.functions tokens) p depth

-- what is told of a fault
abbrev pub told_of : List ℕ → List ℕ → ProgramTree → Option Fault → Option (List ℕ)
told_of path text p fault = option_map (fault_text path text p.globals p.functions) fault

-- What is told of the run of a program of these parts, by the places of these declarations and tokens.
abbrev pub IsTold : List ℕ → List ℕ → List Token → List DeclarationTree → ProgramTree → ℕ → Option (List ℕ) → Type 0
IsTold path text tokens ds p depth told = told ≡ told_of path text p (fault_of (places_of ds p.functions tokens) p depth)

-- the same by the parts themselves
abbrev pub TellsRun : List ℕ → List ℕ → List Token → List Declaration → Contents → ℕ → Option (List ℕ) → Type 0
TellsRun path text tokens ds p depth = IsTold path text tokens (map declaration_tree ds) (program_tree p) depth

-- The text is accepted, and what is told is its program's fault at the bound: nothing where it has none.
abbrev pub IsExplained : List ℕ → List ℕ → ℕ → Option (List ℕ) → Type 0
IsExplained path text depth told =
    (u : UnitTree) × (a : IsAccepted text u) × (told ≡ told_of path text (program_of u) (fault_at u a.tokens depth))
