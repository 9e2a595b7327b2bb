-- A C text that is made ready for the first pass.
use Rattle.std.specs.Prelude.{◌≡◌, ℕ, List, map, Result, MatchResult}
use Rattle.lang_base.specs.declared.program.Program.{Program}
use Rattle.c_syntax.specs.Trees.{UnitTree}
use Rattle.c_checker_rules.specs.Checked.{Contents}
use Rattle.c_texts.specs.Accepted.{IsAccepted, IsProgramOf}
use Rattle.rtl_language.specs.Function.{FunctionData}
use Rattle.farm_nodes_source.specs.declared.fault.SourceFault.{SourceFault}
use Rattle.farm_nodes_source.specs.Refused.{IsOnlyTooLarge}

-- the functions that a program is translated to have the names of its own, in their order
abbrev pub HaveSameNames : Program FunctionData → Contents → Type 0
HaveSameNames translated program = map (λ f. f.name) translated.functions ≡ map (λ f. f.name) program.functions

-- a text that is accepted is ready as its own program, unless a function needs too many nodes, or memory was refused
abbrev pub IsReadyUnlessLarge : {S : Type 0} → List ℕ → Result S SourceFault → (S → Contents) → Type 0
IsReadyUnlessLarge text result program_in =
    (u : UnitTree) → IsAccepted text u → MatchResult result (λ s. IsProgramOf u (program_in s)) (IsOnlyTooLarge u)
