-- The program that a well formed one is lowered to is in range.
use Rattle.std.proofs.Common.{◌≡◌, ◌<◌, ◌^◌, true, false, [], map, ◌⊎◌, inl, inr, arith}
use Rattle.std.specs.Prelude.{is_some, codes, IsTrue}
use Rattle.std.specs.List.{AllByRecursion}
use Rattle.std.proofs.lemmas.List.{length-map}
use Rattle.c_checker_scopes.specs.Bound.{found}
use Rattle.c_syntax.specs.Trees.{UnitTree}
use Rattle.c_syntax.specs.Heights.{IsLow}
use Rattle.c_checker_rules.specs.declared.errors.CheckError.TheVariants.{NoMain}
use Rattle.c_checker_rules.specs.Told.{unless}
use Rattle.c_checker_rules.specs.Units.{empty_file, bodies_of, globals_from, functions_from, declarations_faults, IsWellFormed, program_of}
use Rattle.cminor_syntax.specs.Fits.{IsFunction}
use Rattle.cminor_lowering.specs.Programs.{low_global, low_named, low}
use Rattle.cminor_lowering_ranges.proofs.Faults.{none_before, none_behind, holds}
use Rattle.cminor_lowering_ranges.proofs.Programs.{globals_sized}
use Rattle.lang.specs.Form.{IsProgram, has_main}
use Rattle.cminor_program_ranges.specs.Names.{HaveNames}
use Rattle.cminor_program_ranges.proofs.Zeros.{globals_fit}
use Rattle.cminor_program_ranges.proofs.Totals.{few_globals, few_cells, few_functions}
use Rattle.cminor_program_ranges.proofs.Distinct.{functions_named}
use Rattle.cminor_program_ranges.proofs.Mains.{main_from}

pub program_in_range : (u : UnitTree) → AllByRecursion IsLow u.declarations → IsWellFormed u →
    AllByRecursion (λ f. IsFunction f.function) (low (program_of u)).functions → HaveNames (program_of u) →
    AllByRecursion (λ g. AllByRecursion (λ w. w < 2 ^ 32) g.first_words) (program_of u).globals → IsProgram IsFunction (low (program_of u))
program_in_range u flat well fit names words =
    let all = bodies_of u in
    let gs = globals_from empty_file u.declarations in
    let fs = functions_from all empty_file u.declarations in
    let none = none_before (declarations_faults all empty_file u.declarations) (unless (is_some (found (codes "main") all)) (NoMain u.end)) well in
    let there = holds (is_some (found (codes "main") all)) (NoMain u.end) (none_behind (declarations_faults all empty_file u.declarations) (unless (is_some (found (codes "main") all)) (NoMain u.end)) well) in
    record {
      few_globals = omega (arith, few_globals all empty_file u.declarations (omega arith) none, length-map gs low_global);
      few_cells = omega (arith, few_cells all empty_file u.declarations (omega arith) none);
      globals = globals_fit gs (globals_sized u well) words;
      few_functions = omega (arith, few_functions all empty_file u.declarations (omega arith) none, length-map fs low_named);
      functions = functions_named all empty_file u.declarations [] none tt names fit;
      main = is_there (main_from all empty_file u.declarations 0 [] there);
    }
  where
    is_there : (false ≡ true) ⊎ IsTrue (has_main (map low_named (functions_from (bodies_of u) empty_file u.declarations))) → IsTrue (has_main (map low_named (functions_from (bodies_of u) empty_file u.declarations)))
    is_there (inl e) = absurd cc
    is_there (inr main) = main
