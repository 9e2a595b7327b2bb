-- What has the globals and the names of a lowered program has a spelling, where its functions have one and the names are C names.
use Rattle.std.proofs.Common.{◌≡◌, ◌<◌, ◌≤◌, ◌^◌, true, false, List, [], ◌∷◌, length, map, ◌⊎◌, inl, inr, refl, sym, ap, subst, ◌∙◌, arith}
use Rattle.std.specs.Prelude.{is_some, codes, ◌||◌, IsTrue}
use Rattle.std.specs.List.{AllByRecursion}
use Rattle.std.specs.Str.{bytes_eq}
use Rattle.std.proofs.lemmas.List.{length-map}
use Rattle.c_checker_scopes.specs.Bound.{found}
use Rattle.c_syntax.specs.Trees.{UnitTree}
use Rattle.c_checker_rules.specs.declared.errors.CheckError.TheVariants.{NoMain}
use Rattle.c_checker_rules.specs.Told.{unless}
use Rattle.c_checker_rules.specs.Units.{empty_file, bodies_of, globals_from, functions_from, declarations_faults, IsWellFormed, program_of}
use Rattle.lang_base.specs.declared.program.Named.{Named}
use Rattle.lang_base.specs.declared.program.Program.{Program}
use Rattle.cminor_lowering.specs.Programs.{low_global, low_named, low}
use Rattle.cminor_lowering_ranges.proofs.Faults.{none_before, none_behind, holds}
use Rattle.cminor_lowering_ranges.proofs.Programs.{globals_sized}
use Rattle.lang.specs.Form.{IsProgram, GlobalFits, has_main, cells_of_all, cell_limit, global_limit}
use Rattle.cminor_program_ranges.specs.Heads.{HasHeadOf}
use Rattle.cminor_program_ranges.specs.Names.{HaveNames}
use Rattle.cminor_program_ranges.proofs.Zeros.{globals_fit}
use Rattle.cminor_program_ranges.proofs.Totals.{few_globals, few_cells, few_functions}
use Rattle.cminor_program_ranges.proofs.Distinct.{first_same, rest_same, low_names, named_fit}
use Rattle.cminor_program_ranges.proofs.Mains.{main_from}

same_main : {F G : Type 0} (ps : List (Named F)) (qs : List (Named G)) → map (λ f. f.name) ps ≡ map (λ f. f.name) qs → has_main ps ≡ has_main qs
same_main [] [] e = refl
same_main [] (q ∷ qs) e = absurd (cc e)
same_main (p ∷ ps) [] e = absurd (cc e)
same_main (p ∷ ps) (q ∷ qs) e =
    let name = first_same p.name q.name (map (λ f. f.name) ps) (map (λ f. f.name) qs) e in
    let behind = rest_same p.name q.name (map (λ f. f.name) ps) (map (λ f. f.name) qs) e in
    λ i. bytes_eq (name i) (codes "main") || same_main ps qs behind i

module _ {F : Type 0} (Fits : F → Type 0) where
  pub head_fits : (u : UnitTree) → IsWellFormed u → HaveNames (program_of u) → AllByRecursion (λ g. AllByRecursion (λ w. w < 2 ^ 32) g.first_words) (program_of u).globals →
      (p : Program F) → HasHeadOf (low (program_of u)) p → AllByRecursion (λ f. Fits f.function) p.functions → IsProgram Fits p
  head_fits u well names words p head fits =
      let all = bodies_of u in
      let gs = globals_from empty_file u.declarations in
      let fs = functions_from all empty_file u.declarations in
      let none = none_before (declarations_faults all empty_file u.declarations) (unless (is_some (found (codes "main") all)) (NoMain u.end)) well in
      let there = holds (is_some (found (codes "main") all)) (NoMain u.end) (none_behind (declarations_faults all empty_file u.declarations) (unless (is_some (found (codes "main") all)) (NoMain u.end)) well) in
      let same = head.names ∙ low_names fs in
      let as_many : length p.functions ≡ length fs = sym (length-map p.functions (λ f. f.name)) ∙ ap length same ∙ length-map fs (λ f. f.name) in
      let some_globals : length (map low_global gs) ≤ global_limit = omega (arith, few_globals all empty_file u.declarations (omega arith) none, length-map gs low_global) in
      let some_cells : cells_of_all (map low_global gs) ≤ cell_limit = omega (arith, few_cells all empty_file u.declarations (omega arith) none) in
      record {
        few_globals = subst (λ xs. length xs ≤ global_limit) (sym head.globals) some_globals;
        few_cells = subst (λ xs. cells_of_all xs ≤ cell_limit) (sym head.globals) some_cells;
        globals = subst (λ xs. AllByRecursion GlobalFits xs) (sym head.globals) (globals_fit gs (globals_sized u well) words);
        few_functions = omega (arith, few_functions all empty_file u.declarations (omega arith) none, as_many);
        functions = named_fit all Fits empty_file u.declarations [] p.functions none tt same names fits;
        main = same_main p.functions (map low_named fs) head.names ∙ is_there (main_from all empty_file u.declarations 0 [] there);
      }
    where
      is_there : (false ≡ true) ⊎ IsTrue (has_main (map low_named (functions_from (bodies_of u) empty_file u.declarations))) → IsTrue (has_main (map low_named (functions_from (bodies_of u) empty_file u.declarations)))
      is_there (inl e) = absurd cc
      is_there (inr main) = main
