-- A text whose declarations have no faults and one of whose bodies is main's is well formed.
use Rattle.std.proofs.Common.{rules, ◌≡◌, ℕ, true, List, [], ◌++◌, Option, Some, None, sym, ap, refl, subst, ◌∙◌}
use Rattle.std.specs.Prelude.{is_some, codes}
use Rattle.std.specs.Option.{option_map}
use Rattle.c_checker_scopes.specs.Bound.{Bound, found, binding_of}
use Rattle.c_checker_scopes.specs.declared.binding.Binding.{Binding}
use Rattle.c_syntax.specs.Trees.{UnitTree}
use Rattle.c_program.specs.declared.function.GlobalVariable.{GlobalVariable}
use Rattle.c_program.specs.Trees as P
use Rattle.c_checker_rules.specs.declared.errors.CheckError.TheVariants.{NoMain}
use Rattle.c_checker_rules.specs.Told.{unless}
use Rattle.c_checker_rules.specs.Calls.{number_of}
use Rattle.c_checker_rules.specs.Units.{bodies_of, empty_file, declarations_faults, unit_faults, globals_from, functions_from, program_of}

value_of : Option (Binding ℕ) → ℕ
value_of None = 0
value_of (Some b) = b.value

numbered : (o : Option (Bound ℕ)) (m : Binding ℕ) → option_map binding_of o ≡ Some m → number_of o ≡ m.value
unfolding value_of
numbered None m e = ap value_of e
numbered (Some b) m e = ap value_of e

is_there : (o : Option (Bound ℕ)) (m : Binding ℕ) → option_map binding_of o ≡ Some m → is_some o ≡ true
is_there None m e = search (rules)
is_there (Some b) m e = refl

module _ (u : UnitTree) (bodies : List (Bound ℕ)) (same : bodies ≡ bodies_of u) (m : Binding ℕ) (met : option_map binding_of (found (codes "main") bodies) ≡ Some m) where
  pub well_formed : declarations_faults bodies empty_file u.declarations ≡ [] → unit_faults u ≡ []
  well_formed none =
      let there : is_some (found (codes "main") (bodies_of u)) ≡ true = subst (λ b. is_some (found (codes "main") b) ≡ true) same (is_there (found (codes "main") bodies) m met) in
      let clean : declarations_faults (bodies_of u) empty_file u.declarations ≡ [] = subst (λ b. declarations_faults b empty_file u.declarations ≡ []) same none in
      ap (λ l. l ++ unless (is_some (found (codes "main") (bodies_of u))) (NoMain u.end)) clean ∙ ap (λ t. unless t (NoMain u.end)) there

  pub stands_for : (globals : List GlobalVariable) (functions : List P.FunctionTree) → globals ≡ globals_from empty_file u.declarations → functions ≡ functions_from bodies empty_file u.declarations →
      record { globals = globals; functions = functions; main = m.value } ≡ program_of u
  stands_for globals functions g f =
      let main : number_of (found (codes "main") (bodies_of u)) ≡ m.value = subst (λ b. number_of (found (codes "main") b) ≡ m.value) same (numbered (found (codes "main") bodies) m met) in
      let known : functions ≡ functions_from (bodies_of u) empty_file u.declarations = subst (λ b. functions ≡ functions_from b empty_file u.declarations) same f in
      ap (λ l. record { globals = l; functions = functions; main = m.value }) g
      ∙ ap (λ l. record { globals = globals_from empty_file u.declarations; functions = l; main = m.value }) known
      ∙ ap (λ n. record { globals = globals_from empty_file u.declarations; functions = functions_from (bodies_of u) empty_file u.declarations; main = n }) (sym main)
