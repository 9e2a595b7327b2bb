-- Declarations one behind the other, as a loop takes them.
use Rattle.std.proofs.Common.{◌≡◌, ℕ, ◌+◌, ◌≤◌, ◌<◌, List, [], ◌∷◌, ◌++◌, length, drop, map, sym, ap, refl, subst, ◌∙◌, append_assoc, append-nil}
use Rattle.std.proofs.Math.ListN.{get_or, drop_of_length-le}
use Rattle.std.specs.List.{AllByRecursion}
use Rattle.c_checker_scopes.specs.Bound.{Bound}
use Rattle.c_syntax.specs.declared.declaration.Declaration.{Declaration}
use Rattle.c_syntax.specs.Trees.{DeclarationTree}
use Rattle.c_syntax.specs.Trees as T
use Rattle.c_syntax.specs.Heights.{IsLow}
use Rattle.c_syntax.specs.Views.{declaration_tree}
use Rattle.c_program.specs.declared.function.GlobalVariable.{GlobalVariable}
use Rattle.c_program.specs.declared.function.Function.{Function}
use Rattle.c_program.specs.Trees as P
use Rattle.c_program.specs.Views.{function_tree}
use Rattle.c_checker_rules.specs.declared.errors.CheckError.{CheckError}
use Rattle.c_checker_rules.specs.Told.{Tells}
use Rattle.c_checker_rules.specs.Units.{File, empty_file, behind, declaration_faults, declarations_faults, globals_from, functions_from}
use Rattle.c_checker_rules.proofs.Firsts.{tells_front}
use Rattle.c_checker.specs.declared.progress.Progress.{Progress}
use Rattle.c_checker.specs.Reached.{file_of, globals_in, functions_in}
use Rattle.c_checker_rules.proofs.Lists.{drop_next}

globals_next : (file : File) (d : DeclarationTree) (ds : List DeclarationTree) → globals_from file (d ∷ ds) ≡ globals_in file d ++ globals_from (behind file d) ds
globals_next file (T.Global g) ds = refl
globals_next file (T.Function g) ds = refl
globals_next file (T.Prototype' p) ds = refl

functions_next : (bodies : List (Bound ℕ)) (file : File) (d : DeclarationTree) (ds : List DeclarationTree) → functions_from bodies file (d ∷ ds) ≡ functions_in bodies file d ++ functions_from bodies (behind file d) ds
functions_next bodies file (T.Global g) ds = refl
functions_next bodies file (T.Function g) ds = refl
functions_next bodies file (T.Prototype' p) ds = refl

-- What is left has the faults of the whole, and its globals and functions end those of the whole.
pub record IsUnderWay (bodies : List (Bound ℕ)) (all : List Declaration) (file : File) (made : List GlobalVariable) (defined : List P.FunctionTree) (rest : List Declaration) : Type 0 where
  pub low : AllByRecursion IsLow (map declaration_tree rest)
  pub faults : declarations_faults bodies empty_file (map declaration_tree all) ≡ declarations_faults bodies file (map declaration_tree rest)
  pub globals : globals_from empty_file (map declaration_tree all) ≡ made ++ globals_from file (map declaration_tree rest)
  pub functions : functions_from bodies empty_file (map declaration_tree all) ≡ defined ++ functions_from bodies file (map declaration_tree rest)

module _ (bodies : List (Bound ℕ)) (all : List Declaration) where
  pub begins : AllByRecursion IsLow (map declaration_tree all) → IsUnderWay bodies all empty_file [] [] all
  begins low = record { low = low; faults = refl; globals = refl; functions = refl }

  -- the next declaration is not too high
  pub next_low : (file : File) (made : List GlobalVariable) (defined : List P.FunctionTree) (i : ℕ) (d : Declaration) → i < length all → d ≡ get_or all i d →
      IsUnderWay bodies all file made defined (drop i all) → IsLow (declaration_tree d)
  next_low file made defined i d within item so_far =
      (subst (λ l. AllByRecursion IsLow (map declaration_tree l)) (drop_next all i d within item) so_far.low).0

  pub goes_on : (file : File) (made : List GlobalVariable) (defined : List P.FunctionTree) (i : ℕ) (d : Declaration) → i < length all → d ≡ get_or all i d →
      IsUnderWay bodies all file made defined (drop i all) → declaration_faults bodies file (declaration_tree d) ≡ [] →
      IsUnderWay bodies all (behind file (declaration_tree d)) (made ++ globals_in file (declaration_tree d)) (defined ++ functions_in bodies file (declaration_tree d)) (drop (i + 1) all)
  goes_on file made defined i d within item so_far none =
      let next = drop_next all i d within item in
      let tree = declaration_tree d in
      let rest = map declaration_tree (drop (i + 1) all) in
      record {
        low = (subst (λ l. AllByRecursion IsLow (map declaration_tree l)) next so_far.low).1;
        faults = so_far.faults ∙ ap (λ l. declarations_faults bodies file (map declaration_tree l)) next
            ∙ ap (λ l. l ++ declarations_faults bodies (behind file tree) rest) none;
        globals = so_far.globals ∙ ap (λ l. made ++ globals_from file (map declaration_tree l)) next ∙ ap (λ l. made ++ l) (globals_next file tree rest)
            ∙ sym (append_assoc made (globals_in file tree) (globals_from (behind file tree) rest));
        functions = so_far.functions ∙ ap (λ l. defined ++ functions_from bodies file (map declaration_tree l)) next ∙ ap (λ l. defined ++ l) (functions_next bodies file tree rest)
            ∙ sym (append_assoc defined (functions_in bodies file tree) (functions_from bodies (behind file tree) rest));
      }

  pub stops : (e : CheckError) (file : File) (made : List GlobalVariable) (defined : List P.FunctionTree) (i : ℕ) (d : Declaration) → i < length all → d ≡ get_or all i d →
      IsUnderWay bodies all file made defined (drop i all) → Tells e (declaration_faults bodies file (declaration_tree d)) → Tells e (declarations_faults bodies empty_file (map declaration_tree all))
  stops e file made defined i d within item so_far told =
      let next = drop_next all i d within item in
      let whole = so_far.faults ∙ ap (λ l. declarations_faults bodies file (map declaration_tree l)) next in
      subst (λ l. Tells e l) (sym whole) (tells_front e (declaration_faults bodies file (declaration_tree d)) (declarations_faults bodies (behind file (declaration_tree d)) (map declaration_tree (drop (i + 1) all))) told)

  module _ (file : File) (made : List GlobalVariable) (defined : List P.FunctionTree) (i : ℕ) (past : length all ≤ i) (so_far : IsUnderWay bodies all file made defined (drop i all)) where
    pub no_faults : declarations_faults bodies empty_file (map declaration_tree all) ≡ []
    no_faults = so_far.faults ∙ ap (λ l. declarations_faults bodies file (map declaration_tree l)) (drop_of_length-le all past)

    pub all_globals : made ≡ globals_from empty_file (map declaration_tree all)
    all_globals = sym (so_far.globals ∙ ap (λ l. made ++ globals_from file (map declaration_tree l)) (drop_of_length-le all past) ∙ append-nil made)

    pub all_functions : defined ≡ functions_from bodies empty_file (map declaration_tree all)
    all_functions = sym (so_far.functions ∙ ap (λ l. defined ++ functions_from bodies file (map declaration_tree l)) (drop_of_length-le all past) ∙ append-nil defined)

-- What is known of the declarations before those that are left: the bodies stay, and the cells of all globals are within their limit.
pub record IsTaken (bodies : List (Bound ℕ)) (all : List Declaration) (p : Progress Function) (rest : List Declaration) : Type 0 where
  pub kept : p.functions.bodies ≡ bodies
  pub small : p.cells ≤ 65536
  pub walk : IsUnderWay bodies all (file_of p) p.globals.items (map function_tree p.defined.items) rest

module _ (bodies : List (Bound ℕ)) (all : List Declaration) (old : Progress Function) (i : ℕ) (d : Declaration) (within : i < length all) (item : d ≡ get_or all i d) (so_far : IsTaken bodies all old (drop i all)) where
  pub taken_on : (new : Progress Function) → declaration_faults old.functions.bodies (file_of old) (declaration_tree d) ≡ [] → file_of new ≡ behind (file_of old) (declaration_tree d) →
      new.functions.bodies ≡ old.functions.bodies → new.globals.items ≡ old.globals.items ++ globals_in (file_of old) (declaration_tree d) →
      map function_tree new.defined.items ≡ map function_tree old.defined.items ++ functions_in old.functions.bodies (file_of old) (declaration_tree d) →
      new.cells ≤ 65536 → IsTaken bodies all new (drop (i + 1) all)
  taken_on new none file kept globals functions small =
      let known = subst (λ b. declaration_faults b (file_of old) (declaration_tree d) ≡ []) so_far.kept none in
      let made = subst (λ b. map function_tree new.defined.items ≡ map function_tree old.defined.items ++ functions_in b (file_of old) (declaration_tree d)) so_far.kept functions in
      let on = goes_on bodies all (file_of old) old.globals.items (map function_tree old.defined.items) i d within item so_far.walk known in
      let filed = subst (λ f. IsUnderWay bodies all f (old.globals.items ++ globals_in (file_of old) (declaration_tree d)) (map function_tree old.defined.items ++ functions_in bodies (file_of old) (declaration_tree d)) (drop (i + 1) all)) (sym file) on in
      let listed = subst (λ g. IsUnderWay bodies all (file_of new) g (map function_tree old.defined.items ++ functions_in bodies (file_of old) (declaration_tree d)) (drop (i + 1) all)) (sym globals) filed in
      record {
        kept = kept ∙ so_far.kept;
        small = small;
        walk = subst (λ f. IsUnderWay bodies all (file_of new) new.globals.items f (drop (i + 1) all)) (sym made) listed;
      }

  pub told_on : (e : CheckError) → Tells e (declaration_faults old.functions.bodies (file_of old) (declaration_tree d)) → Tells e (declarations_faults bodies empty_file (map declaration_tree all))
  told_on e told =
      stops bodies all e (file_of old) old.globals.items (map function_tree old.defined.items) i d within item so_far.walk
      (subst (λ b. Tells e (declaration_faults b (file_of old) (declaration_tree d))) so_far.kept told)
