-- Where declarations are not read, none are spelled: too deep means none that are low, all else none at all.
-- The laws of blocks are taken as given here.
use Rattle.std.proofs.Common.{◌≡◌, ℕ, suc, ◌≤◌, ◌+◌, List, [], ◌∷◌, Option, Some, None, Result, Ok, Err, inl, inr, sym, ◌∙◌, arith}
use Rattle.std.specs.List.{AllByRecursion}
use Rattle.c_syntax.specs.declared.token.Token.{Token}
use Rattle.c_syntax.specs.Trees.{InitialTree, InitializerTree, DeclarationTree}
use Rattle.c_syntax.specs.Trees as T
use Rattle.c_syntax.specs.Heights.{highest, expression_height, statements_height, IsLow, IfThere}
use Rattle.c_syntax.specs.Declarations.{AreDeclarations}
use Rattle.c_reader_tokens.specs.declared.fault.Fault.{Fault}
use Rattle.c_reader_tokens.specs.declared.fault.Fault.TheVariants.{Syntax}
use Rattle.c_reader_tokens.specs.Reading.{IsSameOrTooDeep}
use Rattle.c_reader_statement_laws.specs.Reading.{block_in, statement_at}
use Rattle.c_reader_productions.proofs.Combining.{IsReader}
use Rattle.c_reader_productions.proofs.Laws.{Any, Keeps}
use Rattle.c_reader_declaration_laws.specs.Reading.{declarations}
use Rattle.c_reader_declaration_laws.proofs.OfGlobals.{FitsInitial, FitsInitializer}
use Rattle.c_reader_declaration_laws.proofs.Declaring.{IsBody, FitsBlock, FitsDeclaration}
use Rattle.c_reader_declaration_laws.proofs.Laws.{declarations_again, declarations_stays, low_declarations}

-- ---- each tree fits some fuel

initials_more : (is : List InitialTree) (fuel more : ℕ) → fuel ≤ more → AllByRecursion (FitsInitial fuel) is → AllByRecursion (FitsInitial more) is
initials_more [] fuel more le f = tt
initials_more (i ∷ is) fuel more le f = (let h = f.0 in omega arith, initials_more is fuel more le f.1)

initializer_more : (i : InitializerTree) (fuel more : ℕ) → fuel ≤ more → FitsInitializer fuel i → FitsInitializer more i
initializer_more (T.Single i) fuel more le f = omega arith
initializer_more (T.Braced is) fuel more le f = initials_more is fuel more le f

beginning_more : (i : Option InitializerTree) (fuel more : ℕ) → fuel ≤ more → IfThere (FitsInitializer fuel) i → IfThere (FitsInitializer more) i
beginning_more None fuel more le f = tt
beginning_more (Some i) fuel more le f = initializer_more i fuel more le f

declaration_more : (d : DeclarationTree) (fuel more : ℕ) → fuel ≤ more → FitsDeclaration fuel d → FitsDeclaration more d
declaration_more (T.Global g) fuel more le f = beginning_more g.initializer fuel more le f
declaration_more (T.Function f) fuel more le h = omega arith
declaration_more (T.Prototype' p) fuel more le f = tt

declarations_more : (ds : List DeclarationTree) (fuel more : ℕ) → fuel ≤ more → AllByRecursion (FitsDeclaration fuel) ds → AllByRecursion (FitsDeclaration more) ds
declarations_more [] fuel more le f = tt
declarations_more (d ∷ ds) fuel more le f = (declaration_more d fuel more le f.0, declarations_more ds fuel more le f.1)

initials_fit : (is : List InitialTree) → (fuel : ℕ) × AllByRecursion (FitsInitial fuel) is
initials_fit [] = (0, tt)
initials_fit (i ∷ is) =
    let r = initials_fit is in
    (expression_height i.value + r.0, (omega arith, initials_more is r.0 (expression_height i.value + r.0) (omega arith) r.1))

initializer_fits : (i : InitializerTree) → (fuel : ℕ) × FitsInitializer fuel i
initializer_fits (T.Single i) = (expression_height i.value, omega arith)
initializer_fits (T.Braced is) = initials_fit is

beginning_fits : (i : Option InitializerTree) → (fuel : ℕ) × IfThere (FitsInitializer fuel) i
beginning_fits None = (0, tt)
beginning_fits (Some i) = initializer_fits i

declaration_fits : (d : DeclarationTree) → (fuel : ℕ) × FitsDeclaration fuel d
declaration_fits (T.Global g) = beginning_fits g.initializer
declaration_fits (T.Function f) = (suc (statements_height f.body), omega arith)
declaration_fits (T.Prototype' p) = (0, tt)

declarations_fit : (ds : List DeclarationTree) → (fuel : ℕ) × AllByRecursion (FitsDeclaration fuel) ds
declarations_fit [] = (0, tt)
declarations_fit (d ∷ ds) =
    let h = declaration_fits d in
    let r = declarations_fit ds in
    (h.0 + r.0, (declaration_more d h.0 (h.0 + r.0) (omega arith) h.1, declarations_more ds r.0 (h.0 + r.0) (omega arith) r.1))

-- ---- what is refused

abbrev Declared : Type 0
Declared = Result (List DeclarationTree × List Token) Fault

ok_is_not_err : (x : List DeclarationTree × List Token) (f : Fault) (r : Declared) → r ≡ Ok x → r ≡ Err f → ⊥
ok_is_not_err x f r e d = cc

syntax_stays : (less more : Declared) (o : Option ℕ) → IsSameOrTooDeep less more → less ≡ Err (Syntax o) → more ≡ Err (Syntax o)
syntax_stays less more o (inl deep) e = absurd cc
syntax_stays less more o (inr same) e = sym same ∙ e

module _ (block_law : (r : ℕ) → IsReader (block_in (statement_at r)) (FitsBlock r) IsBody Any Any) where
  -- What is refused in any way spells no declarations that are low.
  pub low_refused : (ts : List Token) (f : Fault) → declarations highest ts ≡ Err f → (ds : List DeclarationTree) → AreDeclarations ds ts → AllByRecursion IsLow ds → ⊥
  low_refused ts f e ds s low =
      ok_is_not_err (ds, []) f (declarations highest ts) (declarations_again block_law highest ts ds s (low_declarations ds low)) e

  module _ (block_keeps : (r s : ℕ) → r ≤ s → Keeps (block_in (statement_at r)) (block_in (statement_at s))) where
    -- What is refused, and not as too deep, spells no declarations.
    pub all_refused : (ts : List Token) (o : Option ℕ) → declarations highest ts ≡ Err (Syntax o) → (ds : List DeclarationTree) → AreDeclarations ds ts → ⊥
    all_refused ts o e ds s =
        let r = declarations_fit ds in
        let read = declarations_again block_law (r.0 + highest) ts ds s (declarations_more ds r.0 (r.0 + highest) (omega arith) r.1) in
        ok_is_not_err (ds, []) (Syntax o) (declarations (r.0 + highest) ts) read
        (syntax_stays (declarations highest ts) (declarations (r.0 + highest) ts) o (declarations_stays block_keeps highest (r.0 + highest) ts (omega arith)) e)
