-- The names of a tree's functions are those of tokens that spell it.
use Rattle.std.proofs.Common.{ℕ, List, [], ◌∷◌, ◌++◌, subst}
use Rattle.std.specs.List.{AllByRecursion}
use Rattle.c_checker_scopes.specs.Bound.{Bound}
use Rattle.c_syntax.specs.declared.identifier.Identifier.{Identifier}
use Rattle.c_syntax.specs.declared.token.Token.{Token}
use Rattle.c_syntax.specs.Trees.{FunctionTree, DeclarationTree, UnitTree}
use Rattle.c_syntax.specs.Trees as T
use Rattle.c_syntax.specs.Parts as parts
use Rattle.c_syntax.specs.Declarations.{IsDeclaration, AreDeclarations, IsUnit}
use Rattle.c_lexer_lexemes.specs.Lexemes.{IsName}
use Rattle.c_lexer.specs.Texts.{HasTokens}
use Rattle.c_checker_rules.specs.Units.{File, empty_file, behind, naming, bodies_of, functions_from, program_of}
use Rattle.cminor_program_ranges.specs.Names.{HaveNames}
use Rattle.cminor_program_ranges.proofs.Tokens.{IsNamed, AreNamed, text_named}

front : (ts us : List Token) → AreNamed (ts ++ us) → AreNamed ts
front [] us all = tt
front (t ∷ ts) us all = (all.0, front ts us all.1)

rest : (ts us : List Token) → AreNamed (ts ++ us) → AreNamed us
rest [] us all = all
rest (t ∷ ts) us all = rest ts us all.1

name_named : (x : Identifier) (ts : List Token) → parts.IsName x ts → AreNamed ts → IsName x.name
name_named x ts (t, kind, at, is) all = subst IsNamed kind (subst AreNamed is all).0

function_named : (f : FunctionTree) (ts : List Token) → IsDeclaration (T.Function f) ts → AreNamed ts → IsName f.name.name
function_named f ts (xs, ys, result, (ns, zs, name, behind_name, cut), whole) all =
    let named = rest xs ys (subst AreNamed whole all) in
    name_named f.name ns name (front ns zs (subst AreNamed cut named))

module _ (all : List (Bound ℕ)) where
  functions_named : (file : File) (ds : List DeclarationTree) (ts : List Token) → AreDeclarations ds ts → AreNamed ts → AllByRecursion (λ f. IsName f.name) (functions_from all file ds)
  functions_named file [] ts are named = tt
  functions_named file (T.Global g ∷ ds) ts (xs, ys, first, others, whole) named =
      functions_named (behind file (T.Global g)) ds ys others (rest xs ys (subst AreNamed whole named))
  functions_named file (T.Prototype' p ∷ ds) ts (xs, ys, first, others, whole) named =
      functions_named (behind file (T.Prototype' p)) ds ys others (rest xs ys (subst AreNamed whole named))
  functions_named file (T.Function g ∷ ds) ts (xs, ys, first, others, whole) named =
      let cut = subst AreNamed whole named in
      (function_named g xs first (front xs ys cut), functions_named (naming file g) ds ys others (rest xs ys cut))

pub accepted_named : (text : List ℕ) (tokens : List Token) (u : UnitTree) → HasTokens text tokens → IsUnit u tokens → HaveNames (program_of u)
accepted_named text tokens u has is = functions_named (bodies_of u) empty_file u.declarations tokens is.0 (text_named text tokens has)
