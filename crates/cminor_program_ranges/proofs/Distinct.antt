-- No two functions of a well formed text have one name: each has the number that the first body of its name has.
use Rattle.std.proofs.Common.{◌≡◌, ◌≢◌, ℕ, suc, ◌<◌, ◌≤◌, Bool, true, false, List, [], ◌∷◌, ◌++◌, length, map, Option, Some, None, refl, sym, ap, subst, ◌∙◌, arith}
use Rattle.std.specs.Prelude.{not, ◌&&◌, ◌||◌, ◌==◌}
use Rattle.std.specs.List.{AllByRecursion}
use Rattle.std.proofs.lemmas.Bool.{eqb-true, leb-true, and_parts}
use Rattle.cminor_lowering_ranges.proofs.Distinct.{all_append}
use Rattle.lang_base.specs.declared.program.Named.{Named}
use Rattle.lang_base.specs.Texts.{EachFits}
use Rattle.c_lexer_lexemes.specs.Lexemes.{IsName}
use Rattle.c_checker_scopes.specs.Bound.{Bound, found}
use Rattle.c_program.specs.Trees as C
use Rattle.c_syntax.specs.declared.identifier.Identifier.{Identifier}
use Rattle.c_syntax.specs.Trees.{FunctionTree, DeclarationTree}
use Rattle.c_syntax.specs.Trees as T
use Rattle.c_checker_rules.specs.declared.errors.CheckError.TheVariants.{Redeclared, BadMain, Limit}
use Rattle.c_checker_rules.specs.declared.signature.Signature.{Signature}
use Rattle.c_checker_rules.specs.Told.{unless}
use Rattle.c_checker_rules.specs.Names.{Scope}
use Rattle.c_checker_rules.specs.Calls.{Functions, is_putchar}
use Rattle.c_checker_rules.specs.Locals.{is_short, longest_name}
use Rattle.c_checker_rules.specs.Globals.{is_main}
use Rattle.c_checker_rules.specs.Functions.{opened, signature_of, may_be, is_only_body, is_redeclared, is_countable, same_signature, takes_int, takes_nothing, function_name_faults, body_faults}
use Rattle.c_checker_rules.specs.Units.{File, behind, naming, known, functions_from, declarations_faults}
use Rattle.cminor_syntax.specs.Trees as M
use Rattle.cminor_syntax.specs.Fits.{IsFunction}
use Rattle.cminor_lowering.specs.Programs.{low_named}
use Rattle.cminor_lowering_ranges.proofs.Faults.{none_before, three_parts, holds}
use Rattle.cminor_lowering_ranges.proofs.Programs.{first_none, rest_none}
use Rattle.lang.specs.Form.{FunctionFits, name_limit}

-- the first body of a name has this number
abbrev Owns : List (Bound ℕ) → List ℕ → ℕ → Type 0
Owns bodies name number = (b : Bound ℕ) × (found name bodies ≡ Some b) × (b.value ≡ number)

one_owner : (bodies : List (Bound ℕ)) (name : List ℕ) (m n : ℕ) → Owns bodies name m → Owns bodies name n → m ≡ n
one_owner bodies name m n (b, there, first) (c, again, second) = sym first ∙ same (sym there ∙ again) ∙ second
  where
    same : Some b ≡ Some c → b.value ≡ c.value
    same e = cc

-- ---- what is known of a name

abbrev has_number : ℕ → Option (Bound ℕ) → Bool
has_number number None = false
has_number number (Some b) = b.value == number

is_owner : (bodies : List (Bound ℕ)) (x : Identifier) (number : ℕ) → is_only_body bodies x (Some number) ≡ true → Owns bodies x.name number
is_owner bodies x number e = at (found x.name bodies) refl (and_parts (not (is_putchar x.name)) (has_number number (found x.name bodies)) e).1
  where
    at : (r : Option (Bound ℕ)) → found x.name bodies ≡ r → has_number number r ≡ true → Owns bodies x.name number
    at None there same = absurd cc
    at (Some b) there same = (b, there, eqb-true b.value number same)

record IsNamed (bodies : List (Bound ℕ)) (x : Identifier) (number : ℕ) : Type 0 where
  owner : Owns bodies x.name number
  short : length x.name ≤ longest_name

twice_not : (z : Bool) → not (not z) ≡ true → z ≡ true
twice_not true e = refl
twice_not false e = e

is_named : (f : Functions) (scope : Scope) (x : Identifier) (s : Signature) (number : ℕ) → function_name_faults f scope x s (Some number) ≡ [] → IsNamed f.bodies x number
is_named f scope x s number none =
    let again = is_redeclared f scope x s (Some number) in
    let parts = three_parts (unless (not again) (Redeclared x.offset)) (unless (not (is_main x.name) || same_signature s takes_nothing) (BadMain x.offset))
    (unless (is_countable (Some number) && is_short x) (Limit x.offset)) none in
    let front = may_be f.signatures scope x s && is_only_body f.bodies x (Some number) in
    let once = and_parts front (not (is_putchar x.name) || same_signature s takes_int) (twice_not _ (holds (not again) (Redeclared x.offset) parts.0)) in
    let only = and_parts (may_be f.signatures scope x s) (is_only_body f.bodies x (Some number)) once.0 in
    let limit = and_parts (is_countable (Some number)) (is_short x) (holds (is_countable (Some number) && is_short x) (Limit x.offset) parts.2) in
    record { owner = is_owner f.bodies x number only.1; short = leb-true (length x.name) longest_name limit.1 }

-- ---- all names

-- each of these has a number below this one
abbrev AreBefore : {F : Type 0} → List (Bound ℕ) → List (Named F) → ℕ → Type 0
AreBefore all before n = AllByRecursion (λ g. (k : ℕ) × (k < n) × Owns all g.name k) before

pub low_names : (fs : List C.FunctionTree) → map (λ f. f.name) (map low_named fs) ≡ map (λ f. f.name) fs
low_names [] = refl
low_names (f ∷ fs) = ap (λ names. f.name ∷ names) (low_names fs)

pub first_same : (x y : List ℕ) (xs ys : List (List ℕ)) → x ∷ xs ≡ y ∷ ys → x ≡ y
first_same x y xs ys e = cc e

pub rest_same : (x y : List ℕ) (xs ys : List (List ℕ)) → x ∷ xs ≡ y ∷ ys → xs ≡ ys
rest_same x y xs ys e = cc e

module _ (all : List (Bound ℕ)) {F : Type 0} (Fits : F → Type 0) where
  differ : (before : List (Named F)) (n : ℕ) (name : List ℕ) → AreBefore all before n → Owns all name n → AllByRecursion (λ g. g.name ≢ name) before
  differ [] n name each own = tt
  differ (g ∷ gs) n name each own = (other each.0, differ gs n name each.1 own)
    where
      other : ((k : ℕ) × (k < n) × Owns all g.name k) → g.name ≡ name → ⊥
      other (k, lower, (b, there, is)) same =
          let equal : k ≡ n = one_owner all name k n (b, sym (ap (λ x. found x all) same) ∙ there, is) own in
          omega arith

  higher : (before : List (Named F)) (n : ℕ) → AreBefore all before n → AreBefore all before (suc n)
  higher [] n each = tt
  higher (g ∷ gs) n each = ((each.0.0, omega (arith, each.0.1), each.0.2), higher gs n each.1)

  -- a function under the name of one that is new
  here_fits : (before : List (Named F)) (m : Named F) (name : List ℕ) (n : ℕ) → m.name ≡ name → AreBefore all before n → Owns all name n → IsName name → length name ≤ longest_name → Fits m.function
      → FunctionFits Fits before m
  here_fits before m name n same each own is short fits = record {
    name = subst IsName (sym same) is;
    short = subst (λ x. length x ≤ name_limit) (sym same) short;
    new = subst (λ x. AllByRecursion (λ g. g.name ≢ x) before) (sym same) (differ before n name each own);
    function = fits;
  }

  -- functions under the names of a well formed text
  pub named_fit : (file : File) (ds : List DeclarationTree) (before made : List (Named F)) → declarations_faults all file ds ≡ [] → AreBefore all before file.defined →
      map (λ f. f.name) made ≡ map (λ f. f.name) (functions_from all file ds) → AllByRecursion (λ f. IsName f.name) (functions_from all file ds) → AllByRecursion (λ f. Fits f.function) made →
      EachFits (FunctionFits Fits) before made
  named_fit file [] before [] none each same names fits = tt
  named_fit file [] before (m ∷ made) none each same names fits = absurd (cc same)
  named_fit file (T.Global g ∷ ds) before made none each same names fits = named_fit (behind file (T.Global g)) ds before made (rest_none all file (T.Global g) ds none) each same names fits
  named_fit file (T.Prototype' p ∷ ds) before made none each same names fits = named_fit (behind file (T.Prototype' p)) ds before made (rest_none all file (T.Prototype' p) ds none) each same names fits
  named_fit file (T.Function g ∷ ds) before [] none each same names fits = absurd (cc same)
  named_fit file (T.Function g ∷ ds) before (m ∷ made) none each same names fits =
      let s = signature_of g.result (map opened g.parameters) in
      let first = none_before (function_name_faults (known all file) file.scope g.name s (Some file.defined)) (body_faults (known all (naming file g)) (naming file g).scope g) (first_none all file (T.Function g) ds none) in
      let here = is_named (known all file) file.scope g.name s file.defined first in
      let made_names = map (λ f. f.name) made in
      let text_names = map (λ f. f.name) (functions_from all (naming file g) ds) in
      let name = first_same m.name g.name.name made_names text_names same in
      let names_behind = rest_same m.name g.name.name made_names text_names same in
      let own = subst (λ x. Owns all x file.defined) (sym name) here.owner in
      let lower = higher before file.defined each in (
        here_fits before m g.name.name file.defined name each here.owner names.0 here.short fits.0,
        named_fit (naming file g) ds (before ++ m ∷ []) made (rest_none all file (T.Function g) ds none)
            (all_append (λ h. (k : ℕ) × (k < suc file.defined) × Owns all h.name k) before (m ∷ []) lower ((file.defined, omega arith, own), tt)) names_behind names.1 fits.1,
      )

pub functions_named : (all : List (Bound ℕ)) (file : File) (ds : List DeclarationTree) (before : List (Named M.FunctionTree)) → declarations_faults all file ds ≡ [] → AreBefore all before file.defined →
    AllByRecursion (λ f. IsName f.name) (functions_from all file ds) → AllByRecursion (λ f. IsFunction f.function) (map low_named (functions_from all file ds)) →
    EachFits (FunctionFits IsFunction) before (map low_named (functions_from all file ds))
functions_named all file ds before none each names fits =
    let fs = functions_from all file ds in
    named_fit all IsFunction file ds before (map low_named fs) none each (low_names fs) names fits
