-- The places of a text's functions, by its tokens: of each the place of its closing brace, and then those of its parts.
use Rattle.std.specs.Prelude.{◌≡◌, ℕ, suc, List, [], ◌∷◌, length, map}
use Rattle.c_syntax.specs.declared.token.Token.{Token}
use Rattle.c_syntax.specs.declared.declaration.Function as S
use Rattle.c_syntax.specs.declared.declaration.Declaration.{Declaration}
use Rattle.c_syntax.specs.Trees.{FunctionTree, DeclarationTree}
use Rattle.c_syntax.specs.Trees as T
use Rattle.c_syntax.specs.Views.{function_tree, declaration_tree}
use Rattle.c_program.specs.declared.function.Function as F
use Rattle.c_program.specs.Trees as P
use Rattle.c_program.specs.Views as V
use Rattle.c_faults_tokens.specs.Tokens.{start, behind_statements}
use Rattle.c_faults_tokens.specs.Declarations.{body_tokens, behind_declaration}
use Rattle.c_faults_places.specs.Actions.{actions_places}

abbrev pub function_places : FunctionTree → P.FunctionTree → List Token → List ℕ
function_places f g ts = start (behind_statements f.body (body_tokens f ts)) ∷ actions_places f.body g.body (body_tokens f ts)

-- the places of the functions that are declared here, which stand for these
abbrev pub places_of : List DeclarationTree → List P.FunctionTree → List Token → List (List ℕ)
places_of [] gs ts = []
places_of (T.Global g ∷ ds) gs ts = places_of ds gs (behind_declaration (T.Global g) ts)
places_of (T.Prototype' p ∷ ds) gs ts = places_of ds gs (behind_declaration (T.Prototype' p) ts)
places_of (T.Function f ∷ ds) [] ts = []
places_of (T.Function f ∷ ds) (g ∷ gs) ts = function_places f g ts ∷ places_of ds gs (behind_declaration (T.Function f) ts)

-- how many functions are declared
abbrev pub defined : List DeclarationTree → ℕ
defined [] = 0
defined (T.Global g ∷ ds) = defined ds
defined (T.Prototype' p ∷ ds) = defined ds
defined (T.Function f ∷ ds) = suc (defined ds)

-- There are places of each function that is declared, where each has its checked one.
abbrev pub HasPlacesOfFunctions : Type 0
HasPlacesOfFunctions =
    (ds : List DeclarationTree) (gs : List P.FunctionTree) (ts : List Token) → length gs ≡ defined ds → length (places_of ds gs ts) ≡ defined ds

-- These are the places of this function of the text, which stands for the checked one.
abbrev pub PlacesAre : S.Function → F.Function → List Token → List ℕ → Type 0
PlacesAre f g ts places = places ≡ function_places (function_tree f) (V.function_tree g) ts

-- These are the places of the functions of a text with these tokens and checked functions.
abbrev pub TableIs : List Declaration → List F.Function → List Token → List (List ℕ) → Type 0
TableIs ds gs ts table = table ≡ places_of (map declaration_tree ds) (map V.function_tree gs) ts
