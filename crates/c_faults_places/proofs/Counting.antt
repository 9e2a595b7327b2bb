-- As many lists of places as functions.
use Rattle.std.proofs.Common.{suc, [], ◌∷◌, refl, ap, arith}
use Rattle.c_syntax.specs.Trees.{DeclarationTree}
use Rattle.c_syntax.specs.Trees as T
use Rattle.c_faults_tokens.specs.Declarations.{behind_declaration}
use Rattle.c_faults_places.specs.Table.{HasPlacesOfFunctions}

pub counted : HasPlacesOfFunctions
counted [] gs ts e = refl
counted (T.Global g ∷ ds) gs ts e = counted ds gs (behind_declaration (T.Global g) ts) e
counted (T.Prototype' p ∷ ds) gs ts e = counted ds gs (behind_declaration (T.Prototype' p) ts) e
counted (T.Function f ∷ ds) [] ts e = absurd (omega arith)
counted (T.Function f ∷ ds) (g ∷ gs) ts e = ap suc (counted ds gs (behind_declaration (T.Function f) ts) (omega arith))
