-- What is told of a program, by equal tokens, declarations and trees.
use Rattle.std.proofs.Common.{◌≡◌, ℕ, List, Option, subst}
use Rattle.c_syntax.specs.declared.token.Token.{Token}
use Rattle.c_syntax.specs.Trees.{DeclarationTree}
use Rattle.c_program.specs.Trees.{ProgramTree}
use Rattle.cfarm_explain.specs.Explained.{IsTold}

pub told_as : (path text : List ℕ) (ts ts' : List Token) (ds ds' : List DeclarationTree) (p p' : ProgramTree) (depth : ℕ) (told : Option (List ℕ)) →
    ts ≡ ts' → ds ≡ ds' → p ≡ p' → IsTold path text ts ds p depth told → IsTold path text ts' ds' p' depth told
told_as path text ts ts' ds ds' p p' depth told t d e is =
    subst (λ (x : List Token). IsTold path text x ds' p' depth told) t
    (subst (λ (x : List DeclarationTree). IsTold path text ts x p' depth told) d (subst (λ (x : ProgramTree). IsTold path text ts ds x depth told) e is))
