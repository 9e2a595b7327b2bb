-- Why `block_comment` meets its contract.
use Rattle.std.proofs.Common.{List, ℕ, length, refl, subst, arith, length-drop}
use Rattle.std.proofs.lemmas.List.{take_rest}
use Rattle.c_lexer.specs.Closings.{NoClose, IsFirstClose}
use Rattle.c_lexer.proofs.CommentFronts.{block_gap, open_comment}
use Rattle.c_lexer.proofs.comments.block_comment.Goals as goal

pub returns-in-Some : goal.returns-in-Some
returns-in-Some c =
    let text = c.args.text.now in
    let closes = subst (λ (l : List ℕ). IsFirstClose l c.in-Some.n) (take_rest text 2) c.in-Some.ensures in
    let space = closes.space in
    (omega (arith, length-drop 2 text), block_gap text c.in-Some.n c.requires.some c.requires.first c.requires.second closes)

pub returns-in-None : goal.returns-in-None
returns-in-None c memory =
    let text = c.args.text.now in
    (refl, open_comment text c.requires.some c.requires.first c.requires.second (subst (λ (l : List ℕ). NoClose l (length l)) (take_rest text 2) c.in-None.ensures))
