-- Why `line_comment` meets its contract.
use Rattle.std.proofs.Common.{List, ℕ, subst, arith, length-drop}
use Rattle.std.proofs.lemmas.List.{take_rest}
use Rattle.c_lexer.proofs.CommentFronts.{IsLine, line_gap}
use Rattle.c_lexer.proofs.comments.line_comment.Goals as goal

pub returns : goal.returns
returns c =
    let text = c.args.text.now in
    let said = c.line_len.ensures in
    let line = subst (λ (l : List ℕ). IsLine l c.line_len.result) (take_rest text 2) (record { in_range = said.in_range; each = said.each; ends = said.ends }) in
    let space = line.in_range in
    (omega (arith, length-drop 2 text), line_gap text c.line_len.result c.requires.some c.requires.first c.requires.second line)
