use Rattle.std.proofs.Common.{◌≡◌, ◌≤◌, length}
use Rattle.std.specs.Vec.Iter.{into_iter_items, into_iter_len}
use Rattle.cminor_syntax.specs.Views.{statements_tree}
use Rattle.cminor_lowering.specs.Sequences.{most_statements, pieces}
use Rattle.cminor.proofs.Cutting.{so_far}
use Rattle.cminor.proofs.sequences.cut.Given as goal

abbrev pub invariant-loop-statement : goal.invariant-loop-statement
invariant-loop-statement l =
    (so_far l.pieces.items l.piece.items (into_iter_items l.statement-iterator) ≡ pieces (statements_tree l.fn.statements.items))
    × (length l.piece.items ≤ most_statements)
    × (into_iter_len l.statement-iterator ≡ length (into_iter_items l.statement-iterator))
