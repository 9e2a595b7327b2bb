-- Why `block_of` meets its contract.
use Rattle.std.proofs.Common.{ap, ◌∙◌}
use Rattle.c_syntax.specs.Trees as T
use Rattle.c_syntax.specs.Views.{statements_tree}
use Rattle.c_reader_statements.proofs.Blocks.{view-Block}
use Rattle.c_reader_statements.proofs.reading.block_of.Goals as goal

pub returns : goal.returns
returns c = view-Block c.fitted.result ∙ ap (λ l. T.Block (statements_tree l)) c.fitted.ensures
