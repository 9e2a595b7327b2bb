-- Statements whose counts have space in their bytes, as those of each function have.
use Rattle.std.specs.Prelude.{◌<◌, ◌^◌, length}
use Rattle.cminor_syntax.specs.Trees.{StatementTree, StatementsTree, Skip, Assign, Store, Call, Put, Sequence, If, Loop, Block, Exit, Return, Done, First}
use Rattle.cminor_syntax.specs.Fits.{statement_count}

abbrev mutual
  pub HasShortLists : StatementTree → Type 0
  HasShortLists Skip = Unit {0}
  HasShortLists (Assign v e) = Unit {0}
  HasShortLists (Store g i e) = Unit {0}
  HasShortLists (Call f target arguments) = length arguments < 256
  HasShortLists (Put target e) = Unit {0}
  HasShortLists (Sequence ss) = (statement_count ss < 2 ^ 32) × HaveShortLists ss
  HasShortLists (If e s t) = HasShortLists s × HasShortLists t
  HasShortLists (Loop s) = HasShortLists s
  HasShortLists (Block s) = HasShortLists s
  HasShortLists (Exit n) = Unit {0}
  HasShortLists (Return e) = Unit {0}

  pub HaveShortLists : StatementsTree → Type 0
  HaveShortLists Done = Unit {0}
  HaveShortLists (First s rest) = HasShortLists s × HaveShortLists rest
