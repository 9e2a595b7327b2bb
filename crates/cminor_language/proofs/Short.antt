-- A function's counts have space in their bytes.
use Rattle.cminor_syntax.specs.Trees.{StatementTree, StatementsTree, Skip, Assign, Store, Call, Put, Sequence, If, Loop, Block, Exit, Return, Done, First}
use Rattle.std.proofs.Common.{ℕ}
use Rattle.cminor_syntax.specs.Fits.{StatementFits, StatementsFit}
use Rattle.cminor_codec.specs.Short.{HasShortLists, HaveShortLists}

mutual
  pub short : (variables : ℕ) (s : StatementTree) → StatementFits variables s → HasShortLists s
  short variables Skip fits = tt
  short variables (Assign v e) fits = tt
  short variables (Store g i e) fits = tt
  short variables (Call f t arguments) fits = fits.1.1.0
  short variables (Put t e) fits = tt
  short variables (Sequence ss) fits = (fits.0, all_short variables ss fits.1)
  short variables (If e s t) fits = (short variables s fits.1.0, short variables t fits.1.1)
  short variables (Loop s) fits = short variables s fits
  short variables (Block s) fits = short variables s fits
  short variables (Exit n) fits = tt
  short variables (Return e) fits = tt

  all_short : (variables : ℕ) (ss : StatementsTree) → StatementsFit variables ss → HaveShortLists ss
  all_short variables Done fits = tt
  all_short variables (First s rest) fits = (short variables s fits.0, all_short variables rest fits.1)
