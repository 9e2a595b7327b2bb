-- Why `call` meets its contract.
use Rattle.std.proofs.Common.{arith}
use Rattle.std.proofs.lemmas.List.Elements.{recursion_from_All}
use Rattle.rtl_acts.specs.Fits.{RegisterFits}
use Rattle.oracle_webs.proofs.names.Names.call.Goals as goal

pub returns : goal.returns
returns c = λ registers nodes fits behind. (
  record {
    function = fits.function;
    few = omega (arith, c.in_ok-named.ensures.count, fits.few);
    arguments = recursion_from_All (RegisterFits 65536) c.in_ok-named.named c.in_ok-named.ensures.fit;
    target = c.target.ensures;
  },
  behind,
)
