-- Why `are_in_range` meets its contract, and its loop over `named` keeps the invariant.
use Rattle.std.proofs.Common.{subst}
use Rattle.std.specs.Prelude.{All}
use Rattle.std.proofs.lemmas.List.Elements.{All-more}
use Rattle.cminor_syntax.specs.Fits.{IsFunction}
use Rattle.rtlgen.proofs.Firsts.{whole}
use Rattle.rtlgen.proofs.programs.are_in_range.Goals as goal

pub returns : goal.returns
returns c = subst (All (λ f. IsFunction f.function)) (whole c.args.functions.now c.loop-named.named-index c.loop-named-test.false) c.loop-named.invariant

pub loop-named-preserved : goal.loop-named-preserved
loop-named-preserved c =
    let here = subst (λ f. IsFunction f.function) c.named-item.is c.body-body.ensures.in_range in
    All-more (λ f. IsFunction f.function) c.args.functions.now c.loop-named.named-index c.named-item.result c.loop-named-test.true c.loop-named.invariant here
