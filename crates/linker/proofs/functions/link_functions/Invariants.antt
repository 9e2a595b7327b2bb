use Rattle.std.proofs.Common.{take}
use Rattle.linker.specs.Linked.{AreLinked}
use Rattle.linker.specs.Valid.{AreAccepted, AreFit}
use Rattle.linker.proofs.Each.{EachBefore}
use Rattle.linker.proofs.functions.link_functions.Given as goal

-- the first functions are linked, and their offers valid
abbrev pub invariant-loop-number : goal.invariant-loop-number
invariant-loop-number g l = record {
  linked : AreLinked (take l.number l.functions) (take l.number l.named) l.linked.items;
  fit : EachBefore (AreFit g.P1.In.Language.fits g.P1.Out.Language.fits g.P2.Out.Language.fits g.P3.Out.Language.fits g.P4.Out.Language.fits) l.named l.number;
  accepted : EachBefore (AreAccepted g.P1.Pass.accepts g.P2.Pass.accepts g.P3.Pass.accepts g.P4.Pass.accepts) l.named l.number;
}
