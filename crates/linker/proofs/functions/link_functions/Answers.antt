-- One more function is linked, or its fault is the first.
use Rattle.std.proofs.Common.{◌<◌, length, arith}
use native.Mathlib.Numerals.{unary_clauses}
use Rattle.std.proofs.lemmas.Result.{err_from_is_err_and}
use Rattle.linker.specs.Valid.{AreAccepted, AreFit}
use Rattle.linker.proofs.Each.{all_of, none_yet, one_more}
use Rattle.linker.proofs.Fronts.{linked_next, first_fault}
use Rattle.linker.proofs.functions.link_functions.Goals as goal

pub loop-number-init : goal.loop-number-init
loop-number-init g c = record {
  linked = rw c.in_ok-linked.ensures.items tt;
  fit = none_yet (AreFit g.P1.In.Language.fits g.P1.Out.Language.fits g.P2.Out.Language.fits g.P3.Out.Language.fits g.P4.Out.Language.fits) c.args.named.now;
  accepted = none_yet (AreAccepted g.P1.Pass.accepts g.P2.Pass.accepts g.P3.Pass.accepts g.P4.Pass.accepts) c.args.named.now;
}

pub loop-number-preserved : goal.loop-number-preserved
loop-number-preserved g c =
    let done = c.loop-number in
    let in_functions = c.loop-number-test.true in
    let in_named : done.number < length c.args.named.now = omega (arith, c.requires, in_functions) in
    let more = linked_next c.args.functions.now c.args.named.now done.number done.linked.items c.index-functions-number.result c.index-named-number.result c.in_ok-made.made
    in_functions in_named c.index-functions-number.is c.index-named-number.is done.invariant.linked c.in_ok-made.ensures.ok in
    record {
      linked = rw c.in_ok-push.ensures.items (simp unary_clauses more);
      fit = one_more (AreFit g.P1.In.Language.fits g.P1.Out.Language.fits g.P2.Out.Language.fits g.P3.Out.Language.fits g.P4.Out.Language.fits) c.args.named.now done.number c.index-named-number.result in_named c.index-named-number.is done.invariant.fit c.in_ok-made.ensures.fit;
      accepted = one_more (AreAccepted g.P1.Pass.accepts g.P2.Pass.accepts g.P3.Pass.accepts g.P4.Pass.accepts) c.args.named.now done.number c.index-named-number.result in_named c.index-named-number.is done.invariant.accepted c.in_ok-made.ensures.accepted;
    }

pub returns-clause-fit : goal.returns-clause-fit
returns-clause-fit g c = all_of (AreFit g.P1.In.Language.fits g.P1.Out.Language.fits g.P2.Out.Language.fits g.P3.Out.Language.fits g.P4.Out.Language.fits) c.args.named.now c.loop-number.number (omega (arith, c.requires, c.loop-number-test.false)) c.loop-number.invariant.fit

pub returns-clause-accepted : goal.returns-clause-accepted
returns-clause-accepted g c = all_of (AreAccepted g.P1.Pass.accepts g.P2.Pass.accepts g.P3.Pass.accepts g.P4.Pass.accepts) c.args.named.now c.loop-number.number (omega (arith, c.requires, c.loop-number-test.false)) c.loop-number.invariant.accepted

pub returns-in_err-made-clause-first : goal.returns-in_err-made-clause-first
returns-in_err-made-clause-first g c =
    let done = c.loop-number in
    let in_functions = c.loop-number-test.true in
    let in_named : done.number < length c.args.named.now = omega (arith, c.requires, in_functions) in
    let p = err_from_is_err_and c.from_residual-in_err-made.result c.from_residual-in_err-made.ensures.1 in rw (p.1, p.2) (first_fault c.args.functions.now c.args.named.now done.number done.linked.items c.index-functions-number.result c.index-named-number.result _
    in_functions in_named c.index-functions-number.is c.index-named-number.is done.invariant.linked c.in_err-made.ensures.err)
