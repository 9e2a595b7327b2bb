-- Why `read_so_many` meets its contract.
use Rattle.std.proofs.Common.{◌∙◌}
use Rattle.std.proofs.lemmas.Result.{err_from_is_err_and}
use Rattle.lang_base.proofs.Loops.{goes_on, stops}
use Rattle.lang_helpers.proofs.many.read_so_many.Goals as goal

pub returns-in_err-one : goal.returns-in_err-one
returns-in_err-one g c =
    let p = err_from_is_err_and c.from_residual.result c.from_residual.ensures.1 in
    rw (p.1, p.2) (λ memory. stops (g.R.ReadOne.part c.args.reader) c.args.count _ c.in_err-one.field-0.0 c.loop.all.items c.loop.counter c.loop.bytes.now c.loop-test.true c.loop.invariant.under_way (rw (← c.loop.invariant.same, ← c.deref.ensures.value) (c.in_err-one.ensures.read memory)))

pub loop-preserved : goal.loop-preserved
loop-preserved g c =
    rw c.in_ok-push.ensures.items (record {
      under_way = goes_on (g.R.ReadOne.part c.args.reader) c.args.count _ c.loop.all.items c.loop.counter c.loop.bytes.now _ c.read.new.bytes.now c.loop-test.true c.loop.invariant.under_way (rw (← c.loop.invariant.same, ← c.deref.ensures.value) c.in_ok-one.ensures.read);
      same = c.in_ok-one.ensures.same ∙ c.loop.invariant.same;
      keeps = rw (← c.deref.ensures.value) c.in_ok-one.ensures.keeps;
    })
