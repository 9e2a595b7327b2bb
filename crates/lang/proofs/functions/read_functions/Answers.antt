-- Why `read_functions` meets its contract.
use Rattle.std.proofs.Common.{◌<◌, length, arith}
use Rattle.std.proofs.lemmas.Result.{err_from_is_err_and}
use Rattle.lang.proofs.NamedRows.{under_way, functions_stop, one_more}
use Rattle.lang.proofs.functions.read_functions.Goals as goal

pub loop-init : goal.loop-init
loop-init g c = under_way g.L.Language.spelling g.L.Language.fits _ _ c.new-functions.ensures.items

pub returns-in_err-function : goal.returns-in_err-function
returns-in_err-function g c =
    let p = err_from_is_err_and c.from_residual.result c.from_residual.ensures.1 in
    let lt : length c.loop.functions.items < c.args.count = omega (arith, c.loop.invariant.so_far, c.loop-test.true) in
    rw (p.1, p.2) (λ memory. functions_stop g.L.Language.spelling g.L.Language.fits g.met.L.Language.one_spelling c.args.count c.args.bytes.now.now c.loop.bytes.now c.loop.functions.items c.loop.invariant.parts c.loop.invariant.fits lt (rw (← c.deref.ensures.value) (c.in_err-function.ensures memory)))

pub loop-preserved : goal.loop-preserved
loop-preserved g c =
    let front = rw c.deref.ensures.value at c.in_ok-function.ensures in
    rw c.in_ok-push.ensures.items (one_more g.L.Language.spelling g.L.Language.fits c.args.bytes.now.now c.loop.functions.items c.loop.bytes.now c.loop.counter c.in_ok-function.function c.read_named.new.bytes.now c.loop.invariant front.0 front.1)

pub returns : goal.returns
returns g c = rw c.from_vec.ensures (c.loop.invariant.parts, (omega (arith, c.loop.invariant.so_far), c.loop.invariant.fits))
