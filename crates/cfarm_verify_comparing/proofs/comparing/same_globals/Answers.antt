-- A global that differs, or one more that is the same.
use Rattle.std.proofs.Common.{◌<◌, length, refl, arith}
use native.Mathlib.Numerals.{unary_clauses}
use Rattle.bundle_offers.proofs.Compared.{differ_at, same_next}
use Rattle.cfarm_verify_comparing.proofs.comparing.same_globals.Goals as goal

pub returns-then-not-same_global : goal.returns-then-not-same_global
returns-then-not-same_global c =
    let done = c.loop-number in
    let g = c.index-globals-number in
    let o = c.index-others-number in
    let in_globals = c.loop-number-test.true in
    let in_others : done.number < length c.args.others.now = omega (arith, done.invariant.0, in_globals) in
    let differ = differ_at c.args.globals.now c.args.others.now done.number g.result o.result in_globals in_others g.is o.is
    (λ e. let told = c.if-not-same_global.ensures.1 e in let never : ⊥ = cc told in never) in
    (λ yes. let never : ⊥ = cc in absurd never, λ e. absurd (differ e))

pub loop-number-preserved : goal.loop-number-preserved
loop-number-preserved c =
    let done = c.loop-number in
    let g = c.index-globals-number in
    let o = c.index-others-number in
    let in_globals = c.loop-number-test.true in
    let in_others : done.number < length c.args.others.now = omega (arith, done.invariant.0, in_globals) in
    let one = c.if-not-same_global.ensures.0 refl in
    simp unary_clauses (done.invariant.0, same_next c.args.globals.now c.args.others.now done.number g.result o.result in_globals in_others g.is o.is one done.invariant.1)
