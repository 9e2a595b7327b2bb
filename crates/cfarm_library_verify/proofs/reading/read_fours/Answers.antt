-- One more function's parts, or a function whose texts spell none.
use Rattle.std.proofs.Common.{◌≡◌, suc, ◌<◌, length, take, sym, subst, arith}
use native.Mathlib.Numerals.{unary_clauses}
use Rattle.std.proofs.lemmas.List.{take_all}
use Rattle.bundle_reading.specs.Read.{AreRead}
use Rattle.cfarm_library_verify.proofs.Numbered.{none_at, read_next}
use Rattle.cfarm_library_verify.proofs.reading.read_fours.Goals as goal

pub loop-number-preserved : goal.loop-number-preserved
loop-number-preserved c =
    let n = c.loop-number.number in
    let here : n < length c.args.functions.now = c.loop-number-test.true in
    let more = read_next c.args.functions.now c.loop-number.fours.items n c.index-functions-number.result c.in-Ok.four here c.index-functions-number.is c.in-Ok.ensures c.loop-number.invariant in
    simp unary_clauses (subst (λ l. AreRead (take (suc n) c.args.functions.now) l) (sym c.in-Ok-push.ensures.items) more)

pub returns-in-Err-clause-refused : goal.returns-in-Err-clause-refused
returns-in-Err-clause-refused c =
    let n = c.loop-number.number in
    none_at c.args.functions.now n c.index-functions-number.result c.in-Err.fault c.loop-number-test.true c.index-functions-number.is c.in-Err.ensures

pub returns-clause-read : goal.returns-clause-read
returns-clause-read c =
    let n = c.loop-number.number in
    let all : take n c.args.functions.now ≡ c.args.functions.now = take_all n c.args.functions.now (omega (arith, c.loop-number-test.false)) in
    subst (λ l. AreRead l c.loop-number.fours.items) all c.loop-number.invariant
