-- One function more whose offers stand, or the first whose offers do not.
use Rattle.std.proofs.Common.{◌≡◌, ◌<◌, length, take, Ok, Err, sym, subst, arith}
use native.Mathlib.Numerals.{unary_clauses}
use Rattle.std.proofs.lemmas.List.{take_all}
use Rattle.bundle_reading.specs.Read.{offers_of}
use Rattle.bundle_offers.specs.Standing.{Judged}
use Rattle.bundle_offers.proofs.Standings.{FoursStand, all_stand, fault_at, judged_at, stand_next}
use Rattle.cfarm_library_verify.proofs.judging.first_fault.Goals as goal

pub loop-number-preserved : goal.loop-number-preserved
loop-number-preserved c =
    let n = c.loop-number.number in
    let f = c.index-functions-number in
    let x = c.index-fours-number in
    let in_fours : n < length c.args.fours.now = c.loop-number-test.true in
    let in_functions : n < length c.args.functions.now = omega (arith, in_fours, c.requires.same) in
    let judged = judged_at c.args.functions.now c.args.fours.now n f.result x.result (Ok tt) f.is x.is
    (subst (λ g. Judged g.function (offers_of x.result) (Ok tt)) (sym f.is) c.in-Ok.ensures) in
    simp unary_clauses (stand_next c.args.functions.now c.args.fours.now n in_functions in_fours (λ g y e e'. judged g y e e') c.loop-number.invariant)

pub returns-in-Err-clause-first : goal.returns-in-Err-clause-first
returns-in-Err-clause-first c =
    let n = c.loop-number.number in
    let f = c.index-functions-number in
    let x = c.index-fours-number in
    let in_fours : n < length c.args.fours.now = c.loop-number-test.true in
    let in_functions : n < length c.args.functions.now = omega (arith, in_fours, c.requires.same) in
    let judged = judged_at c.args.functions.now c.args.fours.now n f.result x.result (Err c.in-Err.fault) f.is x.is
    (subst (λ g. Judged g.function (offers_of x.result) (Err c.in-Err.fault)) (sym f.is) c.in-Err.ensures) in
    fault_at c.args.functions.now c.args.fours.now n c.in-Err.fault in_functions in_fours (λ g y e e'. judged g y e e') c.loop-number.invariant

pub returns-clause-stand : goal.returns-clause-stand
returns-clause-stand c =
    let n = c.loop-number.number in
    let functions : take n c.args.functions.now ≡ c.args.functions.now = take_all n c.args.functions.now (omega (arith, c.loop-number-test.false, c.requires.same)) in
    let fours : take n c.args.fours.now ≡ c.args.fours.now = take_all n c.args.fours.now (omega (arith, c.loop-number-test.false)) in
    all_stand c.args.functions.now c.args.fours.now (subst (λ fs. FoursStand fs c.args.fours.now) functions (subst (λ xs. FoursStand (take n c.args.functions.now) xs) fours c.loop-number.invariant))
