-- One function more whose offers stand, or the first whose offers do not.
use Rattle.std.proofs.Common.{◌≡◌, ◌<◌, length, take, subst, arith}
use native.Mathlib.Numerals.{unary_clauses}
use Rattle.std.proofs.lemmas.List.{take_all}
use Rattle.bundle_offers.proofs.Standings.{FoursStand, all_stand, fault_at, stand_next}
use Rattle.bundle_offers.proofs.judging.first_fault.Goals as goal

pub loop-number-preserved : goal.loop-number-preserved
loop-number-preserved c =
    let n = c.loop-number.number in
    let many = c.requires.judged.count in
    let here : n < length c.args.judged.now = c.loop-number-test.true in
    let in_fours : n < length c.args.fours.now = omega (arith, here, many) in
    let in_functions : n < length c.args.functions.now = omega (arith, in_fours, c.requires.same) in
    simp unary_clauses (stand_next c.args.functions.now c.args.fours.now n in_functions in_fours (λ f four e e'. c.requires.judged.each n _ c.in-Ok.ensures f four e e') c.loop-number.invariant)

pub returns-in-Err-clause-first : goal.returns-in-Err-clause-first
returns-in-Err-clause-first c =
    let n = c.loop-number.number in
    let many = c.requires.judged.count in
    let here : n < length c.args.judged.now = c.loop-number-test.true in
    let in_fours : n < length c.args.fours.now = omega (arith, here, many) in
    let in_functions : n < length c.args.functions.now = omega (arith, in_fours, c.requires.same) in
    fault_at c.args.functions.now c.args.fours.now n c.in-Err.fault in_functions in_fours (λ f four e e'. c.requires.judged.each n _ c.in-Err.ensures f four e e') c.loop-number.invariant

pub returns-clause-stand : goal.returns-clause-stand
returns-clause-stand c =
    let n = c.loop-number.number in
    let many = c.requires.judged.count in
    let functions : take n c.args.functions.now ≡ c.args.functions.now = take_all n c.args.functions.now (omega (arith, c.loop-number-test.false, many, c.requires.same)) in
    let fours : take n c.args.fours.now ≡ c.args.fours.now = take_all n c.args.fours.now (omega (arith, c.loop-number-test.false, many)) in
    all_stand c.args.functions.now c.args.fours.now (subst (λ fs. FoursStand fs c.args.fours.now) functions (subst (λ xs. FoursStand (take n c.args.functions.now) xs) fours c.loop-number.invariant))
