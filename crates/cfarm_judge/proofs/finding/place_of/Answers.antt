-- One function more of another name, or one of this name.
use Rattle.std.proofs.Common.{◌≡◌, ◌≤◌, refl, sym, ap, subst, ◌∙◌, length, take, arith}
use native.Mathlib.Numerals.{unary_clauses}
use Rattle.std.proofs.lemmas.List.{take_all}
use Rattle.cfarm_judge.specs.Under.{HasNone}
use Rattle.cfarm_judge.proofs.Under.{none_next, stands_under}
use Rattle.cfarm_judge.proofs.finding.place_of.Goals as goal

pub loop-number-preserved : goal.loop-number-preserved
loop-number-preserved g c =
    let f = c.index-functions-number in
    simp unary_clauses (none_next c.args.functions.now c.args.name.now c.loop-number.number f.result c.loop-number-test.true f.is
    (λ e. let told = c.if-is_name.ensures.1 (c.as_slice.ensures ∙ sym (ap (λ h. h.name) f.is) ∙ e) in let never : ⊥ = cc told in never) c.loop-number.invariant)

pub returns-then-is_name : goal.returns-then-is_name
returns-then-is_name g c =
    let f = c.index-functions-number in
    stands_under c.args.functions.now c.args.name.now c.loop-number.number f.result c.loop-number-test.true f.is (ap (λ h. h.name) f.is ∙ sym c.as_slice.ensures ∙ c.if-is_name.ensures.0 refl) c.loop-number.invariant

pub returns : goal.returns
returns g c =
    let all = take_all c.loop-number.number c.args.functions.now (omega (arith, c.loop-number-test.false)) in
    subst (λ fs. HasNone fs c.args.name.now) all c.loop-number.invariant
