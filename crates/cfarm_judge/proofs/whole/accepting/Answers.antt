-- What is found of the text's own RTL is said of the text.
use Rattle.std.proofs.Common.{◌<◌, ◌≤◌, length, sym, ap, subst, ◌∙◌, arith}
use Rattle.c_checker_rules.specs.Checked.{program_tree}
use Rattle.cfarm_judge.specs.Judged.{IsNotJudged}
use Rattle.cfarm_judge.specs.Passes.{IsPassedAt}
use Rattle.cfarm_judge.specs.Under.{HasNone, IsUnder, IsPlaceOf}
use Rattle.cfarm_judge.proofs.Under.{under_at, place_below}
use Rattle.cfarm_judge.proofs.OfText.{judged_by, judged_wants, not_none, source_wants, text_has_none, unjudged_by}
use Rattle.cfarm_judge.proofs.whole.accepting.Goals as goal

pub bounds-functions-place : goal.bounds-functions-place
bounds-functions-place c = place_below c.as_slice-functions.result.now c.args.name.now c.in-Some.place c.in-Some.ensures

pub offset_bounds-functions-place : goal.offset_bounds-functions-place
offset_bounds-functions-place c =
    let functions = c.as_slice-functions.result.now in
    let below : c.in-Some.place < length functions = place_below functions c.args.name.now c.in-Some.place c.in-Some.ensures in
    let many : length functions ≤ 64 = subst (λ fs. length fs ≤ 64) (sym (c.as_slice-functions.ensures ∙ ap (λ p. p.functions) c.deref-begun.ensures)) c.in-Ok.ensures.count in
    omega (arith, below, many)

pub returns-in-None-clause-refused : goal.returns-in-None-clause-refused
returns-in-None-clause-refused c =
    let is = c.in-Ok.ensures.accepted in
    text_has_none c.args.text.now c.args.name.now c.args.offer.now is.0 is.1 (program_tree c.in-Ok.source.program) is.2 c.in-Ok.ensures.few c.deref-begun.result.now (c.deref-begun.ensures ∙ c.in-Ok.ensures.translated)
    (subst (λ fs. HasNone fs c.args.name.now) c.as_slice-functions.ensures c.in-None.ensures)

pub returns-in-Ok-judged-clause-judged : goal.returns-in-Ok-judged-clause-judged
returns-in-Ok-judged-clause-judged c =
    let is = c.in-Ok.ensures.accepted in
    let at = c.index-functions-place.is in
    let f = c.index-functions-place.result in
    let named = subst (λ fs. IsUnder fs c.args.name.now f.function) c.as_slice-functions.ensures (under_at c.as_slice-functions.result.now c.args.name.now c.in-Some.place f at c.in-Some.ensures) in
    judged_by c.args.text.now c.args.name.now c.args.offer.now is.0 is.1 (program_tree c.in-Ok.source.program) is.2 c.in-Ok.ensures.few c.deref-begun.result.now (c.deref-begun.ensures ∙ c.in-Ok.ensures.translated)
    f.function c.in-Ok-judged.pass named (subst (λ h. IsPassedAt h.function c.args.offer.now c.in-Ok-judged.pass) (sym at) c.in-Ok-judged.ensures.judged)

pub returns-clause-refused : goal.returns-clause-refused
returns-clause-refused c =
    let is = c.in-Ok.ensures.accepted in
    let at = c.index-functions-place.is in
    let f = c.index-functions-place.result in
    let named = subst (λ fs. IsUnder fs c.args.name.now f.function) c.as_slice-functions.ensures (under_at c.as_slice-functions.result.now c.args.name.now c.in-Some.place f at c.in-Some.ensures) in
    unjudged_by c.args.text.now c.args.name.now c.args.offer.now is.0 is.1 (program_tree c.in-Ok.source.program) is.2 c.in-Ok.ensures.few c.deref-begun.result.now (c.deref-begun.ensures ∙ c.in-Ok.ensures.translated)
    f.function c.in-Err-judged.fault named (subst (λ h. IsNotJudged h.function c.args.offer.now c.in-Err-judged.fault) (sym at) c.in-Err-judged.ensures.refused)

pub returns-in-Err-clause-only : goal.returns-in-Err-clause-only
returns-in-Err-clause-only c = λ pass is.
    source_wants c.args.text.now c.args.name.now c.args.offer.now pass is c.in-Err.fault (c.in-Err.ensures.only is.of_text.tree is.of_text.accepted)

pub returns-in-None-clause-only : goal.returns-in-None-clause-only
returns-in-None-clause-only c = λ pass is.
    not_none c.args.text.now c.args.name.now c.args.offer.now pass is (program_tree c.in-Ok.source.program) (c.in-Ok.ensures.only is.of_text.tree is.of_text.accepted) c.deref-begun.result.now (c.deref-begun.ensures ∙ c.in-Ok.ensures.translated)
    (subst (λ fs. HasNone fs c.args.name.now) c.as_slice-functions.ensures c.in-None.ensures)

pub returns-clause-only : goal.returns-clause-only
returns-clause-only c = λ pass is.
    let at = c.index-functions-place.is in
    let f = c.index-functions-place.result in
    let named = subst (λ fs. IsUnder fs c.args.name.now f.function) c.as_slice-functions.ensures (under_at c.as_slice-functions.result.now c.args.name.now c.in-Some.place f at c.in-Some.ensures) in
    judged_wants c.args.text.now c.args.name.now c.args.offer.now pass is (program_tree c.in-Ok.source.program) (c.in-Ok.ensures.only is.of_text.tree is.of_text.accepted) c.deref-begun.result.now (c.deref-begun.ensures ∙ c.in-Ok.ensures.translated)
    f.function c.in-Err-judged.fault named (subst (λ h. IsNotJudged h.function c.args.offer.now c.in-Err-judged.fault) (sym at) c.in-Err-judged.ensures.refused)
