-- A function that differs, or one more that is the same.
use Rattle.std.proofs.Common.{◌≡◌, ◌<◌, ◌≤◌, length, get_or, refl, sym, ap, ◌∙◌, arith}
use native.Mathlib.Numerals.{unary_clauses}
use Rattle.bundle_reading.specs.Offered.{ends_of}
use Rattle.bundle_reading.specs.Read.{offers_in}
use Rattle.bundle_offers.proofs.Compared.{same_name_at, same_next}
use Rattle.cfarm_verify_comparing.proofs.Compared.{other_at}
use Rattle.cfarm_verify_comparing.proofs.Ends.{at_any, end_at, ends_many, ends_named, whole}
use Rattle.cfarm_verify_comparing.proofs.comparing.first_other.Goals as goal

pub returns-then-not-same_function : goal.returns-then-not-same_function
returns-then-not-same_function c =
    let done = c.loop-number in
    let begun = c.args.begun.now in
    let fours = c.args.fours.now in
    let ends = ends_of begun (offers_in fours) in
    let four = c.index-fours-number in
    let g = c.index-functions-number in
    let f = get_or ends done.number g.result in
    let in_begun : done.number < length begun = c.loop-number-test.true in
    let in_ends : done.number < length ends = omega (arith, ends_many begun fours c.requires.many, in_begun) in
    let in_functions : done.number < length c.args.functions.now = omega (arith, done.invariant.0, in_begun) in
    other_at ends c.args.functions.now done.number f g.result in_ends in_functions (at_any ends done.number g.result f in_ends) g.is
    (λ e.
    let same = ap (λ h. h.function) (sym g.is) ∙ e ∙ end_at begun fours done.number four.result g.result c.requires.many in_begun four.is ∙ ap (λ h. h.order.output) four.is in
    let told = c.if-not-same_function.ensures.1 same in
    let never : ⊥ = cc told in
    never) done.invariant.1

pub loop-number-preserved : goal.loop-number-preserved
loop-number-preserved c =
    let done = c.loop-number in
    let begun = c.args.begun.now in
    let fours = c.args.fours.now in
    let ends = ends_of begun (offers_in fours) in
    let four = c.index-fours-number in
    let g = c.index-functions-number in
    let f = get_or ends done.number g.result in
    let in_begun : done.number < length begun = c.loop-number-test.true in
    let in_ends : done.number < length ends = omega (arith, ends_many begun fours c.requires.many, in_begun) in
    let in_functions : done.number < length c.args.functions.now = omega (arith, done.invariant.0, in_begun) in
    let function =
    ap (λ h. h.function) g.is ∙ c.if-not-same_function.ensures.0 refl ∙ sym (ap (λ h. h.order.output) four.is)
    ∙ sym (end_at begun fours done.number four.result g.result c.requires.many in_begun four.is) in
    let name = ap (λ h. h.name) g.is ∙ sym (same_name_at ends c.args.functions.now done.number g.result g.result in_ends in_functions (c.requires.names ∙ sym (ends_named begun fours c.requires.many))) in
    let whole : g.result ≡ f = λ i. record { name = name i; function = function i } in
    simp unary_clauses (done.invariant.0, same_next ends c.args.functions.now done.number f g.result in_ends in_functions (at_any ends done.number g.result f in_ends) g.is whole done.invariant.1)

pub returns : goal.returns
returns c =
    let done = c.loop-number in
    let begun = c.args.begun.now in
    let fours = c.args.fours.now in
    let ends = ends_of begun (offers_in fours) in
    let no_more : length begun ≤ done.number = omega (arith, c.loop-number-test.false, done.auto.number-end) in
    sym (whole done.number c.args.functions.now (omega (arith, done.invariant.0, no_more))) ∙ done.invariant.1
    ∙ whole done.number ends (omega (arith, ends_many begun fours c.requires.many, no_more))
