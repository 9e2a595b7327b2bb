-- One more place; behind the last one, all functions' offers chain where their texts are equal.
use Rattle.std.proofs.Common.{◌≡◌, ◌<◌, length, arith, refl}
use Rattle.linker.proofs.SameTexts.{all_follow, follow_next, as_many}
use Rattle.linker.proofs.laws.text_chains.Goals as goal

pub loop-number-preserved : goal.loop-number-preserved
loop-number-preserved g c =
    let functions = c.args.functions.now in
    let named = c.args.named.now in
    let n = c.loop-number.number in
    let in_functions = c.loop-number-test.true in
    let in_named : n < length named = omega (arith, c.loop-number.invariant.0, in_functions) in (
      c.loop-number.invariant.0,
      follow_next g.P1.In.Language.spelling g.P1.Out.Language.spelling g.P2.Out.Language.spelling g.P3.Out.Language.spelling functions named n
          c.index-functions-number.result c.index-named-number.result in_functions in_named c.loop-number.invariant.1 c.text_chain_beside.ensures,
    )

pub returns : goal.returns
returns g c = λ texts.
    all_follow g.P1.In.Language.spelling g.P1.Out.Language.spelling g.P2.Out.Language.spelling g.P3.Out.Language.spelling
    c.args.functions.now c.args.named.now (length c.args.functions.now) refl
    (λ k f m below in_functions in_named. c.loop-number.invariant.1 k f m (omega (arith, below, c.loop-number-test.false)) in_functions in_named) texts

pub returns-then-functions-named : goal.returns-then-functions-named
returns-then-functions-named g c = λ texts.
    let same : length c.args.functions.now ≡ length c.args.named.now =
    as_many g.P1.In.Language.spelling g.P1.Out.Language.spelling g.P2.Out.Language.spelling g.P3.Out.Language.spelling c.args.functions.now c.args.named.now texts in
    let never : ⊥ = grind (arith, same) in absurd never
