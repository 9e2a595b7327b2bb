-- Why the loop of `first_registers` over `number` keeps the invariant.
use Rattle.std.proofs.Common.{◌≡◌, ◌+◌, [], ◌∷◌, ◌++◌, sym, ap, add-one, ◌∙◌, arith}
use Rattle.rtlgen_definition.specs.Gen.{numbers_from}
use Rattle.rtlgen.proofs.Made.{numbers_more}
use Rattle.rtlgen.proofs.functions.first_registers.Goals as goal

pub loop-number-preserved : goal.loop-number-preserved
loop-number-preserved c =
    let n = c.loop-number.number in
    let last : c.from.result ≡ 0 + n = omega (arith, c.from.ensures) in
    c.in_ok-push.ensures.items ∙ (λ i. c.loop-number.invariant i ++ last i ∷ []) ∙ sym (numbers_more 0 n) ∙ ap (numbers_from 0) (sym (add-one n))
