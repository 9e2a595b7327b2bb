-- Another name at a place makes other lists of names.
use Rattle.std.proofs.Common.{◌<◌, length, arith, sym, ◌∙◌}
use Rattle.bundle_offers.proofs.Compared.{same_name_at}
use Rattle.cfarm_verify_comparing.proofs.comparing.same_names.Goals as goal

pub returns-then-not-is_name : goal.returns-then-not-is_name
returns-then-not-is_name g c =
    let in_functions = c.loop-number-test.true in
    let in_others : c.loop-number.number < length c.args.others.now = omega (arith, c.loop-number.invariant.0, in_functions) in
    (λ yes. let never : ⊥ = cc in absurd never, λ e. c.if-not-is_name.ensures.1 (c.as_slice.ensures ∙ same_name_at _ _ _ _ _ in_functions in_others e ∙ sym c.as_slice-in-loop-number.ensures))
