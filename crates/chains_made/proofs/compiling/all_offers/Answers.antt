-- One more function's offers; those of a function of few registers are refused only where memory is out.
use Rattle.std.proofs.Common.{◌<◌, ap, sym, subst, ◌∙◌, arith}
use native.Mathlib.Numerals.{unary_clauses}
use Rattle.std.proofs.lemmas.Result.{err_from_is_err_and}
use Rattle.std.proofs.lemmas.List.Elements.{All-nil, All-push}
use Rattle.alloc_check_rules.specs.Rules.{IsTooLarge}
use Rattle.chains.specs.Accepted.{AreAccepted}
use Rattle.chains_made.specs.Baselines.{AreBaselines}
use Rattle.chains.specs.Offered.{GoOnFrom}
use Rattle.chains_made.proofs.Counting.{counted_none, counted_next}
use Rattle.chains.proofs.GoingOn.{go_on_next}
use Rattle.chains_made.proofs.Memory.{only_memory}
use Rattle.chains_made.proofs.Registers.{few_at}
use Rattle.chains_made.proofs.compiling.all_offers.Goals as goal

pub loop-number-preserved : goal.loop-number-preserved
loop-number-preserved c =
    let done = c.loop-number in
    let made = c.in_ok-offers_of.field-0 in
    let goes = subst (λ f. GoOnFrom f.function made) (sym c.index-functions-number.is) c.in_ok-offers_of.ensures.chained in
    let more = go_on_next c.args.functions.now done.number done.offers.items c.index-functions-number.result made
    c.loop-number-test.true c.index-functions-number.is done.invariant.0 goes in
    let accepted = All-push AreAccepted done.offers.items made done.invariant.1 c.in_ok-offers_of.ensures.accepted in
    let counted = counted_next _ _ _ done.offers.items made done.invariant.2 c.in_ok-offers_of.ensures.counted in
    rw c.in_ok-push.ensures.items (simp unary_clauses (
      more,
      accepted,
      counted,
      λ none.
          let before = done.invariant.3 none in
          let still = ap (λ m. m.draws) before.0 ∙ none in
          (c.in_ok-offers_of.ensures.stays still ∙ before.0, All-push AreBaselines done.offers.items made before.1 (c.in_ok-offers_of.ensures.alone still)),
    ))

pub returns-in_err-offers_of-clause-refused : goal.returns-in_err-offers_of-clause-refused
returns-in_err-offers_of-clause-refused c = λ small.
    let f = c.index-functions-number.result in
    let few = few_at c.args.functions.now c.loop-number.number f c.loop-number-test.true c.index-functions-number.is small in
    let p = err_from_is_err_and c.from_residual-in_err-offers_of.result c.from_residual-in_err-offers_of.ensures.1 in
    rw (p.1, p.2) (only_memory c.in_err-offers_of.field-0.0 (λ other.
    let large : 2048 < f.function.registers = subst (λ g. IsTooLarge g.function) (sym c.index-functions-number.is) (c.in_err-offers_of.ensures.refused other) in
    let never : ⊥ = omega (arith, few, large) in never))
