-- The four offers as they were made, and which of them are the optimisers'.
use Rattle.std.proofs.Common.{◌≡◌, None, ap, sym, subst, ◌∙◌}
use Rattle.constprop_check.specs.Baseline as constants
use Rattle.cse_check.specs.Baseline as expressions
use Rattle.alloc_check.specs.Baseline as allocation
use Rattle.chains.specs.declared.offering.Offers.{Offers}
use Rattle.chains_made.specs.Baselines.{AreBaselines}
use Rattle.chains_made.specs.Counted.{Marks, AreMarked}
use Rattle.chains.specs.Lent.{OfConstants, OfExpressions, OfAllocation}
use Rattle.chains_made.proofs.Counting.{counted_of}
use Rattle.chains_made.proofs.makers.offers_of.Goals as goal

pub returns-clause-counted : goal.returns-clause-counted
returns-clause-counted c =
    let first = c.in_ok-first in
    let second = c.in_ok-first-2 in
    let third = c.in_ok-constants in
    let fourth = c.in_ok-before in
    let e1 : fourth.before.0 ≡ first.first.offer = ap (λ p. p.0) fourth.ensures.before.0 ∙ third.ensures.before.0 ∙ second.ensures.before.1 in
    let e2 : fourth.before.1 ≡ second.second.offer = ap (λ p. p.1) fourth.ensures.before.0 ∙ third.ensures.before.1 in
    let e3 : fourth.allocation ≡ third.third.offer = fourth.ensures.before.1 in
    let marks : Marks = record { constants = first.first.is_proposal; expressions = second.second.is_proposal; allocation = third.third.is_proposal; order = fourth.fourth.is_proposal } in
    let offers : Offers = record { constants = fourth.before.0; expressions = fourth.before.1; allocation = fourth.allocation; order = fourth.fourth.offer } in
    let are : AreMarked marks offers = record {
      constants = λ other. subst (λ (o : OfConstants). constants.IsBaseline o.input o.output o.certificate) (sym e1) (first.ensures.baseline other);
      expressions = λ other. subst (λ (o : OfExpressions). expressions.IsBaseline o.input o.output o.certificate) (sym e2) (second.ensures.baseline other);
      allocation = λ other. subst (λ (o : OfAllocation). allocation.IsBaseline o.input o.output o.certificate) (sym e3) (third.ensures.baseline other);
      order = λ other. fourth.ensures.baseline other;
    } in
    counted_of c.args.maker.now.proposals c.offer_of.new.self.proposals c.behind.new.maker.proposals c.behind-2.new.maker.proposals c.behind-3.new.maker.proposals
    marks offers are first.ensures.counted second.ensures.counted third.ensures.counted fourth.ensures.counted

pub returns-clause-alone : goal.returns-clause-alone
returns-clause-alone c = λ none.
    let first = c.in_ok-first in
    let second = c.in_ok-first-2 in
    let third = c.in_ok-constants in
    let fourth = c.in_ok-before in
    let e1 : fourth.before.0 ≡ first.first.offer = ap (λ p. p.0) fourth.ensures.before.0 ∙ third.ensures.before.0 ∙ second.ensures.before.1 in
    let e2 : fourth.before.1 ≡ second.second.offer = ap (λ p. p.1) fourth.ensures.before.0 ∙ third.ensures.before.1 in
    let e3 : fourth.allocation ≡ third.third.offer = fourth.ensures.before.1 in
    let marks : Marks = record { constants = first.first.is_proposal; expressions = second.second.is_proposal; allocation = third.third.is_proposal; order = fourth.fourth.is_proposal } in
    let offers : Offers = record { constants = fourth.before.0; expressions = fourth.before.1; allocation = fourth.allocation; order = fourth.fourth.offer } in
    let are : AreMarked marks offers = record {
      constants = λ other. subst (λ (o : OfConstants). constants.IsBaseline o.input o.output o.certificate) (sym e1) (first.ensures.baseline other);
      expressions = λ other. subst (λ (o : OfExpressions). expressions.IsBaseline o.input o.output o.certificate) (sym e2) (second.ensures.baseline other);
      allocation = λ other. subst (λ (o : OfAllocation). allocation.IsBaseline o.input o.output o.certificate) (sym e3) (third.ensures.baseline other);
      order = λ other. fourth.ensures.baseline other;
    } in
    let one = ap (λ m. m.draws) (first.ensures.stays none) ∙ none in
    let two = ap (λ m. m.draws) (second.ensures.stays one) ∙ one in
    let three = ap (λ m. m.draws) (third.ensures.stays two) ∙ two in
    record {
      constants = are.constants (first.ensures.alone none);
      expressions = are.expressions (second.ensures.alone one);
      allocation = are.allocation (third.ensures.alone two);
      order = are.order (fourth.ensures.alone three);
    }
