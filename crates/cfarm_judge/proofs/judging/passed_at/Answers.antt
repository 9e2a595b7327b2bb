-- What is said of a pass is said of the pass of this number.
use Rattle.std.proofs.Common.{sym, subst}
use Rattle.std.specs.Prelude.{IfErr, OnOk}
use Rattle.cfarm_judge.specs.Passes.{IsNotPassedAt, IsPassedAt}
use Rattle.cfarm_judge.proofs.judging.passed_at.Goals as goal

pub returns-in-First-clause-passed : goal.returns-in-First-clause-passed
returns-in-First-clause-passed c = subst (λ k. OnOk c.passed_first.result (IsPassedAt c.args.function.now c.args.bytes.now k)) (sym c.in-First.is) c.passed_first.ensures.passed

pub returns-in-First-clause-refused : goal.returns-in-First-clause-refused
returns-in-First-clause-refused c = subst (λ k. IfErr c.passed_first.result (IsNotPassedAt c.args.function.now c.args.bytes.now k)) (sym c.in-First.is) c.passed_first.ensures.refused

pub returns-in-Second-clause-passed : goal.returns-in-Second-clause-passed
returns-in-Second-clause-passed c = subst (λ k. OnOk c.passed.result (IsPassedAt c.args.function.now c.args.bytes.now k)) (sym c.in-Second.is) c.passed.ensures.passed

pub returns-in-Second-clause-refused : goal.returns-in-Second-clause-refused
returns-in-Second-clause-refused c = subst (λ k. IfErr c.passed.result (IsNotPassedAt c.args.function.now c.args.bytes.now k)) (sym c.in-Second.is) c.passed.ensures.refused

pub returns-in-Third-clause-passed : goal.returns-in-Third-clause-passed
returns-in-Third-clause-passed c = subst (λ k. OnOk c.passed-in-Third.result (IsPassedAt c.args.function.now c.args.bytes.now k)) (sym c.in-Third.is) c.passed-in-Third.ensures.passed

pub returns-in-Third-clause-refused : goal.returns-in-Third-clause-refused
returns-in-Third-clause-refused c = subst (λ k. IfErr c.passed-in-Third.result (IsNotPassedAt c.args.function.now c.args.bytes.now k)) (sym c.in-Third.is) c.passed-in-Third.ensures.refused

pub returns-in-Fourth-clause-passed : goal.returns-in-Fourth-clause-passed
returns-in-Fourth-clause-passed c = subst (λ k. OnOk c.passed-in-Fourth.result (IsPassedAt c.args.function.now c.args.bytes.now k)) (sym c.in-Fourth.is) c.passed-in-Fourth.ensures.passed

pub returns-in-Fourth-clause-refused : goal.returns-in-Fourth-clause-refused
returns-in-Fourth-clause-refused c = subst (λ k. IfErr c.passed-in-Fourth.result (IsNotPassedAt c.args.function.now c.args.bytes.now k)) (sym c.in-Fourth.is) c.passed-in-Fourth.ensures.refused
