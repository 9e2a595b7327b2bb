-- Why the loop of `finish` over `number` keeps the invariant.
use Rattle.std.proofs.Common.{suc, take, sym, subst, rules}
use native.Mathlib.Numerals.{unary_clauses}
use Rattle.parallel_validate.specs.Verdicts.{AreAnswers}
use Rattle.parallel_validate.proofs.Answers.{answers_next}
use Rattle.parallel_validate.proofs.collecting.finish.Goals as goal

pub loop-number-preserved : goal.loop-number-preserved
loop-number-preserved g c =
    let accepts = g.P.Pass.accepts in
    let jobs = c.args.jobs.now in
    let done = c.loop-number in
    let more = answers_next accepts jobs done.number done.answers.items c.in_ok-yes.yes (search rules) done.invariant (c.in_ok-yes.ensures) in
    simp unary_clauses (subst (λ answers. AreAnswers accepts (take (suc done.number) jobs) answers) (sym c.in_ok-push.ensures.items) more)
