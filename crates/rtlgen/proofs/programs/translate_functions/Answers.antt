-- Why `translate_functions` meets its clauses `err` and `few`, and its loop over `number` keeps the invariant.
use Rattle.std.proofs.Common.{subst}
use Rattle.std.specs.Prelude.{All}
use Rattle.std.proofs.lemmas.List.Elements.{All-more}
use Rattle.rtlgen_definition.specs.Gen.{gen_named}
use Rattle.rtlgen.specs.Refused.{HasFewNodes}
use Rattle.rtlgen.proofs.Firsts.{whole, first_is, one_more}
use Rattle.rtlgen.proofs.programs.translate_functions.Goals as goal

pub returns-in-None-clause-err : goal.returns-in-None-clause-err
returns-in-None-clause-err c =
    let large = rw c.in-None.is at c.in_ok-function.ensures.made in
    first_is c.args.functions.now c.loop-number.number c.index-functions-number.result c.loop-number-test.true c.index-functions-number.is c.loop-number.invariant.few large

pub loop-number-preserved : goal.loop-number-preserved
loop-number-preserved c =
    let all = c.args.functions.now in
    let i = c.loop-number.number in
    let here = c.index-functions-number.result in
    let made = rw c.in-Some.is at c.in_ok-function.ensures.made in
    let few = rw c.in-Some.is at c.in_ok-function.ensures.few in
    record {
      same = one_more gen_named all c.loop-number.translated.items c.push.new.self.items i here c.in-Some.function c.loop-number-test.true c.index-functions-number.is c.loop-number.invariant.same made c.in_ok-push-in-Some.ensures.items;
      few = All-more HasFewNodes all i here c.loop-number-test.true c.loop-number.invariant.few (subst HasFewNodes c.index-functions-number.is few);
    }

pub returns-clause-few : goal.returns-clause-few
returns-clause-few c = subst (All HasFewNodes) (whole c.args.functions.now c.loop-number.number c.loop-number-test.false) c.loop-number.invariant.few
