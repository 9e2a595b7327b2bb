-- The answer to offers by themselves, beside the function.
use Rattle.std.proofs.Common.{◌<◌, length, sym, subst, arith}
use Rattle.bundle_reading.proofs.Places.{got}
use Rattle.bundle_reading.specs.Read.{offers_of}
use Rattle.bundle_offers.specs.Standing.{Judged}
use Rattle.bundle_offers.proofs.Standings.{judged_at, placed}
use Rattle.bundle_offers.proofs.judging.judge_at.Goals as goal

pub returns : goal.returns
returns c = λ are.
    let f = c.index-functions-number in
    let four = c.index-fours-number in
    let told = c.told_at.result in
    let below : c.args.number < length c.args.alone.now = (got c.args.alone.now c.args.number told told c.told_at.ensures).0 in
    let alone = are.each c.args.number told c.told_at.ensures four.result (placed c.args.fours.now c.args.number four.result four.is (omega (arith, below, are.count))) in
    judged_at c.args.functions.now c.args.fours.now c.args.number f.result four.result c.judge_from.result f.is four.is
    (subst (λ h. Judged h.function (offers_of four.result) c.judge_from.result) (sym f.is) (c.judge_from.ensures alone))
