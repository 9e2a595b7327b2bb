-- Why `number` meets its contract, and its loop over `digit` keeps the invariant.
use Rattle.std.proofs.Common.{◌+◌, ◌*◌, sym, ◌∙◌, arith}
use Rattle.c_lexer_lexemes.proofs.Worths.{all_more, whole_more, too_large}
use Rattle.c_lexer_lexemes.proofs.numbers.number.Goals as goal

pub returns-then-sum-from : goal.returns-then-sum-from
returns-then-sum-from c =
    let inv = c.loop-digit.invariant in
    let i = c.loop-digit.digit-index in
    let sum = c.loop-digit.sum * c.from.result + c.from-in-loop-digit.result in
    sym (too_large c.args.base sum c.args.digits.now (i + 1) c.requires.positive (omega arith)
    (whole_more c.args.base c.loop-digit.sum c.args.digits.now i c.from-in-loop-digit.result c.from.result (omega arith) (c.from-in-loop-digit.ensures ∙ c.digit_worth-worth.ensures.value) c.from.ensures inv.whole))

pub loop-digit-preserved : goal.loop-digit-preserved
loop-digit-preserved c =
    let inv = c.loop-digit.invariant in
    let i = c.loop-digit.digit-index in
    record {
      all = all_more c.args.base c.args.digits.now i c.digit_worth-worth.result (omega arith) c.digit_worth-worth.ensures.value (omega arith) inv.all;
      whole = whole_more c.args.base c.loop-digit.sum c.args.digits.now i c.from-in-loop-digit.result c.from.result (omega arith) (c.from-in-loop-digit.ensures ∙ c.digit_worth-worth.ensures.value) c.from.ensures inv.whole;
      small = omega arith;
    }
