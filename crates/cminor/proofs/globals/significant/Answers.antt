-- Why `significant` meets its clause `front`, and its loop over `count` keeps the invariant.
use Rattle.std.proofs.Common.{◌≡◌, ◌<◌, ◌-◌, suc, length, take, sym, subst, ap, ◌∙◌, arith}
use Rattle.cminor_lowering.specs.Programs.{without_zeros}
use Rattle.cminor.proofs.Zeros.{zero_dropped, word_kept}
use Rattle.cminor.proofs.globals.significant.Goals as goal

pub loop-count-preserved : goal.loop-count-preserved
loop-count-preserved c =
    let words = c.args.words.now in
    let last = c.loop-count.count - 1 in
    let next : suc last ≡ c.loop-count.count = omega arith in
    let lt : last < length words = omega arith in
    record {
      within = omega arith;
      front = sym (zero_dropped words last lt c.if-words-count-eq0.true) ∙ ap (λ n. without_zeros (take n words)) next ∙ c.loop-count.invariant.front;
    }

pub returns-else-words-count-eq0-clause-front : goal.returns-else-words-count-eq0-clause-front
returns-else-words-count-eq0-clause-front c =
    let words = c.args.words.now in
    let last = c.loop-count.count - 1 in
    let next : suc last ≡ c.loop-count.count = omega arith in
    let lt : last < length words = omega arith in
    sym (subst (λ n. without_zeros (take n words) ≡ take n words) next (word_kept words last lt c.if-words-count-eq0.false)) ∙ c.loop-count.invariant.front
