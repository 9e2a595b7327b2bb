-- Why `exponent` meets its contract, and its loop over `k` keeps the invariant.
use Rattle.std.proofs.Common.{◌≡◌, ◌≢◌, suc, ◌+◌, ◌-◌, ◌*◌, ◌^◌, sym, ap, ◌∙◌, arith}
use native.Mathlib.Nat.{pow-suc}
use Rattle.std.proofs.lemmas.Bool.{ne_eqb}
use Rattle.native_lowering_definition.specs.Powers.{exponent_from}
use Rattle.native_lowering_definition.proofs.Powers.{found_at, passed_at, none_left}
use Rattle.native_lowering_code.proofs.powers.exponent.Goals as goal

pub returns-then-from-power : goal.returns-then-from-power
returns-then-from-power c =
    let here : c.args.word ≡ 2 ^ c.loop-k.k = cc in
    sym (found_at c.loop-k.k c.args.word c.loop-k-test.true here) ∙ c.loop-k.invariant.rest

pub loop-k-preserved : goal.loop-k-preserved
loop-k-preserved c =
    let k = c.loop-k.k in
    let word_is : c.from.result ≡ c.args.word = cc in
    let other : c.args.word ≢ 2 ^ k = λ e. c.if-from-power.false (word_is ∙ e ∙ sym c.loop-k.invariant.power) in
    let next : k + 1 ≡ suc k = omega arith in
    record {
      within = omega (arith, c.loop-k-test.true);
      power = ap (λ n. n * 2) c.loop-k.invariant.power ∙ sym (pow-suc 2 k) ∙ ap (λ n. 2 ^ n) (sym next);
      rest = passed_at k c.args.word c.loop-k-test.true (ne_eqb c.args.word (2 ^ k) other) ∙ c.loop-k.invariant.rest;
    }

pub returns : goal.returns
returns c =
    let k = c.loop-k.k in
    let none : 0 ≡ 32 - k = omega (arith, c.loop-k-test.false) in
    sym (none_left k c.args.word) ∙ ap (λ n. exponent_from k n c.args.word) none ∙ c.loop-k.invariant.rest
