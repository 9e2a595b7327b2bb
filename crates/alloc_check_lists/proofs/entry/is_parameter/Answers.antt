-- Why `is_parameter` meets its contract, and its loop over `k` keeps the invariant.
use Rattle.std.proofs.Common.{◌≡◌, ◌≤◌, length, sym, arith}
use Rattle.std.proofs.lemmas.Bool.{iff_false}
use Rattle.alloc_check_fill.specs.Pairs.{equations_of}
use Rattle.alloc_check_lists.proofs.Each.{holds_on_got, all_of, found_among, not_among}
use Rattle.alloc_check_fill.proofs.Pairs.{pairs_few}
use Rattle.alloc_check_lists.proofs.entry.is_parameter.Goals as goal

pub returns-then-is_same : goal.returns-then-is_same
returns-then-is_same c =
    let pairs = equations_of c.args.registers.now c.args.locations.now in
    found_among pairs c.loop-k.k _ c.args.equation.now (sym c.in-Some.ensures) (c.is_same.ensures.0 c.if-is_same.true)

pub loop-k-preserved : goal.loop-k-preserved
loop-k-preserved c =
    let pairs = equations_of c.args.registers.now c.args.locations.now in
    holds_on_got (λ f. ¬ (f ≡ c.args.equation.now)) pairs c.loop-k.k _ (sym c.in-Some.ensures) c.loop-k.invariant (iff_false c.is_same.ensures c.if-is_same.false)

pub returns : goal.returns
returns c =
    let pairs = equations_of c.args.registers.now c.args.locations.now in
    let past : length pairs ≤ c.loop-k.k = omega (arith, pairs_few c.args.registers.now c.args.locations.now, c.loop-k-test.false) in
    not_among pairs c.args.equation.now (all_of (λ f. ¬ (f ≡ c.args.equation.now)) pairs c.loop-k.k past c.loop-k.invariant)
