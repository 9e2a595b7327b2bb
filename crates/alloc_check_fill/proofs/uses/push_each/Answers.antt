-- Why `push_each` meets its contract, and its loop over `k` keeps the invariant.
use Rattle.std.proofs.Common.{◌≡◌, ◌≤◌, ◌++◌, length, sym, subst, arith}
use Rattle.std.specs.Prelude.{map}
use Rattle.std.proofs.lemmas.List.{append-nil, take_all}
use Rattle.alloc_check_rules.specs.Equations.{back_equation}
use Rattle.alloc_check_rules.specs.Pairs.{equations_of}
use Rattle.alloc_check_fill.proofs.Pairs.{pairs_few, past_of, mapped_more}
use Rattle.alloc_check_fill.proofs.uses.push_each.Goals as goal

pub loop-k-init : goal.loop-k-init
loop-k-init c = sym (append-nil c.args.out.now.items)

pub loop-k-preserved : goal.loop-k-preserved
loop-k-preserved c =
    mapped_more (back_equation c.args.block.now.before) (equations_of c.args.names.now c.args.locations.now) c.loop-k.k _ c.args.out.now.items c.loop-k.out.items _ (sym c.in-Some.ensures) c.loop-k.invariant c.in_ok-push_before.ensures

pub returns-in_default : goal.returns-in_default
returns-in_default c =
    let pairs = equations_of c.args.names.now c.args.locations.now in
    subst (λ es. c.loop-k.out.items ≡ c.args.out.now.items ++ map (back_equation c.args.block.now.before) es) (take_all c.loop-k.k pairs (past_of pairs c.loop-k.k (sym c.in_default.ensures))) c.loop-k.invariant

pub returns : goal.returns
returns c =
    let pairs = equations_of c.args.names.now c.args.locations.now in
    let past : length pairs ≤ c.loop-k.k = omega (arith, pairs_few c.args.names.now c.args.locations.now, c.loop-k-test.false) in
    subst (λ es. c.loop-k.out.items ≡ c.args.out.now.items ++ map (back_equation c.args.block.now.before) es) (take_all c.loop-k.k pairs past) c.loop-k.invariant
