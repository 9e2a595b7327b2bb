-- Why `push_demands` meets its contract, and its loop over `equation` keeps the invariant.
use Rattle.std.proofs.Common.{◌≡◌, ◌≤◌, ◌++◌, length, take, true, false, sym, ◌∙◌, subst, arith}
use Rattle.std.specs.List.{list_any}
use Rattle.std.proofs.lemmas.Bool.{not-true, not-false}
use Rattle.std.proofs.lemmas.List.{take_all}
use Rattle.alloc_check_rules.specs.Equations.{demand}
use Rattle.alloc_check_fill.specs.Fill.{is_refused, demands}
use Rattle.alloc_check_fill.proofs.Steps.{demanded, so_far_none, so_far_more, refused_here}
use Rattle.alloc_check_fill.proofs.needed.push_demands.Goals as goal

pub loop-equation-init : goal.loop-equation-init
loop-equation-init c = so_far_none c.args.block.now c.args.change c.args.behind.now c.args.out.now.items

pub loop-equation-preserved : goal.loop-equation-preserved
loop-equation-preserved c =
    let can : is_refused (demand c.args.block.now.body c.args.change _) ≡ false = not-true _ (sym c.in_ok-push_demanded.ensures.told ∙ c.if-not-branch.false) in
    so_far_more c.args.block.now c.args.change c.args.behind.now c.loop-equation.equation-index _ c.loop-equation-test.true c.args.out.now.items c.loop-equation.out.items _ c.loop-equation.invariant can c.in_ok-push_demanded.ensures.added

pub returns-then-not-branch : goal.returns-then-not-branch
returns-then-not-branch c =
    let refused : is_refused (demand c.args.block.now.body c.args.change _) ≡ true = not-false _ (sym c.in_ok-push_demanded.ensures.told ∙ c.if-not-branch.true) in
    refused_here c.args.block.now c.args.change c.args.behind.now c.loop-equation.equation-index _ c.loop-equation-test.true refused

pub returns : goal.returns
returns c =
    let behind = c.args.behind.now in
    let past : length behind ≤ c.loop-equation.equation-index = omega (arith, c.loop-equation-test.false) in
    let all : take c.loop-equation.equation-index behind ≡ behind = take_all c.loop-equation.equation-index behind past in (
      subst (λ es. list_any is_refused (demands c.args.block.now c.args.change es) ≡ false) all c.loop-equation.invariant.kept,
      subst (λ es. c.loop-equation.out.items ≡ c.args.out.now.items ++ demanded c.args.block.now c.args.change es) all c.loop-equation.invariant.added,
    )
