-- Why `follow` meets its contract, and its loop over `node` keeps the invariant.
use Rattle.std.proofs.Common.{◌≡◌, length, subst, arith}
use Rattle.std.proofs.lemmas.List.{nil_from_length}
use Rattle.alloc_check_live.proofs.Walks.{Walking, walking_first, walking_after, left_over-falls, walking_done}
use Rattle.alloc_check_live.proofs.walk.follow.Goals as goal

pub loop-node-init : goal.loop-node-init
loop-node-init c =
    rw c.in_ok-pending.ensures.items
    (walking_first c.args.nodes.now c.args.register c.args.found.now.items c.args.users.now c.requires.found c.requires.users)

pub loop-node-smaller : goal.loop-node-smaller
loop-node-smaller c =
    let before = subst (λ p. Walking c.args.nodes.now c.args.register c.loop-node.found.items p) c.in-Some.ensures.items c.loop-node.invariant in
    rw c.in-Some.ensures.items
    (left_over-falls c.args.nodes.now c.args.register c.loop-node.found.items c.pop.new.self.items c.in-Some.node before c.args.leading.now c.requires.leading c.reach.new.found.items c.reach.new.pending.items c.in_ok-reach.ensures.seen c.in_ok-reach.ensures.first)

pub loop-node-preserved : goal.loop-node-preserved
loop-node-preserved c =
    let before = subst (λ p. Walking c.args.nodes.now c.args.register c.loop-node.found.items p) c.in-Some.ensures.items c.loop-node.invariant in
    walking_after c.args.nodes.now c.args.register c.loop-node.found.items c.pop.new.self.items c.in-Some.node before c.args.leading.now c.requires.leading c.reach.new.found.items c.reach.new.pending.items c.in_ok-reach.ensures.seen c.in_ok-reach.ensures.first

pub returns : goal.returns
returns c =
    let none : length c.loop-node.pending.items ≡ 0 = omega (arith, c.loop-node.pending.ok.0, c.in_default.ensures.cases.0) in
    walking_done c.args.nodes.now c.args.register c.loop-node.found.items (subst (Walking c.args.nodes.now c.args.register c.loop-node.found.items) (nil_from_length c.loop-node.pending.items none) c.loop-node.invariant)
