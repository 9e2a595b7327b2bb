-- Why `lowest_repeated` meets its clause `found`, and its loop over `node` keeps the invariant.
use Rattle.std.proofs.Common.{◌≡◌, ◌<◌, length, get_or, subst, arith}
use Rattle.linearize_check.specs.Faults.{IsFreshAt, TellsLowest}
use Rattle.linearize_check.proofs.Lowest.{lowest-right, lowest-wrong}
use Rattle.linearize_check_layout.proofs.Tables.{listed_from_read, new_from_read, marked-more}
use Rattle.linearize_check.proofs.faults.lowest_repeated.Goals as goal
use Rattle.linearize_check.proofs.faults.lowest_repeated.Goals.{then-listed-from, else-listed-from}

pub loop-node-preserved : goal.loop-node-preserved
loop-node-preserved c =
    let order = c.args.order.now in
    let i = c.loop-node.node-index in
    let marks = c.loop-node.invariant.1 in
    let within : get_or order i 0 < length c.loop-node.listed = omega (arith, c.requires.nodes i 0 c.loop-node-test.true) in (
      elim c.if-listed-from.branch [
        | then-listed-from w ↦ rw (w.found-is, w.lesser-found.ensures) (lowest-wrong (IsFreshAt order) order i _ (λ fresh. fresh (listed_from_read _ _ _ marks within (rw c.from.ensures at w.if-listed-from.true))) c.loop-node.invariant.0)
        | else-listed-from w ↦ rw w.found-is (lowest-right (IsFreshAt order) order i _ (new_from_read _ _ _ marks within (rw c.from.ensures at w.if-listed-from.false)) c.loop-node.invariant.0)
      ],
      rw c.from-in-loop-node.ensures (marked-more _ order i c.loop-node-test.true within marks),
    )

pub returns-clause-found : goal.returns-clause-found
returns-clause-found c =
    let order = c.args.order.now in
    let all : c.loop-node.node-index ≡ length order = omega arith in
    subst (λ n. TellsLowest (IsFreshAt order) order n c.loop-node.found) all c.loop-node.invariant.0
