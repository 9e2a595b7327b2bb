-- Why `lowest_open` meets its contract, and its loop over `node` keeps the invariant.
use Rattle.std.proofs.Common.{◌≡◌, length, subst, arith}
use Rattle.std.proofs.lemmas.Bool.{iff_false}
use Rattle.linearize_check.specs.Faults.{IsClosedAt, TellsLowest}
use Rattle.linearize_check.proofs.Lowest.{lowest-right, lowest-wrong}
use Rattle.linearize_check_layout.proofs.Tables.{closed_from_marked, marked_from_closed}
use Rattle.linearize_check.proofs.faults.lowest_open.Goals as goal
use Rattle.linearize_check.proofs.faults.lowest_open.Goals.{then-not-goes_to_marked, else-not-goes_to_marked}

pub loop-node-preserved : goal.loop-node-preserved
loop-node-preserved c =
    let blocks = c.args.blocks.now in
    let order = c.args.order.now in
    let i = c.loop-node.node-index in
    elim c.if-not-goes_to_marked.branch [
      | then-not-goes_to_marked w ↦ rw (w.found-is, w.lesser-found.ensures) (lowest-wrong (IsClosedAt blocks order) order i _ (λ closed. iff_false c.goes_to_marked.ensures w.if-not-goes_to_marked.true (marked_from_closed _ _ _ c.requires closed)) c.loop-node.invariant)
      | else-not-goes_to_marked w ↦ rw w.found-is (lowest-right (IsClosedAt blocks order) order i _ (closed_from_marked _ _ _ c.requires (c.goes_to_marked.ensures.0 w.if-not-goes_to_marked.false)) c.loop-node.invariant)
    ]

pub returns : goal.returns
returns c =
    let order = c.args.order.now in
    let all : c.loop-node.node-index ≡ length order = omega arith in
    subst (λ n. TellsLowest (IsClosedAt c.args.blocks.now order) order n c.loop-node.found) all c.loop-node.invariant
