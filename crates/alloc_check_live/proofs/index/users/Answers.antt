-- Why `users` meets its contract, and its loop over `n` keeps the invariant.
use Rattle.std.proofs.Common.{◌≡◌, ◌+◌, length, Some, refl, subst}
use Rattle.std.specs.Prelude.{slice_get}
use Rattle.std.proofs.lemmas.Option.{slice_get_read}
use Rattle.alloc_check_live.specs.Liveness.{used_of}
use Rattle.alloc_check_live.specs.Tables.{added_to_each}
use Rattle.alloc_check_live.proofs.Tables.{IsIndexBelow, index_more, index_all}
use Rattle.alloc_check_live.proofs.index.users.Goals as goal

pub loop-n-preserved : goal.loop-n-preserved
loop-n-preserved c =
    let nodes = c.args.nodes.now in
    let n = c.loop-n.n in
    let lists = c.loop-n.lists.items in
    let got : slice_get nodes n ≡ Some c.index-nodes-n.result = slice_get_read nodes (length nodes) n c.index-nodes-n.result refl c.loop-n-test.true c.index-nodes-n.is in
    rw (c.in_ok-add_to_each.ensures, c.as_slice.ensures.value, c.in_ok-push_used.ensures, c.clear.ensures.items)
    (subst (λ o. IsIndexBelow used_of nodes c.args.registers (n + 1) (added_to_each n (used_of o) lists)) got (index_more used_of nodes c.args.registers n lists c.loop-n.invariant))

pub returns : goal.returns
returns c = index_all used_of c.args.nodes.now c.args.registers c.loop-n.n c.loop-n.lists.items refl c.loop-n-test.false c.loop-n.invariant
