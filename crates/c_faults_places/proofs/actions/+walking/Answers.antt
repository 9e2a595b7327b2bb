-- A block's statements, in memory and as a list.
use Rattle.std.proofs.Common.{◌≡◌, OnOk, List, ℕ, subst}
use Rattle.c_faults_places.proofs.Lists.{block_added}
use Rattle.c_faults_places.proofs.actions.+walking.Goals as goal

pub add_action-returns-in_ok-push-in-Block : goal.add_action-returns-in_ok-push-in-Block
add_action-returns-in_ok-push-in-Block t c =
    subst (λ (l : List ℕ). OnOk c.add_actions.result (c.add_actions.new.places.items ≡ l))
    (block_added c.args.places.now.items c.push-in-Block.new.self.items c.start-in-Block.result c.in-Block.all c.args.statement.now c.args.action.now
    c.as_slice.result.now c.all_of.result.now c.args.tokens.now c.next.result.now
    c.in-Block.is c.as_slice.ensures.value c.in_ok-push-in-Block.ensures.items c.start-in-Block.ensures c.all_of.ensures c.next.ensures)
    c.add_actions.ensures
