-- Why `push_stretch` meets its contract.
use Rattle.linearize_check_layout.proofs.Stretches.{stretch_parts}
use Rattle.linearize_check_layout.proofs.layout.push_stretch.Goals as goal

pub returns-in_ok-push_body : goal.returns-in_ok-push_body
returns-in_ok-push_body c =
    stretch_parts c.args.code.now.items c.push.new.self.items c.push_copies.new.code.items c.push_body.new.code.items c.args.node c.in-Some.block.now c.args.behind.now _ c.in-Some.ensures c.in_ok-push.ensures.items (rw c.as_slice.ensures at c.in_ok-push_copies.ensures) c.in_ok-push_body.ensures
