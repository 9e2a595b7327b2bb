-- Each node's offers are checked in turn.
use Rattle.std.proofs.Common.{sym, ◌∙◌}
use Rattle.std.specs.Vec.Iter.{into_iter_items}
use Rattle.farm_nodes_open_stored.specs.Checked.{AreAsMany}
use Rattle.farm_nodes_open_journals.proofs.Next.{next_of, rest_of}
use Rattle.farm_nodes_open_stored.proofs.Nodes.{all_at}
use Rattle.farm_nodes_open_stored.proofs.Accepted.{accepted_in_front, checked_more, none_checked}
use Rattle.farm_nodes_open_stored.proofs.checking.checked_nodes.Goals as goal

pub loop-node-init : goal.loop-node-init
loop-node-init g c = record {
  behind = c.into_iter-behind.ensures.rest;
  checked = none_checked c.args.functions c.args.stored.items _ c.new.ensures.items c.new-2.ensures.items c.new-3.ensures.items c.new-4.ensures.items;
}

pub check_node-requires-clause-rooms : goal.check_node-requires-clause-rooms
check_node-requires-clause-rooms g c κs within =
    let left = sym c.loop-node.invariant.behind ∙ c.in-Some.ensures.items in
    let got = next_of c.args.stored.items c.loop-node.node c.in-Some.one (into_iter_items c.next.new.self) left in
    all_at AreAsMany c.args.stored.items c.loop-node.node c.in-Some.one c.requires.rooms got

pub returns-in-Err-add-clause-in_front : goal.returns-in-Err-add-clause-in_front
returns-in-Err-add-clause-in_front g c =
    accepted_in_front c.args.functions c.args.stored.items c.loop-node.node c.loop-node.found c.loop-node.invariant.checked

pub returns-in-Err-clause-in_front : goal.returns-in-Err-clause-in_front
returns-in-Err-clause-in_front g c =
    accepted_in_front c.args.functions c.args.stored.items c.loop-node.node c.loop-node.found c.loop-node.invariant.checked

pub returns-in-Err-clause-refused : goal.returns-in-Err-clause-refused
returns-in-Err-clause-refused g c memory =
    let left = sym c.loop-node.invariant.behind ∙ c.in-Some.ensures.items in
    let got = next_of c.args.stored.items c.loop-node.node c.in-Some.one (into_iter_items c.next.new.self) left in
    (c.in-Some.one, got, (c.in-Err.ensures.refused memory).1)

pub loop-node-preserved : goal.loop-node-preserved
loop-node-preserved g c =
    let xs = c.args.stored.items in
    let node = c.loop-node.node in
    let one = c.in-Some.one in
    let put = c.in-Ok-add.ensures in
    let left = sym c.loop-node.invariant.behind ∙ c.in-Some.ensures.items in
    let got = next_of xs node one (into_iter_items c.next.new.self) left in
    record {
      behind = rest_of xs node one (into_iter_items c.next.new.self) left;
      checked = checked_more c.args.functions xs node c.loop-node.found c.loop-node.invariant.checked c.add.new.found one c.in-Ok.offers got c.in-Ok.ensures.known c.in-Ok.ensures.accepted put.constants put.expressions put.allocation put.order;
    }
