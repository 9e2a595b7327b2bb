-- Why `copy_behind` meets its contract.
use Rattle.std.proofs.Common.{sym}
use Rattle.rtl_passes_marks.specs.Edges.{edges_of}
use Rattle.rtl_passes_marks.proofs.Handings.{handed_none}
use Rattle.rtl_passes_filled.specs.Filled.{behind}
use Rattle.rtl_passes_facts.proofs.nodes.copy_behind.Goals as goal

pub returns-then-not-feeds_any : goal.returns-then-not-feeds_any
returns-then-not-feeds_any g c =
    sym (handed_none c.args.feeders.now c.args.n (edges_of c.args.input.now) (behind g.R.Rules.rules c.args.input.now c.args.facts.now) c.args.lists.now (rw c.feeds_any.ensures at c.if-not-feeds_any.true))
