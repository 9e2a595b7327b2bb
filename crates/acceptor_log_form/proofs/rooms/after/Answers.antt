-- A summary that goes on makes a kept part.
use Rattle.std.proofs.Common.{Option, Some, None, rules}
use Rattle.std.specs.Prelude.{IfNone}
use Rattle.acceptor_log_form.proofs.rooms.after.Goals as goal

none_weaker : {T P Q : Type 0} (o : Option T) → IfNone o P → (P → Q) → IfNone o Q
none_weaker (Some x) p go = tt
none_weaker None p go = go p

pub returns-in-Summary-clause-refused : goal.returns-in-Summary-clause-refused
returns-in-Summary-clause-refused c =
    none_weaker c.after_summary.result c.after_summary.ensures.none (λ none goes. none c.args.header.now.nodes (search rules))
