-- Why `is_unproposed` meets its contract.
use Rattle.std.proofs.Common.{rules, tests}
use Rattle.std.proofs.lemmas.Iterator.{YieldsList-from_slice}
use Rattle.std.proofs.lemmas.Iterator.Search.{any_from_yields_List}
use Rattle.paxos_reference.specs.Tests.{is_proposal}
use Rattle.paxos_reference.proofs.Found.{unproposed_tells}
use Rattle.paxos_reference.proofs.sent.is_unproposed.Goals as goal

pub returns : goal.returns
returns c =
    let xs = c.args.sent.now in
    unproposed_tells c.args.ballot xs _
    (any_from_yields_List (is_proposal c.args.ballot) _ _ _ c.any.ensures.ran (YieldsList-from_slice xs cc) (λ x b q k. search (rules, tests)))
