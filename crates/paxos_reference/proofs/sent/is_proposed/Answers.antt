-- Why `is_proposed` meets its contract.
use Rattle.std.proofs.Common.{rules, tests}
use Rattle.std.proofs.lemmas.Iterator.{YieldsList-from_slice}
use Rattle.std.proofs.lemmas.Iterator.Search.{any_from_yields_List}
use Rattle.paxos_reference.specs.Tests.{is_propose}
use Rattle.paxos_reference.proofs.Found.{propose_tells}
use Rattle.paxos_reference.proofs.sent.is_proposed.Goals as goal

pub returns : goal.returns
returns c =
    let xs = c.args.sent.now in
    propose_tells c.args.ballot c.args.value xs _
    (any_from_yields_List (is_propose c.args.ballot c.args.value) _ _ _ c.any.ensures.ran (YieldsList-from_slice xs cc) (λ x b q k. search (rules, tests)))
