-- Why `is_prepared` meets its contract.
use Rattle.std.proofs.Common.{rules, tests}
use Rattle.std.proofs.lemmas.Iterator.{YieldsList-from_slice}
use Rattle.std.proofs.lemmas.Iterator.Search.{any_from_yields_List}
use Rattle.paxos_reference.specs.Tests.{is_prepare}
use Rattle.paxos_reference.proofs.Found.{prepare_tells}
use Rattle.paxos_reference.proofs.sent.is_prepared.Goals as goal

pub returns : goal.returns
returns c =
    let xs = c.args.sent.now in
    prepare_tells c.args.ballot xs _
    (any_from_yields_List (is_prepare c.args.ballot) _ _ _ c.any.ensures.ran (YieldsList-from_slice xs cc) (λ x b q k. search (rules, tests)))
