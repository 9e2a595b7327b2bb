-- Why `is_begun` meets its contract.
use Rattle.std.proofs.Common.{rules, tests}
use Rattle.std.proofs.lemmas.Iterator.{YieldsList-from_slice}
use Rattle.std.proofs.lemmas.Iterator.Search.{any_from_yields_List}
use Rattle.std.proofs.Common.{eqb}
use Rattle.paxos_reference.proofs.Found.{number_tells}
use Rattle.paxos_reference.proofs.may.is_begun.Goals as goal

pub returns : goal.returns
returns c =
    let xs = c.args.begun.now in
    number_tells c.args.ballot xs _
    (any_from_yields_List (λ x. eqb x c.args.ballot) _ _ _ c.any.ensures.ran (YieldsList-from_slice xs cc) (λ x b q k. search (rules, tests)))
