-- Why what `over` leaves is in order.
use Rattle.durable_pair_held.specs.Held.{past_of}
use Rattle.durable_pair_files.proofs.Lifted.{opened_new, opened_old}
use Rattle.durable_pair_files.proofs.file.FilePair.over.Goals as goal

pub invariant_of-result : goal.invariant_of-result
invariant_of-result c =
    let p = past_of c.holding.result in
    let none = c.holding.ensures.no_call in
    record { rests = λ _. opened_new p none; old_rests = λ _. opened_old p none; spare = c.holding.ensures.space }
