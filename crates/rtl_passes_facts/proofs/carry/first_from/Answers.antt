-- Why `first_from` meets its contract.
use Rattle.std.proofs.Common.{ltb, rules}
use Rattle.std.proofs.lemmas.List.Sorted.{IsPartitionPoint-from_clause}
use Rattle.rtl_passes_filled.proofs.Places.{lower_first, first_at}
use Rattle.rtl_passes_facts.proofs.carry.first_from.Goals as goal

pub returns : goal.returns
returns g c =
    let rank = g.R.Rules.rules.rank in
    let parted = lower_first rank c.args.facts.now c.args.least c.requires in
    let point = IsPartitionPoint-from_clause (λ y. ltb (rank y) c.args.least) _ _ c.partition_point.ensures.partitioned parted (λ a r q k. search rules) in
    first_at rank c.args.facts.now c.args.least c.partition_point.result c.partition_point.ensures.bound point
