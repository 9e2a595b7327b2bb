-- Why `first_from` meets its contract.
use Rattle.std.proofs.Common.{ltb, rules}
use Rattle.std.proofs.lemmas.List.Sorted.{IsPartitionPoint-from_clause}
use Rattle.rtl_passes_facts.proofs.Places.{lower_first, first_at}
use Rattle.constprop_check_rules.specs.Rules.{rank}
use Rattle.constprop_check.proofs.keeping.first_from.Goals as goal

pub returns : goal.returns
returns c =
    let parted = lower_first rank c.args.facts.now c.args.least c.requires in
    let point = IsPartitionPoint-from_clause (λ y. ltb (rank y) c.args.least) _ _ c.partition_point.ensures.partitioned parted (λ a r q k. search rules) in
    first_at rank c.args.facts.now c.args.least c.partition_point.result c.partition_point.ensures.bound point
