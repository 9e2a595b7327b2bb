use Rattle.std.proofs.Common.{◌≡◌, take}
use Rattle.linker.specs.Chains.{names_beside, names_of}
use Rattle.farm_nodes_link.specs.Learned.{learned_by}
use Rattle.farm_nodes_link.specs.Lent.{lent_beside}
use Rattle.farm_nodes_link.proofs.linking.named_of.Given as goal

-- the first functions' names are there, with what was learned of each
abbrev pub invariant-loop-number : goal.invariant-loop-number
invariant-loop-number g l =
    (names_beside l.named.items ≡ names_of (take l.number l.functions))
    × (lent_beside l.named.items ≡ learned_by (take l.number l.seats))
