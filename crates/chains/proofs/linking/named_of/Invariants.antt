use Rattle.std.proofs.Common.{take}
use Rattle.chains.specs.Lent.{AreBeside}
use Rattle.chains.proofs.linking.named_of.Given as goal

-- the first functions' names are there, with their offers
abbrev pub invariant-loop-number : goal.invariant-loop-number
invariant-loop-number l = AreBeside (take l.number l.functions) (take l.number l.offers) l.named.items
