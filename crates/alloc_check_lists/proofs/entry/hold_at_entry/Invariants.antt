use Rattle.alloc_check_fill.specs.Rules.{HoldsAtEntry}
use Rattle.alloc_check_lists.proofs.Each.{HoldsBelow}
use Rattle.alloc_check_lists.proofs.entry.hold_at_entry.Given as goal

abbrev pub invariant-loop-equation : goal.invariant-loop-equation
invariant-loop-equation l = HoldsBelow (HoldsAtEntry l.registers l.locations) l.equations l.equation-index
