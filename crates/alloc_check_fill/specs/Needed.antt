-- Whether a block breaks a rule, and what is told of it.
use Rattle.std.specs.Prelude.{◌≡◌, List, ◌++◌, map, Option, Some, None, Bool, true, false}
use Rattle.std.specs.List.{flat_map, list_any}
use Rattle.alloc_check_rules.specs.Instruction.{Instruction}
use Rattle.alloc_check_rules.specs.Block.{Block}
use Rattle.alloc_check_rules.specs.declared.equation.Equation.{Equation}
use Rattle.alloc_check_rules.specs.declared.change.Change.{Change}
use Rattle.alloc_check_rules.specs.Equations.{back_equation}
use Rattle.alloc_check_rules.specs.Pairs.{change_of}
use Rattle.alloc_check_fill.specs.Fill.{is_refused, needs_of, demands, needed}

-- the block does what the instruction does, and nothing behind it demands what could not hold
abbrev pub KeepsAs : Block → Option Change → List Equation → Type 0
KeepsAs b None es = ⊥
KeepsAs b (Some change) es = list_any is_refused (demands b change es) ≡ false

abbrev pub KeepsEquations : Instruction → Block → List Equation → Type 0
KeepsEquations i b es = KeepsAs b (change_of i b.body) es

-- whether no rule is broken, and if so these are what is needed before the block
abbrev pub IsNeeded : Instruction → Block → List Equation → List Equation → Bool → Type 0
IsNeeded i b es found false = ¬ KeepsEquations i b es
IsNeeded i b es found true = KeepsEquations i b es × (found ≡ needed i b es)

-- the same where it is known what the block defines
abbrev pub IsNeededAs : Block → Change → List Equation → List Equation → List Equation → Bool → Type 0
IsNeededAs b change es before after false = list_any is_refused (demands b change es) ≡ true
IsNeededAs b change es before after true =
    (list_any is_refused (demands b change es) ≡ false)
    × (after ≡ before ++ map (back_equation b.before) (flat_map needs_of (demands b change es)))
