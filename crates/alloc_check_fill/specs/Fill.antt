-- The equations at nodes for which there is no row: what each block needs before it, found by going back from the rows.
use Rattle.std.specs.Prelude.{ℕ, suc, ◌-◌, List, [], ◌∷◌, ◌++◌, Option, Some, None, Bool, true, false, map, slice_index_or, if◌then◌else◌}
use Rattle.std.specs.List.{flat_map, list_any}
use Rattle.alloc_check_rules.specs.Instruction.{Instruction}
use Rattle.alloc_check_rules.specs.Block.{Block}
use Rattle.alloc_check_rules.specs.declared.equation.Equation.{Equation}
use Rattle.alloc_check_rules.specs.declared.change.Change.{Change}
use Rattle.alloc_check_rules.specs.declared.demand.Demand.{Demand}
use Rattle.alloc_check_rules.specs.declared.demand.Demand.TheVariants.{Met, Refused, Needs}
use Rattle.alloc_check_rules.specs.Equations.{back_equation, demand}
use Rattle.alloc_check_rules.specs.Pairs.{change_of, uses, successors_of}

-- ---- what one block needs

abbrev pub is_refused : Demand → Bool
is_refused Met = false
is_refused Refused = true
is_refused (Needs e) = false

abbrev pub needs_of : Demand → List Equation
needs_of Met = []
needs_of Refused = []
needs_of (Needs e) = e ∷ []

-- what the equations behind a block demand
abbrev pub demands : Block → Change → List Equation → List Demand
demands b change es = map (demand b.body change) es

-- what is needed behind the block's first moves: what those equations demand, and what the instruction uses
abbrev pub inside : Instruction → Block → Change → List Equation → List Equation
inside i b change es = flat_map needs_of (demands b change es) ++ uses i b.body

-- What is needed before a block, so that these equations hold behind it: nothing where the block breaks a rule.
abbrev pub needed_as : Instruction → Block → Option Change → List Equation → List Equation
needed_as i b None es = []
needed_as i b (Some change) es =
    if list_any is_refused (demands b change es) then [] else map (back_equation b.before) (inside i b change es)

abbrev pub needed : Instruction → Block → List Equation → List Equation
needed i b es = needed_as i b (change_of i b.body) es

-- ---- the lists of all nodes

-- the equations where an instruction can go on
abbrev pub behind : (ℕ → List Equation) → Instruction → List Equation
behind at i = flat_map at (successors_of i)

-- What is known where the lists from this node on are: at a marked node its row. A block goes on at no other node that is
-- not above it.
abbrev pub known : (ℕ → Bool) → (ℕ → List Equation) → ℕ → List (List Equation) → ℕ → List Equation
known marked row first above n = if marked n then row n else slice_index_or above (n - first) []

-- In falling order: a marked node has its row, each other node what its block needs. These are the lists from this node on.
abbrev pub fill_from : (ℕ → Bool) → (ℕ → List Equation) → ℕ → List Instruction → List Block → List (List Equation)
fill_from marked row first [] bs = []
fill_from marked row first (i ∷ is) [] = []
fill_from marked row first (i ∷ is) (b ∷ bs) =
    (λ (above : List (List Equation)). (if marked first then row first else needed i b (behind (known marked row (suc first) above) i)) ∷ above) (fill_from marked row (suc first) is bs)

-- the lists of all nodes
abbrev pub fill : (ℕ → Bool) → (ℕ → List Equation) → List Instruction → List Block → List (List Equation)
fill marked row is bs = fill_from marked row 0 is bs
