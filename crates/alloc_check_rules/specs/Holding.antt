-- When an equation holds of what both functions work on (Rideau and Leroy 2010: the location has the register's word).
use Rattle.std.specs.Prelude.{◌≡◌, ℕ, List, [], ◌∷◌, length, Option, Some}
use Rattle.rtl_passes.specs.Data as rtl_data
use Rattle.ltl.specs.Data.{Data, value_at}
use Rattle.alloc_check_rules.specs.declared.equation.Equation.{Equation}
use Rattle.alloc_check_rules.specs.declared.demand.Demand.{Demand}
use Rattle.alloc_check_rules.specs.declared.demand.Demand.TheVariants.{Met, Refused, Needs}

-- where the first is defined the second is the same
pub record Covers (x y : Option ℕ) : Type 0 where
  pub by : (w : ℕ) → x ≡ Some w → y ≡ Some w

-- so one with one
abbrev pub AllCover : List (Option ℕ) → List (Option ℕ) → Type 0
AllCover [] [] = Unit {0}
AllCover [] (y ∷ ys) = ⊥
AllCover (x ∷ xs) [] = ⊥
AllCover (x ∷ xs) (y ∷ ys) = Covers x y × AllCover xs ys

-- the location has the register's word, where the register has one
abbrev pub Holds : rtl_data.Data → Data → Equation → Type 0
Holds d e q = Covers (rtl_data.value_at q.register d) (value_at q.location e)

-- what is demanded holds
abbrev pub DemandHolds : rtl_data.Data → Data → Demand → Type 0
DemandHolds d e Met = Unit {0}
DemandHolds d e Refused = ⊥
DemandHolds d e (Needs q) = Holds d e q

-- eight registers, and so many slots
pub record HasFrame (count : ℕ) (e : Data) : Type 0 where
  pub registers : length e.registers ≡ 8
  pub slots : length e.slots ≡ count
