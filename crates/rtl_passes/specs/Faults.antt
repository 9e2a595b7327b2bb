-- What is said of an output: its form first, and then the lowest node that breaks a rule.
use Rattle.std.specs.Prelude.{ℕ, ◌<◌, Option, Some, None}
use Rattle.lang_base.specs.declared.fault.Fault.{Fault}
use Rattle.lang_base.specs.declared.fault.Fault.TheVariants.{Shape, Node}

-- the form is kept, and the rules at each of so many nodes
pub record KeepsRules (Form : Type 0) (Right : ℕ → Type 0) (count : ℕ) : Type 0 where
  pub shape : Form
  pub nodes : (n : ℕ) → n < count → Right n

-- something is wrong with this one of so many nodes, and with none below it
pub record IsLowest (Right : ℕ → Type 0) (count n : ℕ) : Type 0 where
  pub within : n < count
  pub wrong : ¬ Right n
  pub lower : (k : ℕ) → k < n → Right k

-- that node, or none where all is right
abbrev pub TellsLowest : (ℕ → Type 0) → ℕ → Option ℕ → Type 0
TellsLowest Right count None = (k : ℕ) → k < count → Right k
TellsLowest Right count (Some n) = IsLowest Right count n

-- None where the rules are kept, else the form, else the lowest node that breaks a rule.
abbrev pub TellsFault : Type 0 → (ℕ → Type 0) → ℕ → Option Fault → Type 0
TellsFault Form Right count None = KeepsRules Form Right count
TellsFault Form Right count (Some Shape) = ¬ Form
TellsFault Form Right count (Some (Node n)) = Form × IsLowest Right count n
