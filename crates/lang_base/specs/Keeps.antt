-- When a program keeps the meaning of another (Leroy 2009, section 2.1: preservation of the behaviours that are not wrong).
use Rattle.std.specs.Prelude.{ℕ, List, ◌↔◌}
use Rattle.lang_base.specs.Behaviour.{Behaviour, IsBeginningOf, NeverWrong, EndsWith}

-- what is asked of the second run where the first never goes wrong
pub record Preserves (first second : Behaviour) : Type 0 where
  -- it never goes wrong either
  pub safe : NeverWrong second
  -- it prints nothing that the first does not print
  pub no_more : (n : ℕ) → (m : ℕ) × IsBeginningOf (second n).output (first m).output
  -- it ends with an output and a result exactly where the first does
  pub ends : (output : List ℕ) (result : ℕ) → EndsWith first output result ↔ EndsWith second output result
  -- it prints all that the first prints
  pub no_less : (m : ℕ) → (n : ℕ) × IsBeginningOf (first m).output (second n).output

-- the second keeps the meaning of the first: nothing is asked where the first goes wrong
abbrev pub Keeps : Behaviour → Behaviour → Type 0
Keeps first second = NeverWrong first → Preserves first second
