-- Programs that a pass accepts.
use Rattle.std.specs.Prelude.{◌≡◌, List, [], ◌∷◌, All}
use Rattle.lang_base.specs.Behaviour.{Behaviour}
use Rattle.lang_base.specs.Keeps.{Keeps}
use Rattle.lang_base.specs.declared.program.Named.{Named}
use Rattle.lang_base.specs.declared.program.Program.{Program}

-- every function of the program is one of the language
abbrev pub AllFit : {F : Type 0} → (F → Type 0) → Program F → Type 0
AllFit Fits p = All (λ named. Fits named.function) p.functions

-- function by function: the same name, and accepted with some certificate
abbrev pub AcceptedInTurn : {F G C : Type 0} → (F → G → C → Type 0) → List (Named F) → List (Named G) → Type 0
AcceptedInTurn Accepts [] [] = Unit {0}
AcceptedInTurn Accepts [] (g ∷ gs) = ⊥
AcceptedInTurn Accepts (f ∷ fs) [] = ⊥
AcceptedInTurn {F} {G} {C} Accepts (f ∷ fs) (g ∷ gs) = ((f.name ≡ g.name) × ((cert : C) × Accepts f.function g.function cert)) × AcceptedInTurn Accepts fs gs

-- the second program is accepted for the first: the same globals, the same names, and each function accepted
pub record Accepted {F G C : Type 0} (Accepts : F → G → C → Type 0) (first : Program F) (second : Program G) : Type 0 where
  pub globals : first.globals ≡ second.globals
  pub functions : AcceptedInTurn Accepts first.functions second.functions

-- what is accepted keeps the meaning of whole programs, where all functions of both are in range
abbrev pub KeepsAll : {F G C : Type 0} → (F → Type 0) → (G → Type 0) → (F → G → C → Type 0)
    → (Program F → Behaviour) → (Program G → Behaviour) → Type 0
KeepsAll {F} {G} Fits OutputFits Accepts run output_run =
    (p : Program F) (q : Program G) → AllFit Fits p → AllFit OutputFits q → Accepted Accepts p q → Keeps (run p) (output_run q)
