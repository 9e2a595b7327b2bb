-- Chains of four offers, one for each pass, and the programs that they link.
use Rattle.std.specs.Prelude.{◌≡◌, ◌≢◌, ℕ, List, [], ◌∷◌, ◌++◌, map, take, slice_get, Option, Some, None}
use Rattle.lang_base.specs.declared.program.Named as code
use Rattle.lang_base.specs.declared.program.Program.{Program}
use Rattle.offers.specs.declared.parts.Parts.{Parts}
use Rattle.linker.specs.declared.chain.Chain.{Chain}
use Rattle.linker.specs.declared.chain.Named.{Named}
use Rattle.linker.specs.declared.errors.LinkError.{LinkError}
use Rattle.linker.specs.declared.errors.LinkError.TheVariants.{NoMemory, TooManyNodes, Missing, Unchained, Names}

-- the names of a program's functions, and those beside offers
abbrev pub names_of : {F : Type 0} → List (code.Named F) → List (List ℕ)
names_of functions = map (λ f. f.name) functions

-- the same names, in the same order
abbrev pub HasNamesOf : {F G : Type 0} → Program F → Program G → Type 0
HasNamesOf first p = names_of p.functions ≡ names_of first.functions

abbrev pub names_beside : {O1 O2 O3 O4 : Type 0} → List (Named O1 O2 O3 O4) → List (List ℕ)
names_beside named = map (λ n. n.name.now) named

-- each offer goes on from the output of the one before it, and the first from the function
pub record IsChain {A1 A2 A3 A4 A5 C1 C2 C3 C4 : Type 0} (start : A1) (chain : Chain (Parts A1 A2 C1) (Parts A2 A3 C2) (Parts A3 A4 C3) (Parts A4 A5 C4)) : Type 0 where
  pub first : chain.first.now.input ≡ start
  pub second : chain.second.now.input ≡ chain.first.now.output
  pub third : chain.third.now.input ≡ chain.second.now.output
  pub fourth : chain.fourth.now.input ≡ chain.third.now.output

-- there are four offers, and they go on from the function
abbrev pub HasChain : {A1 A2 A3 A4 A5 C1 C2 C3 C4 : Type 0} → A1 → Option (Chain (Parts A1 A2 C1) (Parts A2 A3 C2) (Parts A3 A4 C3) (Parts A4 A5 C4)) → Type 0
HasChain start None = ⊥
HasChain start (Some chain) = IsChain start chain

-- function by function
abbrev pub AllChained : {A1 A2 A3 A4 A5 C1 C2 C3 C4 : Type 0} → List (code.Named A1) → List (Named (Parts A1 A2 C1) (Parts A2 A3 C2) (Parts A3 A4 C3) (Parts A4 A5 C4)) → Type 0
AllChained [] [] = Unit {0}
AllChained [] (n ∷ named) = ⊥
AllChained (f ∷ functions) [] = ⊥
AllChained (f ∷ functions) (n ∷ named) = HasChain f.function n.chain × AllChained functions named

-- what is made of a function by its chain; without one nothing
abbrev pub made_of : {F O1 O2 O3 O4 : Type 0} → (Chain O1 O2 O3 O4 → F) → List ℕ → Option (Chain O1 O2 O3 O4) → List (code.Named F)
made_of make name None = []
made_of make name (Some chain) = record { name = name; function = make chain } ∷ []

abbrev pub all_made_of : {A F O1 O2 O3 O4 : Type 0} → (Chain O1 O2 O3 O4 → F) → List (code.Named A) → List (Named O1 O2 O3 O4) → List (code.Named F)
all_made_of make [] named = []
all_made_of make (f ∷ functions) [] = []
all_made_of make (f ∷ functions) (n ∷ named) = made_of make f.name n.chain ++ all_made_of make functions named

-- the program of the last outputs: the globals and the names of the program, and each function the output of its fourth offer
abbrev pub linked : {A O1 O2 O3 I F C : Type 0} → Program A → List (Named O1 O2 O3 (Parts I F C)) → Program F
linked program named = record { globals = program.globals; functions = all_made_of (λ chain. chain.fourth.now.output) program.functions named }

-- the functions before this one are chained, and it has no offers
pub record IsMissing {A1 A2 A3 A4 A5 C1 C2 C3 C4 : Type 0} (functions : List (code.Named A1)) (named : List (Named (Parts A1 A2 C1) (Parts A2 A3 C2) (Parts A3 A4 C3) (Parts A4 A5 C4))) (i : ℕ) : Type 0 where
  pub before : AllChained (take i functions) (take i named)
  pub beside : Named (Parts A1 A2 C1) (Parts A2 A3 C2) (Parts A3 A4 C3) (Parts A4 A5 C4)
  pub there : slice_get named i ≡ Some beside
  pub missing : beside.chain ≡ None

-- the functions before this one are chained, and its offers do not go on from it
pub record IsUnchained {A1 A2 A3 A4 A5 C1 C2 C3 C4 : Type 0} (functions : List (code.Named A1)) (named : List (Named (Parts A1 A2 C1) (Parts A2 A3 C2) (Parts A3 A4 C3) (Parts A4 A5 C4))) (i : ℕ) : Type 0 where
  pub before : AllChained (take i functions) (take i named)
  pub function : code.Named A1
  pub beside : Named (Parts A1 A2 C1) (Parts A2 A3 C2) (Parts A3 A4 C3) (Parts A4 A5 C4)
  pub chain : Chain (Parts A1 A2 C1) (Parts A2 A3 C2) (Parts A3 A4 C3) (Parts A4 A5 C4)
  pub of : slice_get functions i ≡ Some function
  pub there : slice_get named i ≡ Some beside
  pub offered : beside.chain ≡ Some chain
  pub broken : IsChain function.function chain → ⊥

-- why a program is not linked: the first fault, the names before the chains
abbrev pub Refusal : {A1 A2 A3 A4 A5 C1 C2 C3 C4 : Type 0} → List (code.Named A1) → List (Named (Parts A1 A2 C1) (Parts A2 A3 C2) (Parts A3 A4 C3) (Parts A4 A5 C4)) → LinkError → Type 0
Refusal functions named NoMemory = Unit {0}
Refusal functions named Names = names_beside named ≢ names_of functions
Refusal functions named (TooManyNodes i) = ⊥
Refusal functions named (Missing i) = IsMissing functions named i
Refusal functions named (Unchained i) = IsUnchained functions named i

-- so it is where the names are the program's and all chains are whole
abbrev pub WhereWhole : {A1 A2 A3 A4 A5 C1 C2 C3 C4 : Type 0} → List (code.Named A1) → List (Named (Parts A1 A2 C1) (Parts A2 A3 C2) (Parts A3 A4 C3) (Parts A4 A5 C4)) → Type 0 → Type 0
WhereWhole functions named P = names_beside named ≡ names_of functions → AllChained functions named → P
