-- Arguments as a function receives them (System V Application Binary Interface, AMD64 supplement, section 3.2.3): the first in registers,
-- the others in the cells that follow the one where it goes back to.
use Rattle.std.specs.Prelude.{◌≡◌, ℕ, ◌+◌, List, [], ◌∷◌, drop, Option, Some}
use Rattle.locations.specs.declared.location.Location.{Location}
use Rattle.machine.specs.Data.{Data, put_at}
use Rattle.x86_syntax.specs.declared.register.Register.{Register}
use Rattle.x86_state.specs.Cells.{word_at}
use Rattle.x86_state.specs.Registers.{word_in}
use Rattle.x86_state.specs.declared.cell.Cell.{Cell}
use Rattle.native_lowering_definition.specs.Locations.{passing}
use Rattle.native_lowering_relation.specs.Agreeing.{Agrees}

-- the values agree with the words of these registers, as far as both go
abbrev pub AgreeIn : List Register → List (Option ℕ) → List ℕ → Type 0
AgreeIn [] vs words = Unit {0}
AgreeIn (r ∷ rs) [] words = Unit {0}
AgreeIn (r ∷ rs) (v ∷ vs) words = Agrees v (word_in r words) × AgreeIn rs vs words

-- a cell holds a word with which this agrees
pub record AgreesAt (cell : ℕ) (v : Option ℕ) (cells : List Cell) : Type 0 where
  pub word : ℕ
  pub there : word_at cells cell ≡ Some word
  pub agrees : Agrees v word

-- so does each cell from this one on
abbrev pub AgreeFrom : ℕ → List (Option ℕ) → List Cell → Type 0
AgreeFrom cell [] cells = Unit {0}
AgreeFrom cell (v ∷ vs) cells = AgreesAt cell v cells × AgreeFrom (cell + 1) vs cells

-- values that a function is given
pub record Given (vs : List (Option ℕ)) (words : List ℕ) (under : List Cell) : Type 0 where
  pub first : AgreeIn passing vs words
  pub others : AgreeFrom 0 (drop 4 vs) under

-- the data where the locations hold the values, as far as there are registers
abbrev pub first_given : List Register → List Location → List (Option ℕ) → Data → Data
first_given [] ls vs d = d
first_given (r ∷ rs) [] vs d = d
first_given (r ∷ rs) (l ∷ ls) [] d = d
first_given (r ∷ rs) (l ∷ ls) (v ∷ vs) d = first_given rs ls vs (put_at l v d)
