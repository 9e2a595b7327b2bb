-- The rule of a hall's word, which holds between any two steps on it.
use Rattle.std.specs.Prelude.{◌≡◌, ◌≢◌, ℕ, ◌<◌, ◌⊎◌, List, [], ◌∷◌, ◌++◌, length, slice_index}
use mathlib.Core.Option.{some}
use lib.ListN.{get_elem?}
use Rattle.atomic_table.specs.Table.{State}
use Rattle.rooms_hall.specs.declared.view.Given.{Given}
use Rattle.rooms_hall.specs.declared.view.View.{View}

-- it stands among these
abbrev pub Among : Given → List Given → Type 0
Among c [] = ⊥
Among c (d ∷ ds) = (c ≡ d) ⊎ Among c ds

-- somebody knows that this number was given to this room
abbrev pub IsGiven : List View → Given → Type 0
IsGiven views c = (seat : ℕ) × (v : View) × (get_elem? views seat ≡ some v) × Among c v.claims

-- the number stands among these
abbrev pub IsIn : ℕ → List ℕ → Type 0
IsIn n [] = ⊥
IsIn n (m ∷ ms) = (n ≡ m) ⊎ IsIn n ms

-- this seat has drawn the number and has given it to no room yet
abbrev pub HasDrawn : List View → ℕ → ℕ → Type 0
HasDrawn views seat n = (v : View) × (get_elem? views seat ≡ some v) × IsIn n v.drawn

-- The word is above all numbers that were drawn, and one number was given to one room. A number that no room has yet is held by one seat.
pub record HallRule {S : Type 0} (s : State S View) : Type 0 where
  pub size : length s.words ≡ 1
  pub below : (c : Given) → IsGiven s.views c → c.number < slice_index s.words 0
  pub one : (c d : Given) → IsGiven s.views c → IsGiven s.views d → c.number ≡ d.number → c ≡ d
  pub ahead : (seat n : ℕ) → HasDrawn s.views seat n → n < slice_index s.words 0
  pub alone : (seat other n : ℕ) → HasDrawn s.views seat n → HasDrawn s.views other n → seat ≡ other
  pub free : (seat n : ℕ) (c : Given) → HasDrawn s.views seat n → IsGiven s.views c → c.number ≢ n

-- who knows of no number
abbrev pub nothing : View
nothing = record { claims = []; drawn = [] }

-- who has drawn this number, and knows of no other
abbrev pub drew : ℕ → View
drew n = record { claims = []; drawn = n ∷ [] }

-- who knows of this number alone
abbrev pub knows : Given → View
knows c = record { claims = c ∷ []; drawn = [] }

-- a claim that was told what another one knows
abbrev pub both : View → View → View
both v w = record { claims = v.claims ++ w.claims; drawn = [] }
