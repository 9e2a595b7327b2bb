-- The offers of functions, each of which the check of its pass has accepted.
use Rattle.std.specs.Prelude.{◌≡◌, ℕ, ◌<◌, ◌/◌, ◌==◌, if◌then◌else◌, List, [], ◌∷◌, length, Option, Some, None, slice_get, slice_set}
use Rattle.offers.specs.declared.parts.Parts.{Parts}
use Rattle.farm_nodes_open_offers.specs.declared.storing.Stored.{Stored}

-- the pass's rules hold of the parts
abbrev pub IsAccepted : {I O C : Type 0} → (I → O → C → Type 0) → Parts I O C → Type 0
IsAccepted accepts x = accepts x.input x.output x.certificate

-- they do not hold of one of them
pub record HasUnaccepted {I O C : Type 0} (accepts : I → O → C → Type 0) (xs : List (Parts I O C)) : Type 0 where
  pub at : ℕ
  pub parts : Parts I O C
  pub stands : slice_get xs at ≡ Some parts
  pub refused : accepts parts.input parts.output parts.certificate → ⊥

-- the offers of functions once one of this room is among them
abbrev pub placed : {T : Type 0} → List (Option T) → ℕ → T → List (Option T)
placed offers room x = slice_set offers (room / 4) (Some x)

-- what stands in rooms of a function, the last of it, if anything does, and else what is given
abbrev pub last_in : {T : Type 0} → ℕ → Option T → List ℕ → List T → Option T
last_in f given [] xs = given
last_in f given (room ∷ rooms) [] = given
last_in f given (room ∷ rooms) (x ∷ xs) = last_in f (if room / 4 == f then Some x else given) rooms xs

-- they are the offers of so many functions
pub record AreKnown {T : Type 0} (functions : ℕ) (stored : Stored T) (offers : List (Option T)) : Type 0 where
  pub count : length offers ≡ functions
  pub each : (f : ℕ) → f < functions → slice_get offers f ≡ Some (last_in f None stored.rooms.items stored.parts.items)
