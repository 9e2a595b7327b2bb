-- Two nodes that have met: by functions, what a node holds of each.
use Rattle.std.specs.Prelude.{◌≡◌, ◌≢◌, ℕ, ◌<◌, List, length, slice_get, Some}
use Rattle.farm_nodes_meet_seats.specs.Counts.{IsCount}
use Rattle.farm_nodes_meet_seats.specs.Functions.{AreOne, BothLink, HaveTwoNumbers, MetIn}
use Rattle.farm_nodes_meet_seats.specs.Held.{Held}

-- so it is of what both hold at this place
abbrev pub IsAt : {S : Type 0} → (S → S → Type 0) → List S → List S → ℕ → Type 0
IsAt {S} Is xs ys k = (a b : S) → slice_get xs k ≡ Some a → slice_get ys k ≡ Some b → Is a b

-- so it is at each place of what both held before and hold now
pub record AreAll {S : Type 0} (Are : S → S → S → S → Type 0) (xs ys xs' ys' : List S) : Type 0 where
  pub first : length xs' ≡ length xs
  pub second : length ys' ≡ length ys
  pub each : (k : ℕ) (a b a' b' : S) → slice_get xs k ≡ Some a → slice_get ys k ≡ Some b
      → slice_get xs' k ≡ Some a' → slice_get ys' k ≡ Some b' → Are a b a' b'

module _ {S T1 T2 T3 T4 : Type 0} (view : S → Held T1 T2 T3 T4) where
  -- both link the function at this place
  abbrev pub LinkAt : List S → List S → ℕ → Type 0
  LinkAt xs ys k = IsAt (λ a b. BothLink (view a) (view b)) xs ys k

  -- its rooms have two numbers
  abbrev pub IsStrangeAt : List S → List S → ℕ → Type 0
  IsStrangeAt xs ys k = IsAt (λ a b. HaveTwoNumbers (view a) (view b)) xs ys k

  -- nodes of two farms: so it is of each function
  abbrev pub AreAllStrange : List S → List S → Type 0
  AreAllStrange xs ys = (k : ℕ) → k < length xs → IsStrangeAt xs ys k

  -- its four rooms are the same
  abbrev pub IsOneAt : List S → List S → ℕ → Type 0
  IsOneAt xs ys k = IsAt (λ a b. AreOne (view a) (view b)) xs ys k

-- Nodes that hold other numbers of functions do not meet, and nothing is counted. Others do in every room, and exactly the
-- functions are counted that both link then.
pub record HaveMetAll {S T1 T2 T3 T4 : Type 0} (xs ys xs' ys' : List S) (count : ℕ) (view : S → Held T1 T2 T3 T4) : Type 0 where
  pub unlike : length xs ≢ length ys → (xs' ≡ xs) × (ys' ≡ ys) × (count ≡ 0)
  pub met : length xs ≡ length ys → AreAll (λ a b a' b'. MetIn (view a) (view b) (view a') (view b')) xs ys xs' ys'
  pub counted : length xs ≡ length ys → IsCount (LinkAt view xs' ys') (length xs) count
