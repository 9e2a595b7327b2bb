-- The farm: one room for each function and each pass 1 to 4, in which the nodes agree on one node's offer.
-- An offer is the pair of its written texts, lists of bytes; functions are numbered from 0.
use Rattle.std.specs.Prelude.{◌≡◌, ℕ, zero, suc, ◌<◌, ◌≤◌, ◌==◌, ◌&&◌, if◌then◌else◌, IsTrue, List, [], ◌∷◌}
use Rattle.paxos_core_world.specs.KeptPart.{KeptPart}
use Rattle.paxos_core_world.specs.Quorum.{Sizes}
use Rattle.paxos_core_world.specs.Step.{Label, Offers, Starts, Promises, Proposes, Accepts, Learns, Restarts, Allowed, after}
use Rattle.paxos_core_world.specs.World.{World, Has, opening, no_nodes}

-- an offer: the written input of its pass, and the written output
pub record Offer : Type 0 where
  pub input : List ℕ
  pub output : List ℕ

-- each room's world, and each node's offer in it, which counts once the node has offered there; by function, pass and node
pub record Farm : Type 0 where
  pub rooms : ℕ → ℕ → World
  pub offers : ℕ → ℕ → ℕ → Offer

-- the passes are 1 to 4
abbrev pub IsPass : ℕ → Type 0
IsPass k = (1 ≤ k) × (k ≤ 4)

-- one step of the farm, in the room of function f and pass k: node i offers, or another step of the protocol
pub data FarmLabel : Type 0 where
  Offering : (f k i : ℕ) → (offer : Offer) → FarmLabel
  Stepping : (f k : ℕ) → (step : Label) → FarmLabel

-- the step is no offer
abbrev pub IsNoOffer : Label → Type 0
IsNoOffer (Offers i) = ⊥
IsNoOffer (Starts i b) = Unit {0}
IsNoOffer (Promises a b) = Unit {0}
IsNoOffer (Proposes b v) = Unit {0}
IsNoOffer (Accepts a b v) = Unit {0}
IsNoOffer (Learns i v) = Unit {0}
IsNoOffer (Restarts i) = Unit {0}

-- node i may offer on this input in function f's room of pass k: in pass 1 it is the function's RTL, and in pass k + 1 it is
-- the output of the offer that i learned in pass k
abbrev pub IsInput : (ℕ → List ℕ) → Farm → ℕ → ℕ → ℕ → List ℕ → Type 0
IsInput rtl farm f zero i input = ⊥
IsInput rtl farm f (suc zero) i input = input ≡ rtl f
IsInput rtl farm f (suc (suc k)) i input =
    (v : ℕ) × Has (i, v) (farm.rooms f (suc k)).learned × (input ≡ (farm.offers f (suc k) v).output)

-- what a step of the farm needs, with quorums of these sizes
abbrev pub FarmAllowed : Sizes → (ℕ → List ℕ) → Farm → FarmLabel → Type 0
FarmAllowed q rtl farm (Offering f k i offer) =
    IsPass k × Allowed q (farm.rooms f k) (Offers i) × IsInput rtl farm f k i offer.input
FarmAllowed q rtl farm (Stepping f k step) = IsPass k × IsNoOffer step × Allowed q (farm.rooms f k) step

-- the rooms with another world in one of them
abbrev pub put_room : (ℕ → ℕ → World) → ℕ → ℕ → World → ℕ → ℕ → World
put_room rooms f k w g m = if (g == f) && (m == k) then w else rooms g m

-- the offers with another one of node i in one room
abbrev pub put_offer : (ℕ → ℕ → ℕ → Offer) → ℕ → ℕ → ℕ → Offer → ℕ → ℕ → ℕ → Offer
put_offer offers f k i offer g m j = if (g == f) && ((m == k) && (j == i)) then offer else offers g m j

-- what a step of the farm does
abbrev pub farm_after : Farm → FarmLabel → Farm
farm_after farm (Offering f k i offer) =
    record {
      rooms = put_room farm.rooms f k (after (farm.rooms f k) (Offers i));
      offers = put_offer farm.offers f k i offer;
    }
farm_after farm (Stepping f k step) =
    record { rooms = put_room farm.rooms f k (after (farm.rooms f k) step); offers = farm.offers }

-- the farm to which these steps lead, the newest first
abbrev pub farm_reached : Farm → List FarmLabel → Farm
farm_reached farm [] = farm
farm_reached farm (l ∷ ls) = farm_after (farm_reached farm ls) l

-- these steps are a run of the farm, with quorums of these sizes
abbrev pub IsFarmRun : Sizes → (ℕ → List ℕ) → Farm → List FarmLabel → Type 0
IsFarmRun q rtl farm [] = Unit {0}
IsFarmRun q rtl farm (l ∷ ls) = IsFarmRun q rtl farm ls × FarmAllowed q rtl (farm_reached farm ls) l

-- the farm whose rooms open with these kept parts, by function, pass and node, and with these offers
abbrev pub farm_opening : ℕ → (ℕ → ℕ → ℕ → KeptPart) → (ℕ → ℕ → ℕ → Offer) → Farm
farm_opening n nodes offers = record { rooms = λ f k. opening n (nodes f k); offers = offers }

-- the farm in which nothing has happened yet
abbrev pub empty_farm : ℕ → Farm
empty_farm n = farm_opening n (λ _ _. no_nodes) (λ _ _ _. record { input = []; output = [] })

-- these offers are those that were made in the farm: other nodes' offers count for nothing
abbrev pub KeepsOffers : Farm → (ℕ → ℕ → ℕ → Offer) → Type 0
KeepsOffers farm offers = (f k i : ℕ) → IsPass k → IsTrue ((farm.rooms f k).nodes i).offered → offers f k i ≡ farm.offers f k i

-- the farm opened again from its kept parts, with these offers
abbrev pub reopened : ℕ → Farm → (ℕ → ℕ → ℕ → Offer) → Farm
reopened n farm offers = farm_opening n (λ f k. (farm.rooms f k).nodes) offers

-- node i links function f as this code: it has learned f's four rooms, and the code is the output of the offer learned in the fourth
pub record Links (farm : Farm) (i f : ℕ) (code : List ℕ) : Type 0 where
  pub values : ℕ → ℕ
  pub learned : (k : ℕ) → IsPass k → Has (i, values k) (farm.rooms f k).learned
  pub is_output : code ≡ (farm.offers f 4 (values 4)).output

-- the offer of node v in the room of pass k + 1 has as its input the output of the one value learned in the room of pass k
pub record Follows (farm : Farm) (f k v : ℕ) : Type 0 where
  pub value : ℕ
  pub node : ℕ
  pub learned : Has (node, value) (farm.rooms f k).learned
  pub only : (j u : ℕ) → Has (j, u) (farm.rooms f k).learned → u ≡ value
  pub input : (farm.offers f (suc k) v).input ≡ (farm.offers f k value).output

-- each learned offer's input is the function's RTL in pass 1, and the output learned in the pass before in the others
pub record IsChained (rtl : ℕ → List ℕ) (farm : Farm) : Type 0 where
  pub first : (f i v : ℕ) → Has (i, v) (farm.rooms f 1).learned → (farm.offers f 1 v).input ≡ rtl f
  pub later : (f k i v : ℕ) → 1 ≤ k → k < 4 → Has (i, v) (farm.rooms f (suc k)).learned → Follows farm f k v
