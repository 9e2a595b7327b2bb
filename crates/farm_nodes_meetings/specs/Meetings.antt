-- Meetings of the nodes of a farm, one after another, with nothing between them but meetings.
use Rattle.std.specs.Prelude.{◌≡◌, ◌≢◌, ℕ, suc, ◌<◌, List, [], ◌∷◌, length, Some, slice_get}
use Rattle.paxos_core_world.specs.Quorum.{Sizes}
use Rattle.rooms_crash_heard.specs.Heard.{back, forth}
use Rattle.farm_nodes_turn_passes.specs.Fours.{words_of, Four}
use Rattle.farm_nodes_turn_passes.specs.Meeting.{HaveMet}
use Rattle.farm_nodes_turn_passes.specs.Offers.{ConstantsOffer, ExpressionsOffer, AllocationOffer, OrderOffer}
use Rattle.farm_nodes_turn_passes.specs.declared.which.Which.{Which}

-- a node's seats in the rooms of all functions, by function
abbrev pub NodeSeats : Type 0
NodeSeats = List (Four ConstantsOffer ExpressionsOffer AllocationOffer OrderOffer)

-- a node's seats in the rooms of one function
abbrev pub FunctionSeats : Type 0
FunctionSeats = Four ConstantsOffer ExpressionsOffer AllocationOffer OrderOffer

module _ (q : Sizes) (functions : ℕ) where
  -- These two nodes meet in each room, which is one for both; the others are as they were.
  pub record NodesMeet (i j : ℕ) (old new : ℕ → NodeSeats) : Type 0 where
    pub two : i ≢ j
    pub first : i < q.nodes
    pub second : j < q.nodes
    pub first_count : length (new i) ≡ functions
    pub second_count : length (new j) ≡ functions
    pub met : (f : ℕ) (pass : Which) (a b a' b' : FunctionSeats) → slice_get (old i) f ≡ Some a → slice_get (old j) f ≡ Some b
        → slice_get (new i) f ≡ Some a' → slice_get (new j) f ≡ Some b'
        → HaveMet (words_of a pass) (words_of b pass) (words_of a' pass) (words_of b' pass)
    pub others : (k : ℕ) → k ≢ i → k ≢ j → new k ≡ old k

  -- they meet in pairs, the newest first
  abbrev pub NodesMeetings : List (ℕ × ℕ) → (ℕ → NodeSeats) → (ℕ → NodeSeats) → Type 0
  NodesMeetings [] old new = (k : ℕ) → new k ≡ old k
  NodesMeetings (p ∷ ps) old new = (between : ℕ → NodeSeats) × NodesMeetings ps old between × NodesMeet p.0 p.1 between new

  -- each two neighbours meet, from the first node to the last, and again on the way back
  pub record MeetForthAndBack (old new : ℕ → NodeSeats) : Type 0 where
    pub last : ℕ
    pub nodes : q.nodes ≡ suc last
    pub between : ℕ → NodeSeats
    pub met : NodesMeetings (forth last) old between
    pub met_again : NodesMeetings (back last) between new
