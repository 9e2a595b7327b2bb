-- Agreement in the farm: one code for each function that is linked, offers that chain from pass to pass, and the same after a reopening.
use Rattle.std.specs.Prelude.{◌≡◌, ℕ, List, ◌++◌}
use Rattle.paxos_core_world.specs.Farm.{Farm, FarmLabel, Offer, IsPass, IsFarmRun, IsChained, KeepsOffers, Links, empty_farm, farm_opening, farm_reached, reopened}
use Rattle.paxos_core_world.specs.KeptPart.{KeptPart}
use Rattle.paxos_core_world.specs.Quorum.{Sizes, AreQuorums}
use Rattle.paxos_core_world.specs.Settled.{Settled}

-- with quorums that meet the steps are a run of a farm that opens with settled rooms, whatever their offers are
pub record IsSettledFarmRun (q : Sizes) (rtl : ℕ → List ℕ) (nodes : ℕ → ℕ → ℕ → KeptPart) (offers : ℕ → ℕ → ℕ → Offer) (steps : List FarmLabel) : Type 0 where
  pub sizes : AreQuorums q
  pub settled : (f k : ℕ) → IsPass k → Settled q (nodes f k)
  pub run : IsFarmRun q rtl (farm_opening q.nodes nodes offers) steps

-- these later steps are a run of the farm opened again, with the kept parts and the offers that the steps before left
pub record IsFarmReopening (q : Sizes) (rtl : ℕ → List ℕ) (farm : Farm) (before : List FarmLabel) (kept : ℕ → ℕ → ℕ → Offer) (later : List FarmLabel) : Type 0 where
  pub first : IsFarmRun q rtl farm before
  pub offers : KeepsOffers (farm_reached farm before) kept
  pub again : IsFarmRun q rtl (reopened q.nodes (farm_reached farm before) kept) later

-- what a node links in the one farm is what another links in the other
abbrev pub LinksAs : Farm → Farm → Type 0
LinksAs old new = (i j f : ℕ) (left right : List ℕ) → Links old i f left → Links new j f right → left ≡ right

-- two nodes that link a function link the same code
abbrev pub LinksOne : Farm → Type 0
LinksOne farm = LinksAs farm farm

-- ---- the promises

-- in every run from settled rooms two nodes that link a function link the same code
abbrev pub RunsLinkOne : Type 0
RunsLinkOne =
    (q : Sizes) (rtl : ℕ → List ℕ) (nodes : ℕ → ℕ → ℕ → KeptPart) (offers : ℕ → ℕ → ℕ → Offer) (steps : List FarmLabel)
    → IsSettledFarmRun q rtl nodes offers steps → LinksOne (farm_reached (farm_opening q.nodes nodes offers) steps)

-- in every run from the empty farm each learned offer's input is the output learned in the pass before, or in pass 1 the function's RTL
abbrev pub RunsChain : Type 0
RunsChain =
    (q : Sizes) (rtl : ℕ → List ℕ) (steps : List FarmLabel) → AreQuorums q → IsFarmRun q rtl (empty_farm q.nodes) steps
    → IsChained rtl (farm_reached (empty_farm q.nodes) steps)

-- a run after a reopening is the old run of the farm going on
abbrev pub FarmReopeningsGoOn : Type 0
FarmReopeningsGoOn =
    (q : Sizes) (rtl : ℕ → List ℕ) (nodes : ℕ → ℕ → ℕ → KeptPart) (offers kept : ℕ → ℕ → ℕ → Offer) (before later : List FarmLabel)
    → IsSettledFarmRun q rtl nodes offers before → IsFarmReopening q rtl (farm_opening q.nodes nodes offers) before kept later
    → IsFarmRun q rtl (farm_opening q.nodes nodes offers) (later ++ before)

-- what is linked after a reopening is what was linked before it
abbrev pub FarmReopeningsLinkAsBefore : Type 0
FarmReopeningsLinkAsBefore =
    (q : Sizes) (rtl : ℕ → List ℕ) (nodes : ℕ → ℕ → ℕ → KeptPart) (offers kept : ℕ → ℕ → ℕ → Offer) (before later : List FarmLabel)
    → IsSettledFarmRun q rtl nodes offers before → IsFarmReopening q rtl (farm_opening q.nodes nodes offers) before kept later
    → LinksAs (farm_reached (farm_opening q.nodes nodes offers) before) (farm_reached (reopened q.nodes (farm_reached (farm_opening q.nodes nodes offers) before) kept) later)
