-- A crash of all nodes of a farm: one of each of its rooms at once.
use Rattle.std.specs.Prelude.{ℕ, List}
use Rattle.paxos_core_world.specs.Farm.{Farm, FarmLabel, Offer, IsPass, IsFarmRun, KeepsOffers, farm_opening, farm_reached}
use Rattle.paxos_core_world.specs.KeptPart.{KeptPart}
use Rattle.paxos_core_world.specs.Quorum.{Sizes}
use Rattle.paxos_core_theorem.specs.OneCode.{LinksAs}
use Rattle.paxos_core_crash.specs.Crash.{IsLeftByCrash}

-- each room is left so, by function, pass and node, and these are the offers that were made
pub record IsFarmLeftByCrash (q : Sizes) (farm : Farm) (left : ℕ → ℕ → ℕ → KeptPart) (kept : ℕ → ℕ → ℕ → Offer) : Type 0 where
  pub rooms : (f k : ℕ) → IsPass k → IsLeftByCrash q (farm.rooms f k) (left f k)
  pub offers : KeepsOffers farm kept

-- what is linked in the farm opened again from what a crash left is what was linked before the crash
abbrev pub CrashesLinkAsBefore : Type 0
CrashesLinkAsBefore =
    (q : Sizes) (rtl : ℕ → List ℕ) (farm : Farm) (left : ℕ → ℕ → ℕ → KeptPart) (kept : ℕ → ℕ → ℕ → Offer) (later : List FarmLabel)
    → IsFarmLeftByCrash q farm left kept → IsFarmRun q rtl (farm_opening q.nodes left kept) later
    → LinksAs farm (farm_reached (farm_opening q.nodes left kept) later)
