-- What the records of a node are read as.
use Rattle.std.specs.Prelude.{◌≡◌, ◌⊎◌, ℕ, ◌<◌, ◌*◌, List, length, Some, slice_get}
use Rattle.std.specs.Global.{Vec}
use Rattle.rtl_language.specs.contracts.language.RtlLanguage.TheImpl as rtl_language
use Rattle.ltl.specs.contracts.language.LtlLanguage.TheImpl as ltl_language
use Rattle.linear_language.specs.contracts.language.LinearLanguage.TheImpl as linear_language
use Rattle.constprop_check.specs.contracts.pass.ConstPropPass.TheImpl as constants
use Rattle.cse_check.specs.contracts.pass.CsePass.TheImpl as expressions
use Rattle.farm_nodes_open_offers.specs.AllocPass.TheImpl as allocation
use Rattle.linearize_check.specs.contracts.pass.LinearizePass.TheImpl as order
use Rattle.paxos_core_world.specs.KeptPart.{KeptPart}
use Rattle.acceptor_log_form.specs.Leaves.{kept_in}
use Rattle.acceptor_log_form.specs.Order.{AreInOrder}
use Rattle.acceptor_log_form.specs.declared.record.Record.{Record}
use Rattle.farm_nodes_open_offers.specs.Offers.{ConstantsOffer, ExpressionsOffer, AllocationOffer, OrderOffer}
use Rattle.farm_nodes_open_offers.specs.Passes.{Passes}
use Rattle.farm_nodes_open_offers.specs.Which.TheVariants.{Constants, Expressions, Allocation, Order}
use Rattle.farm_nodes_open_offers.specs.Stored.{HasNoParts, IsStored}
use Rattle.farm_nodes_open_offers.specs.declared.storing.Stored.{Stored}
use Rattle.farm_nodes_open_stored.specs.Nodes.{AllMade, AreMade, AtNode}

-- what the records of node i of so many leave of each room of so many functions, in which they are in order
pub record AreKept (functions count i : ℕ) (rs : List Record) (kept : List KeptPart) : Type 0 where
  pub size : length kept ≡ 4 * functions
  pub each : (m : ℕ) → m < 4 * functions → slice_get kept m ≡ Some (kept_in rs m)
  pub in_order : AreInOrder count i (4 * functions) rs

-- offers of the four passes
abbrev pub AllStored : Type 0
AllStored = Passes (Stored ConstantsOffer) (Stored ExpressionsOffer) (Stored AllocationOffer) (Stored OrderOffer)

-- they are those among the records, pass by pass
pub record AreStored (rs : List Record) (all : AllStored) : Type 0 where
  pub constants : IsStored rtl_language.ghosts rtl_language.ghosts constants.ghosts Constants rs all.constants
  pub expressions : IsStored rtl_language.ghosts rtl_language.ghosts expressions.ghosts Expressions rs all.expressions
  pub allocation : IsStored rtl_language.ghosts ltl_language.ghosts allocation.ghosts Allocation rs all.allocation
  pub order : IsStored ltl_language.ghosts linear_language.ghosts order.ghosts Order rs all.order

-- one of the records is no offer of its room's pass
abbrev pub HasNoOffer : List Record → Type 0
HasNoOffer rs =
    HasNoParts rtl_language.ghosts rtl_language.ghosts constants.ghosts Constants rs
    ⊎ HasNoParts rtl_language.ghosts rtl_language.ghosts expressions.ghosts Expressions rs
    ⊎ HasNoParts rtl_language.ghosts ltl_language.ghosts allocation.ghosts Allocation rs
    ⊎ HasNoParts ltl_language.ghosts linear_language.ghosts order.ghosts Order rs

-- they are out of order
abbrev pub AreOutOfOrder : ℕ → ℕ → ℕ → List Record → Type 0
AreOutOfOrder functions count i rs = AreInOrder count i (4 * functions) rs → ⊥

-- they are, or one is no offer
abbrev pub AreBad : ℕ → ℕ → ℕ → List Record → Type 0
AreBad functions count i rs = AreOutOfOrder functions count i rs ⊎ HasNoOffer rs

-- The journal of a node is given as a pair of something and its records.
module _ {J : Type 0} where
  abbrev pub IsKeptPart : ℕ → ℕ → ℕ → J × Vec Record → Vec KeptPart → Type 0
  IsKeptPart functions count i j kept = AreKept functions count i j.1.items kept.items

  abbrev pub IsStoredPart : ℕ → J × Vec Record → AllStored → Type 0
  IsStoredPart i j all = AreStored j.1.items all

  abbrev pub IsBadPart : ℕ → ℕ → ℕ → J × Vec Record → Type 0
  IsBadPart functions count i j = AreBad functions count i j.1.items

  -- what each node has kept
  abbrev pub AreKeptIn : ℕ → List (J × Vec Record) → List (Vec KeptPart) → Type 0
  AreKeptIn functions journals kept = AreMade (IsKeptPart functions (length journals)) journals (length journals) kept

  -- the records of this node are out of order, or one is no offer
  abbrev pub HasBadPart : ℕ → List (J × Vec Record) → ℕ → Type 0
  HasBadPart functions journals node = AtNode (IsBadPart functions (length journals)) node journals

  -- the records of the first nodes, so many, are in order, and their offers are offers of the passes
  pub record WereRead (functions : ℕ) (journals : List (J × Vec Record)) (so_far : ℕ) : Type 0 where
    pub kept : AllMade (IsKeptPart functions (length journals)) journals so_far
    pub stored : AllMade IsStoredPart journals so_far

  -- so are those of all
  abbrev pub AllWereRead : ℕ → List (J × Vec Record) → Type 0
  AllWereRead functions journals = WereRead functions journals (length journals)
