-- The seats of a farm's nodes, as they open from what stands in their journals.
use Rattle.std.specs.Prelude.{◌≡◌, ℕ, ◌<◌, List, length, All, Option}
use Rattle.std.specs.Global.{Vec}
use Rattle.lang_base.specs.declared.language.Language as language
use Rattle.lang_base.specs.declared.pass.Pass as pass
use Rattle.rtl_language.specs.contracts.language.RtlLanguage.TheImpl as rtl_language
use Rattle.ltl.specs.contracts.language.LtlLanguage.TheImpl as ltl_language
use Rattle.linear_language.specs.contracts.language.LinearLanguage.TheImpl as linear_language
use Rattle.constprop_check.specs.contracts.pass.ConstPropPass.TheImpl as constants
use Rattle.farm_nodes_open_stored.specs.CsePass.TheImpl as expressions
use Rattle.farm_nodes_open_stored.specs.AllocPass.TheImpl as allocation
use Rattle.farm_nodes_open_stored.specs.LinearizePass.TheImpl as order
use Rattle.paxos_core_world.specs.KeptPart.{KeptPart}
use Rattle.paxos_core_world.specs.Quorum.{Sizes}
use Rattle.acceptor_log_form.specs.declared.record.Record.{Record}
use Rattle.offers.specs.declared.parts.Parts.{Parts}
use Rattle.farm_nodes_open_lists.specs.SeatValue.{SeatValue}
use Rattle.rooms_hall.specs.Claimed.{Claimed}
use Rattle.rooms_hall.specs.declared.hall.Naming as naming
use Rattle.farm_nodes_open_rooms.specs.Offers.{ConstantsOffer, ExpressionsOffer, AllocationOffer, OrderOffer}
use Rattle.farm_nodes_open_rooms.specs.NumberedSeat.{NumberedSeat}
use Rattle.farm_nodes_open_rooms.specs.Which.{Which}
use Rattle.farm_nodes_open_rooms.specs.Which.TheVariants.{Constants, Expressions, Allocation, Order}
use Rattle.farm_nodes_open_lists.specs.Rows.{rows_of}
use Rattle.farm_nodes_open_rooms.specs.Kept.{AreSettled}
use Rattle.farm_nodes_open_rooms.specs.Opened.{AreOpenedIn}
use Rattle.farm_nodes_open_stored.specs.Nodes.{AreMade}
use Rattle.farm_nodes_open_stored.specs.Read.{IsKeptPart}
use Rattle.farm_nodes_open_stored.specs.Checked.{IsOffersPart}

module _ {J P A B C I O N : Type 0} (from : language.Ghosts A I) (to : language.Ghosts B O) (by : pass.Ghosts P A B C I O) (which : Which) where
  -- those in the rooms of a pass of all functions, from the kept parts and the offers among the records, each of which was checked again
  pub record AreSeatedIn (q : Sizes) (functions : ℕ) (journals : List (J × Vec Record)) (kept : List (Vec KeptPart))
      (show : N → SeatValue (Parts I O C) × Claimed) (rows : List (List N)) : Type 0 where
    pub offers : List (Vec (Option (Parts I O C)))
    pub are_offers : AreMade (IsOffersPart from to by which functions) journals (length journals) offers
    pub opened : AreOpenedIn q kept which functions (rows_of offers) show rows

module _ {H : Type 0} {h : naming.Ghosts H} where
  -- the seats of each pass, with the numbers of their rooms
  abbrev pub constants_seat : NumberedSeat H h → SeatValue ConstantsOffer × Claimed
  constants_seat s = (s.seat.first, s.claim)

  abbrev pub expressions_seat : NumberedSeat H h → SeatValue ExpressionsOffer × Claimed
  expressions_seat s = (s.seat.second, s.claim)

  abbrev pub allocation_seat : NumberedSeat H h → SeatValue AllocationOffer × Claimed
  allocation_seat s = (s.seat.third, s.claim)

  abbrev pub order_seat : NumberedSeat H h → SeatValue OrderOffer × Claimed
  order_seat s = (s.seat.fourth, s.claim)

  -- so it is of all passes
  pub record AreSeated {J : Type 0} (q : Sizes) (functions : ℕ) (journals : List (J × Vec Record)) (rows : List (List (NumberedSeat H h))) : Type 0 where
    pub count : length rows ≡ length journals
    pub long : All (λ row. length row ≡ functions) rows
    pub kept : List (Vec KeptPart)
    pub are_kept : AreMade (IsKeptPart functions (length journals)) journals (length journals) kept
    pub settled : (f : ℕ) → f < functions → AreSettled q kept f
    pub constants : AreSeatedIn rtl_language.ghosts rtl_language.ghosts constants.ghosts Constants q functions journals kept constants_seat rows
    pub expressions : AreSeatedIn rtl_language.ghosts rtl_language.ghosts expressions.ghosts Expressions q functions journals kept
        expressions_seat rows
    pub allocation : AreSeatedIn rtl_language.ghosts ltl_language.ghosts allocation.ghosts Allocation q functions journals kept allocation_seat rows
    pub order : AreSeatedIn ltl_language.ghosts linear_language.ghosts order.ghosts Order q functions journals kept
        order_seat rows

-- what each node has kept of the rooms of so many functions, as it stands in its journal
abbrev pub AreKeptIn : {J : Type 0} → ℕ → List (J × Vec Record) → List (Vec KeptPart) → Type 0
AreKeptIn functions journals kept = AreMade (IsKeptPart functions (length journals)) journals (length journals) kept
