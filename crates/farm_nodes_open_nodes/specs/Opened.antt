-- The rooms of all passes, as they open from the journals of a farm's nodes.
use Rattle.std.specs.Prelude.{ℕ, ◌<◌, List, length, Option}
use Rattle.std.specs.Global.{Vec}
use Rattle.lang_base.specs.declared.language.Language as language
use Rattle.lang_base.specs.declared.pass.Pass as pass
use Rattle.rtl_language.specs.contracts.language.RtlLanguage.TheImpl as rtl_language
use Rattle.ltl.specs.contracts.language.LtlLanguage.TheImpl as ltl_language
use Rattle.linear_language.specs.contracts.language.LinearLanguage.TheImpl as linear_language
use Rattle.constprop_check.specs.contracts.pass.ConstPropPass.TheImpl as constants
use Rattle.durable_model.specs.declared.disk.Disk as disks
use Rattle.farm_nodes_open_seats.specs.CsePass.TheImpl as expressions
use Rattle.farm_nodes_open_seats.specs.AllocPass.TheImpl as allocation
use Rattle.farm_nodes_open_seats.specs.LinearizePass.TheImpl as order
use Rattle.paxos_core_world.specs.KeptPart.{KeptPart}
use Rattle.paxos_core_world.specs.Quorum.{Sizes}
use Rattle.acceptor_log.specs.Acknowledged.{acknowledged}
use Rattle.acceptor_log.specs.declared.log.Log.{Log}
use Rattle.offers.specs.declared.parts.Parts.{Parts}
use Rattle.farm_nodes_open_lists.specs.SeatValue.{SeatValue}
use Rattle.rooms_hall.specs.Claimed.{Claimed}
use Rattle.rooms_hall.specs.declared.hall.Naming as naming
use Rattle.farm_nodes_open_seats.specs.NumberedSeat.{NumberedSeat}
use Rattle.farm_nodes_open_seats.specs.Which.{Which}
use Rattle.farm_nodes_open_seats.specs.Which.TheVariants.{Constants, Expressions, Allocation, Order}
use Rattle.farm_nodes_open_lists.specs.Rows.{rows_of}
use Rattle.farm_nodes_open_seats.specs.Kept.{AreSettled}
use Rattle.farm_nodes_open_seats.specs.Opened.{AreOpenedIn}
use Rattle.farm_nodes_open_seats.specs.Nodes.{AreMade}
use Rattle.farm_nodes_open_seats.specs.Read.{AreKept}
use Rattle.farm_nodes_open_seats.specs.Checked.{AreOffers}
use Rattle.farm_nodes_open_seats.specs.Seated.{constants_seat, expressions_seat, allocation_seat, order_seat}

module _ {D : Type 0} (disk : disks.Ghosts D) (q : Sizes) (functions : ℕ) (logs : List (Log D)) where
  module _ {P A B C I O N : Type 0} (from : language.Ghosts A I) (to : language.Ghosts B O) (by : pass.Ghosts P A B C I O) (which : Which) where
    -- The rooms of a pass of all functions are opened from what the nodes have kept of each, and from the offers among the records that
    -- the journals have acknowledged, each of which was checked again.
    pub record AreOpenIn (kept : List (Vec KeptPart)) (show : N → SeatValue (Parts I O C) × Claimed) (rows : List (List N)) : Type 0 where
      pub offers : List (Vec (Option (Parts I O C)))
      pub are_offers : AreMade (λ i log o. disk.is_honest log.disk → AreOffers from to by which functions (acknowledged disk.seen log) o.items)
          logs (length logs) offers
      pub opened : AreOpenedIn q kept which functions (rows_of offers) show rows

  -- What the nodes have kept is what the records leave that their journals have acknowledged. It is settled in each room, with quorums of
  -- these sizes, and so the rooms of all passes are opened.
  pub record AreOpenFromJournals {H : Type 0} {h : naming.Ghosts H} (rows : List (List (NumberedSeat H h))) : Type 0 where
    pub kept : List (Vec KeptPart)
    pub are_kept : AreMade (λ i log k. disk.is_honest log.disk → AreKept functions (length logs) i (acknowledged disk.seen log) k.items)
        logs (length logs) kept
    pub settled : (f : ℕ) → f < functions → AreSettled q kept f
    pub constants : AreOpenIn rtl_language.ghosts rtl_language.ghosts constants.ghosts Constants kept constants_seat rows
    pub expressions : AreOpenIn rtl_language.ghosts rtl_language.ghosts expressions.ghosts Expressions kept expressions_seat rows
    pub allocation : AreOpenIn rtl_language.ghosts ltl_language.ghosts allocation.ghosts Allocation kept allocation_seat rows
    pub order : AreOpenIn ltl_language.ghosts linear_language.ghosts order.ghosts Order kept order_seat rows
