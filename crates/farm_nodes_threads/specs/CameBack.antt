-- What turns leave of a node.
use Rattle.std.specs.Prelude.{◌≡◌, ◌≢◌, ◌↔◌, ℕ, List, length, Option, Some, None, slice_get}
use Rattle.durable_model.specs.declared.disk.Disk as disks
use Rattle.acceptor_log.specs.declared.log.Log.{Log}
use Rattle.farm_nodes_turn_node.specs.Played.{StaysInTurn}
use Rattle.farm_nodes_turn_node.specs.Fours.{Four}
use Rattle.farm_nodes_turn_node.specs.declared.halted.Halted.{Halted}
use Rattle.farm_nodes_turn_node.specs.Stood.{TurnsBy}
use Rattle.farm_nodes_turn_node.specs.Offers.{ConstantsOffer, ExpressionsOffer, AllocationOffer, OrderOffer}
use Rattle.farm_nodes_turn_node.specs.Texts.{Texts, pass_texts}

-- The seats are those of the same rooms, which keep their numbers; each has what it had learned and seen.
pub record Keep {T1 T2 T3 T4 : Type 0} (s t : Four T1 T2 T3 T4) : Type 0 where
  pub constants : StaysInTurn s.constants t.constants
  pub expressions : StaysInTurn s.expressions t.expressions
  pub allocation : StaysInTurn s.allocation t.allocation
  pub order : StaysInTurn s.order t.order
  pub number : t.number ≡ s.number

-- A node goes on with as many functions, each in its rooms. Its journal is that of its source, and as honest; where the node was not
-- stopped, that goes on from what it had acknowledged, and stands for what the node keeps and has offered. A stopped node is as it was.
pub record CameBackBy {D T1 T2 T3 T4 : Type 0} (texts : Texts T1 T2 T3 T4) (disk : disks.Ghosts D) (old new : Log D) (seats after : List (Four T1 T2 T3 T4))
    (halted now : Option Halted) : Type 0 where
  pub functions : length after ≡ length seats
  pub rooms : (f : ℕ) (s t : Four T1 T2 T3 T4) → slice_get seats f ≡ Some s → slice_get after f ≡ Some t → Keep s t
  pub header : new.header ≡ old.header
  pub honest : disk.is_honest new.disk ↔ disk.is_honest old.disk
  pub journal : disk.is_honest old.disk → halted ≡ None → TurnsBy texts disk old new after now
  pub stopped : halted ≢ None → (new ≡ old) × (after ≡ seats) × (now ≡ halted)

-- the same with the texts of the passes' offers as they are
abbrev pub CameBack : {D : Type 0} → disks.Ghosts D
    → Log D → Log D → List (Four ConstantsOffer ExpressionsOffer AllocationOffer OrderOffer) → List (Four ConstantsOffer ExpressionsOffer AllocationOffer OrderOffer)
    → Option Halted → Option Halted → Type 0
CameBack disk old new seats after halted now =
    CameBackBy pass_texts disk old new seats after halted now
