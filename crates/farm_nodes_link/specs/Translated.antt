-- What the offers that stand learned in a node's seats link, where a program stands translated.
use Rattle.std.specs.Prelude.{◌≡◌, List}
use Rattle.lang_base.specs.declared.program.Program.{Program}
use Rattle.rtl_language.specs.Function as rtl
use Rattle.linear_language.specs.Function as linear
use Rattle.rooms_hall.specs.declared.hall.Naming as naming
use Rattle.farm_nodes_meet_seats.specs.NumberedSeat.{NumberedSeat}
use Rattle.farm_nodes_link.specs.Learned.{learned_by}
use Rattle.farm_nodes_link.specs.Offered.{linked_offers, AllGoOn}
use Rattle.farm_nodes_link.specs.Refused.{IsRefusedTo}
use Rattle.farm_nodes_link.specs.declared.errors.LinkedError.{LinkedError}

module _ {H : Type 0} {h : naming.Ghosts H} (program : Program rtl.FunctionData) (seats : List (NumberedSeat H h)) where
  -- they go on from its functions
  abbrev pub GoOnFromAll : Type 0
  GoOnFromAll = AllGoOn program.functions (learned_by seats)

  -- they link this program
  abbrev pub IsLinkedOf : Program linear.FunctionData → Type 0
  IsLinkedOf made = made ≡ linked_offers program (learned_by seats)

  -- they link none
  abbrev pub IsNotLinkedTo : LinkedError → Type 0
  IsNotLinkedTo e = IsRefusedTo program (learned_by seats) e
