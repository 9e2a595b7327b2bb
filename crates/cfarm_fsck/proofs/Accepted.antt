-- The passes accept all offers in the journals of a farm whose rooms opened.
use Rattle.std.proofs.Common.{ℕ, List, length}
use Rattle.std.specs.Global.{Vec}
use Rattle.paxos_core_world.specs.Quorum.{Sizes}
use Rattle.acceptor_log_form.specs.declared.record.Record.{Record}
use Rattle.rooms_hall.specs.declared.hall.Naming as naming
use Rattle.farm_nodes_open_seats.specs.Checked.{WereAccepted}
use Rattle.farm_nodes_open_seats.specs.NumberedSeat.{NumberedSeat}
use Rattle.farm_nodes_open_seats.specs.Seated.{AreSeated}
use Rattle.farm_nodes_open_seats.proofs.Nodes.{all_made}

pub all_accepted : {J H : Type 0} {h : naming.Ghosts H} (q : Sizes) (functions : ℕ) (journals : List (J × Vec Record)) (rows : List (List (NumberedSeat H h)))
    → AreSeated q functions journals rows → WereAccepted journals (length journals)
all_accepted q functions journals rows are i j low at =
    let n = length journals in
    let a = all_made _ journals are.constants.offers n are.constants.are_offers i j low at in
    let b = all_made _ journals are.expressions.offers n are.expressions.are_offers i j low at in
    let c = all_made _ journals are.allocation.offers n are.allocation.are_offers i j low at in
    let d = all_made _ journals are.order.offers n are.order.are_offers i j low at in
    record {
      stored = record { constants = a.1.stored; expressions = b.1.stored; allocation = c.1.stored; order = d.1.stored };
      written = record { constants = a.1.written; expressions = b.1.written; allocation = c.1.written; order = d.1.written };
      accepted = record { constants = a.1.accepted; expressions = b.1.accepted; allocation = c.1.accepted; order = d.1.accepted };
    }
