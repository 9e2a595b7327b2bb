-- What a crash leaves of a node's own journal.
use Rattle.std.specs.Prelude.{ℕ, List, ◌++◌, Option}
use Rattle.acceptor_log_form.specs.declared.header.Header.{Header}
use Rattle.acceptor_log_form.specs.declared.record.Record.{Record}
use Rattle.acceptor_log_writing.specs.OneOf.{Either}
use Rattle.acceptor_log_form.specs.Text.{StandsFor}
use Rattle.farm_nodes_turn_step.specs.declared.stop.Pending.{Pending}
use Rattle.farm_nodes_turn_passes.specs.Fours.{Four}
use Rattle.farm_nodes_turn_passes.specs.Leaves.{pending_at, Leave}
use Rattle.farm_nodes_turn_passes.specs.Offers.{ConstantsOffer, ExpressionsOffer, AllocationOffer, OrderOffer}
use Rattle.farm_nodes_turn_passes.specs.Texts.{pass_texts}
use Rattle.farm_nodes_restart_records.specs.Found.{AreOther}

-- it is never of other records: where a list stands for what the seats keep, bytes of it or of the one with what is pending are not
abbrev pub OwnAreNoOthers : Type 0
OwnAreNoOthers =
    (seats : List (Four ConstantsOffer ExpressionsOffer AllocationOffer OrderOffer))
    (room : ℕ) (p : Option Pending) (h : Header) (upto rs : List Record) (bytes : List ℕ) → Leave pass_texts seats upto
    → Either h upto (upto ++ pending_at seats room p) bytes → StandsFor h rs bytes → AreOther pass_texts seats room p rs → ⊥
