-- What a node holds, and that its journal stands for what its seats keep.
use Rattle.std.specs.Prelude.{◌≡◌, ℕ, ◌*◌, true, List, [], ◌++◌, length, Option, Some, None, option_map, slice_get}
use Rattle.paxos_core_world.specs.Quorum.{sizes, Sizes}
use Rattle.durable_model.specs.declared.disk.Disk as disks
use Rattle.acceptor_log_form.specs.declared.header.Header.{Header}
use Rattle.acceptor_log_form.specs.declared.record.Record.{Record}
use Rattle.acceptor_log_form.specs.Leaves.{proposed_in}
use Rattle.acceptor_log_form.specs.Order.{AreInOrder}
use Rattle.acceptor_log_writing.specs.OneOf.{Either}
use Rattle.acceptor_log.specs.declared.log.Log.{Log}
use Rattle.acceptor_log.specs.Acknowledged.{acknowledged}
use Rattle.acceptor_log.specs.Acknowledged as journal
use Rattle.farm_nodes_turn_function.specs.OfRun.{IsOfRun}
use Rattle.farm_nodes_turn_function.specs.JournalAdvances.{AreOf}
use Rattle.farm_nodes_turn_function.specs.Fault.{Fault}
use Rattle.farm_nodes_turn_node.specs.declared.halted.Halted.{Halted}
use Rattle.farm_nodes_turn_function.specs.Ordered.{IsUnproposed}
use Rattle.farm_nodes_turn_function.specs.Fours.{Four, words_of}
use Rattle.farm_nodes_turn_function.specs.Offers.{ConstantsOffer, ExpressionsOffer, AllocationOffer, OrderOffer}
use Rattle.farm_nodes_turn_function.specs.Texts.{Texts, pass_texts}
use Rattle.farm_nodes_turn_function.specs.Numbers.{function_of, pass_of}
use Rattle.farm_nodes_turn_function.specs.Leaves.{Leave, pending_at}

-- the fault that stopped the node
abbrev pub fault_in : Option Halted → Option Fault
fault_in halted = option_map (λ h. h.halt.fault) halted

-- the sizes of its quorums
abbrev pub sizes_in : Header → Sizes
sizes_in h = sizes h.nodes h.promise h.accept

module _ {T1 T2 T3 T4 : Type 0} where
  -- the record that may have been put down of what a halted node has not done
  abbrev pub pending_in : List (Four T1 T2 T3 T4) → Option Halted → List Record
  pending_in seats None = []
  pending_in seats (Some h) = pending_at seats h.room h.halt.pending

  -- each seat is that of the header's node, in a room with quorums of its sizes
  pub record AreSeatsOf (h : Header) (seats : List (Four T1 T2 T3 T4)) : Type 0 where
    pub me : (m : ℕ) (s : Four T1 T2 T3 T4) → slice_get seats (function_of m) ≡ Some s → (words_of s (pass_of m)).node.me ≡ h.node
    pub quorums : (m : ℕ) (s : Four T1 T2 T3 T4) → slice_get seats (function_of m) ≡ Some s → (words_of s (pass_of m)).node.quorums ≡ sizes_in h

  -- each is of the run that it has seen
  abbrev pub AreOfRuns : List (Four T1 T2 T3 T4) → Type 0
  AreOfRuns seats = (m : ℕ) (s : Four T1 T2 T3 T4) → slice_get seats (function_of m) ≡ Some s → IsOfRun (words_of s (pass_of m))

  -- what a seat may still propose does not stand in its room as proposed last
  abbrev pub AreUnproposed : List (Four T1 T2 T3 T4) → List Record → Type 0
  AreUnproposed seats rs = (m : ℕ) (s : Four T1 T2 T3 T4) → slice_get seats (function_of m) ≡ Some s → IsUnproposed (proposed_in rs m) (words_of s (pass_of m))

  -- The journal stands for what the node keeps and has offered, with the pending record or without, and names no room but the seats'. Its records
  -- are in order, the pending one behind them too, and no seat proposes anything again.
  pub record IsJournalOf {D : Type 0} (texts : Texts T1 T2 T3 T4) (disk : disks.Ghosts D) (log : Log D) (seats : List (Four T1 T2 T3 T4))
      (halted : Option Halted) (upto : List Record) : Type 0 where
    pub leave : Leave texts seats upto
    pub named : AreOf (4 * length seats) upto
    pub in_order : AreInOrder log.header.nodes log.header.node (4 * length seats) (upto ++ pending_in seats halted)
    pub unproposed : AreUnproposed seats upto
    pub left : (c : List ℕ) → disk.may_leave log.disk c → Either log.header upto (upto ++ pending_in seats halted) c

  -- A node that may be asked: its journal may be used and stands for what it keeps, its seats are its own, each of its run; where it is not stopped, the
  -- journal goes on, and has acknowledged just that.
  pub record IsSoundBy {D : Type 0} (texts : Texts T1 T2 T3 T4) (disk : disks.Ghosts D)
      (log : Log D) (seats : List (Four T1 T2 T3 T4)) (halted : Option Halted) : Type 0 where
    pub journal : journal.IsSound disk log
    pub going : halted ≡ None → log.going ≡ true
    pub own : AreSeatsOf log.header seats
    pub of_runs : AreOfRuns seats
    pub upto : disk.is_honest log.disk → (upto : List Record)
        × IsJournalOf texts disk log seats halted upto × (halted ≡ None → upto ≡ acknowledged disk.seen log)

-- the same with the texts of the passes' offers as they are
abbrev pub IsSoundNode : {D : Type 0} → disks.Ghosts D → Log D
    → List (Four ConstantsOffer ExpressionsOffer AllocationOffer OrderOffer) → Option Halted → Type 0
IsSoundNode disk log seats halted = IsSoundBy pass_texts disk log seats halted
