-- Nodes that may be asked hold seats of their rooms, so where they heard of one another they rest in each.
use Rattle.std.proofs.Common.{◌≡◌, ℕ, ◌<◌, List, Option, Some, ap, ◌∙◌, subst}
use Rattle.std.specs.Prelude.{slice_get}
use Rattle.durable_model.specs.declared.disk.Disk as disks
use Rattle.durable_pair.specs.declared.pair.Pair as pairs
use Rattle.paxos_core_world.specs.Quorum.{Sizes}
use Rattle.acceptor_log_form.specs.declared.header.Header.{Header}
use Rattle.acceptor_log.specs.declared.log.Log.{Log}
use Rattle.rooms_crash.specs.Meetings.{IsSeatOf}
use Rattle.farm_nodes_turn_passes.specs.Fours.{words_of}
use Rattle.farm_nodes_turn_node.specs.Held.{sizes_in}
use Rattle.farm_nodes_turn_passes.specs.Numbers.{function_of, room_at}
use Rattle.farm_nodes_turn_passes.specs.declared.which.Which.{Which}
use Rattle.farm_nodes_turn_node.specs.declared.halted.Halted.{Halted}
use Rattle.farm_nodes_restart_records.proofs.Rooms.{function_at, pass_at_room}
use Rattle.farm_nodes_crash_left.specs.Left.{IsNode, NodeSeats}
use Rattle.farm_nodes_crash.specs.Meeting.{AreSeats, FunctionSeats}
use Rattle.farm_nodes_crash.specs.Stand.{MetNodesRest}
use Rattle.farm_nodes_crash.proofs.Meeting.{nodes_that_heard_rest}

module _ {D : Type 0} (disk : disks.Ghosts D) (pair : pairs.Ghosts D) (q : Sizes) (digest : List ℕ) (functions : ℕ) where
  -- a seat of a node
  pub node_seat : (i : ℕ) (log : Log D) (seats : NodeSeats) (halted : Option Halted) → IsNode disk pair q digest functions i log seats halted
      → (f : ℕ) (pass : Which) (s : FunctionSeats) → slice_get seats f ≡ Some s → IsSeatOf q i (words_of s pass)
  node_seat i log seats halted node f pass s at =
      let there : slice_get seats (function_of (room_at f pass)) ≡ Some s = ap (λ (n : ℕ). slice_get seats n) (function_at f pass) ∙ at in
      subst (λ (w : Which). IsSeatOf q i (words_of s w)) (pass_at_room f pass)
      (record {
        stands = (node.sound.of_runs (room_at f pass) s there).stands;
        me = node.sound.own.me (room_at f pass) s there ∙ ap (λ (h : Header). h.node) node.header;
        quorums = node.sound.own.quorums (room_at f pass) s there ∙ ap (λ (h : Header). sizes_in h) node.header;
      })

  pub are_seats : (logs : ℕ → Log D) (seats : ℕ → NodeSeats) (halted : ℕ → Option Halted)
      → ((i : ℕ) → i < q.nodes → IsNode disk pair q digest functions i (logs i) (seats i) (halted i)) → AreSeats q functions seats
  are_seats logs seats halted nodes = record {
    count = λ i lt. (nodes i lt).functions_are;
    each = λ i f pass s lt at. node_seat i (logs i) (seats i) (halted i) (nodes i lt) f pass s at;
  }

pub met_nodes_rest : {D : Type 0} (disk : disks.Ghosts D) (pair : pairs.Ghosts D) (q : Sizes) → MetNodesRest disk pair q
met_nodes_rest disk pair q digest functions logs seats halted nodes h twice =
    nodes_that_heard_rest q functions h seats (are_seats disk pair q digest functions logs seats halted nodes) twice
