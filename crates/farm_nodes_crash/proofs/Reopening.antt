-- The journals that open over what a crash of all nodes left hold what runs of their rooms leave, so no room is unsettled.
use Rattle.std.proofs.Common.{◌≡◌, ℕ, ◌<◌, ◌+◌, ◌*◌, List, length, Option, Some, refl, sym, subst, ◌∙◌, arith}
use Rattle.std.specs.Prelude.{slice_get}
use Rattle.std.specs.Global.{Vec}
use Rattle.std.proofs.lemmas.Option.{get_or_from_slice_get}
use Rattle.durable_model.specs.declared.disk.Disk as disks
use Rattle.durable_pair.specs.declared.pair.Pair as pairs
use Rattle.durable_pair.specs.Images.{IsSpent}
use Rattle.paxos_core_world.specs.KeptPart.{KeptPart, nothing_kept}
use Rattle.paxos_core_world.specs.Quorum.{Sizes}
use Rattle.paxos_core_world.specs.Run.{reached}
use Rattle.paxos_core_world.specs.World.{World, nodes_of}
use Rattle.paxos_core_crash.specs.Crash.{IsLeftByCrash}
use Rattle.paxos_core_crash.proofs.CrashLemmas.{crashes_are_runs, reached_later}
use Rattle.acceptor_log_form.specs.declared.record.Record.{Record}
use Rattle.acceptor_log_form.specs.Leaves.{kept_in}
use Rattle.acceptor_log.specs.declared.log.Log.{Log}
use Rattle.rooms_seat_state.specs.SeatState.{SeatState}
use Rattle.rooms_words.specs.Views.{world_after}
use Rattle.rooms_crash.specs.Held.{MayHold}
use Rattle.rooms_crash.proofs.Resting.{rest_leaves}
use Rattle.farm_nodes_turn_passes.specs.Numbers.{place_of, room_at}
use Rattle.farm_nodes_turn_passes.specs.declared.which.Which.{Which}
use Rattle.farm_nodes_turn_passes.specs.declared.which.Which.TheVariants.{Constants, Expressions, Allocation, Order}
use Rattle.farm_nodes_turn_node.specs.declared.halted.Halted.{Halted}
use Rattle.farm_nodes_open_journals.specs.Journals.{AreOpened}
use Rattle.farm_nodes_open_numbers.specs.Kept.{kept_of}
use Rattle.farm_nodes_open_numbers.specs.Left.{AreLeft, AreLeftIn}
use Rattle.farm_nodes_open_stored.specs.Nodes.{AreMade}
use Rattle.farm_nodes_open_stored.specs.Read.{AreKept, IsKeptPart}
use Rattle.farm_nodes_open_nodes.proofs.Lists.{at_map, found_at}
use Rattle.farm_nodes_crash_left.specs.Left.{AreLeftOf, NodeSeats}
use Rattle.farm_nodes_crash.specs.Rooms.{RestIn, RoomsRest}
use Rattle.farm_nodes_crash.specs.Stand.{LeftRoomsStand, RoomsStand}
use Rattle.farm_nodes_crash.proofs.Nodes.{node_holds}

pub place_below : (pass : Which) → place_of pass < 4
place_below Constants = omega arith
place_below Expressions = omega arith
place_below Allocation = omega arith
place_below Order = omega arith

-- what crash of a room's nodes leaves is what a run of it leaves
crash_left : (q : Sizes) (w : World) (parts : List KeptPart) → IsLeftByCrash q w (nodes_of parts) → AreLeft q parts
crash_left q w parts crash =
    let run = crashes_are_runs q w (nodes_of parts) crash in
    record {
      world = reached w run.0;
      reached = reached_later q w run.0 crash.reached run.1.run;
      same = run.1.kept;
    }

-- what node i has kept of a room, as it was read of its records
pub kept_at : (functions count i : ℕ) (rs : List Record) (kept : List (Vec KeptPart)) (k : Vec KeptPart) (m : ℕ) → slice_get kept i ≡ Some k → AreKept functions count i rs k.items
    → m < 4 * functions → nodes_of (kept_of kept m) i ≡ kept_in rs m
kept_at functions count i rs kept k m at are low =
    get_or_from_slice_get (kept_of kept m) i (nodes_of k.items m) nothing_kept (at_map (λ (node : Vec KeptPart). nodes_of node.items m) kept i k at)
    ∙ get_or_from_slice_get k.items m (kept_in rs m) nothing_kept (are.each m low)

module _ {D : Type 0} (disk : disks.Ghosts D) (pair : pairs.Ghosts D) (q : Sizes) (digest : List ℕ) (functions : ℕ)
    (honest_spent : (p : D) (d : List ℕ) → disk.is_honest p → pair.old_may p d → IsSpent d)
    (new_is_left : (p : D) (c : List ℕ) → disk.is_honest p → pair.new_may p c → disk.may_leave p c)
    (logs : ℕ → Log D) (seats : ℕ → NodeSeats) (halted : ℕ → Option Halted) (given : List D)
    (all : AreLeftOf disk pair q digest functions logs seats halted given) (rest : RoomsRest q functions seats) where
  module _ (journals : List (Log D × Vec Record)) (opened : AreOpened disk pair q digest given (length given) journals)
      (kept : List (Vec KeptPart)) (are_kept : AreMade (IsKeptPart functions (length journals)) journals (length journals) kept) where
    holds : (f : ℕ) (pass : Which) → f < functions → (r : RestIn q (room_at f pass) seats) → (i : ℕ) → i < q.nodes
        → MayHold (r.words i) (nodes_of (kept_of kept (room_at f pass)) i)
    holds f pass low r i lt =
        let j = found_at journals i (omega (arith, lt, all.count, opened.size)) in
        let p = found_at given i (omega (arith, lt, all.count)) in
        let k = found_at kept i (omega (arith, lt, all.count, opened.size, are_kept.count)) in
        let seat = r.are i lt in
        let held = node_holds disk pair q digest functions honest_spent new_is_left i (logs i) (seats i) (halted i) (all.nodes i lt) p.0 (all.left i p.0 p.1)
        j.0.0 j.0.1.items (opened.each i j.0 p.0 j.1 p.1) (room_at f pass) seat.0 seat.1 in
        let below : 4 * f + place_of pass < 4 * functions = omega (arith, low, place_below pass) in
        subst (λ (x : KeptPart). MayHold (r.words i) x)
        (sym (kept_at functions (length journals) i j.0.1.items kept k.0 (room_at f pass) k.1 (are_kept.each i j.0 k.0 j.1 k.1) below))
        (subst (λ (x : SeatState). MayHold x (kept_in j.0.1.items (room_at f pass))) seat.2 held)

    pub left_in : AreLeftIn q kept functions
    left_in f pass low =
        let r = rest f pass low in
        crash_left q (world_after r.opening r.run) (kept_of kept (room_at f pass))
        (rest_leaves q r.opening r.run r.words (nodes_of (kept_of kept (room_at f pass))) r.rest (holds f pass low r))

  pub never_unsettled : RoomsStand disk pair q digest functions given
  never_unsettled room (journals, opened, un) = un.left (left_in journals opened un.kept un.are_kept) refl

pub left_rooms_stand : {D : Type 0} (disk : disks.Ghosts D) (pair : pairs.Ghosts D) (q : Sizes)
    → ((p : D) (d : List ℕ) → disk.is_honest p → pair.old_may p d → IsSpent d)
    → ((p : D) (c : List ℕ) → disk.is_honest p → pair.new_may p c → disk.may_leave p c) → LeftRoomsStand disk pair q
left_rooms_stand disk pair q honest_spent new_is_left digest functions logs seats halted given all rest =
    never_unsettled disk pair q digest functions honest_spent new_is_left logs seats halted given all rest
