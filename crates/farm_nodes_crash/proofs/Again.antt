-- What is learned in a room that opens over what a crash left is what was learned there before.
use Rattle.std.proofs.Common.{◌≡◌, ℕ, ◌+◌, ◌*◌, ◌<◌, ◌≤◌, List, length, Option, Some, refl, sym, ap, ◌∙◌, subst, arith}
use Rattle.std.specs.Prelude.{slice_get}
use Rattle.std.specs.Global.{Vec}
use Rattle.std.proofs.lemmas.List.{length-map}
use Rattle.durable_model.specs.declared.disk.Disk as disks
use Rattle.durable_pair.specs.declared.pair.Pair as pairs
use Rattle.durable_pair.specs.Images.{IsSpent}
use Rattle.paxos_core_world.specs.KeptPart.{KeptPart}
use Rattle.paxos_core_world.specs.Quorum.{AreQuorums, Sizes}
use Rattle.paxos_core_world.specs.World.{nodes_of}
use Rattle.acceptor_log_form.specs.Leaves.{kept_in}
use Rattle.acceptor_log_form.specs.declared.record.Record.{Record}
use Rattle.acceptor_log.specs.Acknowledged.{acknowledged}
use Rattle.acceptor_log.specs.declared.log.Log.{Log}
use Rattle.rooms_seat_state.specs.SeatState.{SeatState, opening_of}
use Rattle.rooms_seat_state.proofs.Opened.{same_nodes}
use Rattle.rooms_crash.specs.Held.{MayHold}
use Rattle.rooms_crash.proofs.Keeping.{stands_known}
use Rattle.rooms_crash.proofs.Resting.{learns_again}
use Rattle.farm_nodes_turn_passes.specs.Fours.{words_of}
use Rattle.farm_nodes_turn_passes.specs.Numbers.{function_of, pass_of, place_of, room_at}
use Rattle.farm_nodes_turn_passes.specs.declared.which.Which.{Which}
use Rattle.farm_nodes_turn_node.specs.declared.halted.Halted.{Halted}
use Rattle.farm_nodes_open_numbers.specs.Kept.{kept_of}
use Rattle.farm_nodes_restart_records.proofs.Rooms.{function_at, pass_at_room}
use Rattle.farm_nodes_open_nodes.proofs.Lists.{found_at}
use Rattle.farm_nodes_crash.specs.Again.{AreOpenedOn, IsLaterSeat, LearnedAgain}
use Rattle.farm_nodes_crash_left.specs.Left.{AreLeftOf, NodeSeats}
use Rattle.farm_nodes_crash.specs.Meeting.{FunctionSeats}
use Rattle.farm_nodes_crash.specs.Rooms.{RestIn, RoomsRest}
use Rattle.farm_nodes_crash.proofs.Nodes.{node_holds}
use Rattle.farm_nodes_crash.proofs.Reopening.{kept_at, place_below}

one_some : {A : Type 0} (x : Option A) (a b : A) → x ≡ Some a → x ≡ Some b → a ≡ b
one_some x a b e f = let same : Some a ≡ Some b = sym e ∙ f in cc

module _ {D : Type 0} (disk : disks.Ghosts D) (pair : pairs.Ghosts D) (q : Sizes) (sizes : AreQuorums q) (digest : List ℕ) (functions : ℕ)
    (honest_spent : (p : D) (d : List ℕ) → disk.is_honest p → pair.old_may p d → IsSpent d)
    (new_is_left : (p : D) (c : List ℕ) → disk.is_honest p → pair.new_may p c → disk.may_leave p c)
    (logs : ℕ → Log D) (seats : ℕ → NodeSeats) (halted : ℕ → Option Halted) (given : List D)
    (all : AreLeftOf disk pair q digest functions logs seats halted given) (rest : RoomsRest q functions seats)
    (again : List (Log D)) (kept : List (Vec KeptPart)) (opened : AreOpenedOn disk pair q digest functions given again kept) (f : ℕ) (pass : Which) (low : f < functions) where
  abbrev r : RestIn q (room_at f pass) seats
  r = rest f pass low

  pub few : length (kept_of kept (room_at f pass)) ≤ 7
  few =
      let most : q.nodes ≤ 7 = sizes.most in
      let count : length (kept_of kept (room_at f pass)) ≡ length kept = length-map kept (λ (node : Vec KeptPart). nodes_of node.items (room_at f pass)) in
      omega (arith, most, count, opened.are_kept.count, opened.journals.count, all.count)

  pub holds : (i : ℕ) → i < q.nodes → MayHold (r.words i) (nodes_of (kept_of kept (room_at f pass)) i)
  holds i lt =
      let p = found_at given i (omega (arith, lt, all.count)) in
      let log = found_at again i (omega (arith, lt, all.count, opened.journals.count)) in
      let k = found_at kept i (omega (arith, lt, all.count, opened.journals.count, opened.are_kept.count)) in
      let on = opened.journals.each i p.0 log.0 p.1 log.1 in
      let left = all.left i p.0 p.1 in
      let seat = r.are i lt in
      let held : MayHold (words_of seat.0 (pass_of (room_at f pass))) (kept_in on.0 (room_at f pass)) =
      node_holds disk pair q digest functions honest_spent new_is_left i (logs i) (seats i) (halted i) (all.nodes i lt) p.0 left log.0 on.0 on.1 (room_at f pass) seat.0 seat.1 in
      let told : acknowledged disk.seen log.0 ≡ on.0 = on.1.acknowledged_are left.whole in
      let below : 4 * f + place_of pass < 4 * functions = omega (arith, low, place_below pass) in
      subst (λ (x : KeptPart). MayHold (r.words i) x)
      (sym (kept_at functions (length again) i (acknowledged disk.seen log.0) kept k.0 (room_at f pass) k.1
      (opened.are_kept.each i log.0 k.0 log.1 k.1 (on.1.honest.1 left.whole)) below))
      (subst (λ (rs : List Record). MayHold (r.words i) (kept_in rs (room_at f pass))) (sym told)
      (subst (λ (x : SeatState). MayHold x (kept_in on.0 (room_at f pass))) seat.2 held))

  words_are : (i : ℕ) (s : FunctionSeats) → (lt : i < q.nodes) → slice_get (seats i) f ≡ Some s → words_of s pass ≡ r.words i
  words_are i s lt at =
      let seat = r.are i lt in
      let there : slice_get (seats i) (function_of (room_at f pass)) ≡ Some s = ap (λ (n : ℕ). slice_get (seats i) n) (function_at f pass) ∙ at in
      let same : s ≡ seat.0 = one_some (slice_get (seats i) (function_of (room_at f pass))) s seat.0 there seat.1 in
      ap (λ (x : FunctionSeats). words_of x pass) same ∙ (ap (λ (w : Which). words_of seat.0 w) (sym (pass_at_room f pass)) ∙ seat.2)

  learned : (i : ℕ) (s : FunctionSeats) (later : SeatState) → i < q.nodes → slice_get (seats i) f ≡ Some s → IsLaterSeat q (kept_of kept (room_at f pass)) later
      → (v u : ℕ) → (words_of s pass).node.learned ≡ Some v → later.node.learned ≡ Some u → v ≡ u
  learned i s later lt at is v u ev eu =
      learns_again q r.opening r.run r.words (opening_of q (kept_of kept (room_at f pass))) r.rest refl
      (λ k below. subst (λ (nodes : ℕ → KeptPart). MayHold (r.words k) (nodes k)) (sym (same_nodes q (kept_of kept (room_at f pass)) few)) (holds k below))
      i v u later lt (stands_known (r.words i) (r.rest.stands i lt)) (stands_known later is.of_run.stands) is.opening
      (ap (λ (x : SeatState). x.node.learned) (sym (words_are i s lt at)) ∙ ev) eu

pub learned_again : {D : Type 0} (disk : disks.Ghosts D) (pair : pairs.Ghosts D) (q : Sizes) → AreQuorums q
    → ((p : D) (d : List ℕ) → disk.is_honest p → pair.old_may p d → IsSpent d)
    → ((p : D) (c : List ℕ) → disk.is_honest p → pair.new_may p c → disk.may_leave p c) → LearnedAgain disk pair q
learned_again disk pair q sizes honest_spent new_is_left digest functions logs seats halted given all rest again kept opened f pass i s later low lt at is v u ev eu =
    learned disk pair q sizes digest functions honest_spent new_is_left logs seats halted given all rest again kept opened f pass low i s later lt at is v u ev eu
