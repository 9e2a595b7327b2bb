-- What the node has learned that heard of all is learned again in the farm that opens over what a crash left.
use Rattle.std.proofs.Common.{◌≡◌, ◌≢◌, ◌⊎◌, ℕ, ◌<◌, List, [], ◌∷◌, Option, Some, refl, sym, ap, ◌∙◌, subst, inl, inr, arith}
use Rattle.std.specs.Prelude.{slice_get}
use Rattle.std.specs.Global.{Vec}
use Rattle.std.proofs.lemmas.Bool.{cases_eq}
use Rattle.std.proofs.lemmas.Option.{slice_get_within}
use Rattle.durable_model.specs.declared.disk.Disk as disks
use Rattle.durable_pair.specs.declared.pair.Pair as pairs
use Rattle.durable_pair.specs.Images.{IsSpent}
use Rattle.paxos_core_world.specs.KeptPart.{KeptPart}
use Rattle.paxos_core_world.specs.Quorum.{AreQuorums, Sizes}
use Rattle.paxos_core_world.specs.Run.{IsRun, reached}
use Rattle.paxos_core_world.specs.World.{Has, World, nodes_of, opening as world_opening}
use Rattle.paxos_core_crash.proofs.CrashLemmas.{crashes_learn_as_before}
use Rattle.acceptor_log.specs.declared.log.Log.{Log}
use Rattle.rooms_words.specs.Events.{labels_of}
use Rattle.rooms_words.specs.declared.view.Opening.{Opening}
use Rattle.rooms_words.specs.Views.{IsLegal, world_after}
use Rattle.rooms_seat_state.specs.SeatState.{SeatState, opening_of, seen_world}
use Rattle.rooms_seat_state.proofs.Opened.{same_nodes}
use Rattle.rooms_crash.specs.Held.{MayHold}
use Rattle.rooms_crash.specs.OfRun.{GoesOn, IsOfRun}
use Rattle.rooms_crash.proofs.Keeping.{goes_meeting, goes_same, goes_through, stands_known}
use Rattle.rooms_crash.proofs.Resting.{rest_leaves}
use Rattle.farm_nodes_turn_passes.specs.Fours.{words_of}
use Rattle.farm_nodes_turn_passes.specs.Numbers.{room_at}
use Rattle.farm_nodes_turn_passes.specs.declared.which.Which.{Which}
use Rattle.farm_nodes_turn_node.specs.declared.halted.Halted.{Halted}
use Rattle.farm_nodes_restart_records.proofs.Rooms.{function_at, pass_at_room}
use Rattle.farm_nodes_open_numbers.specs.Kept.{kept_of}
use Rattle.farm_nodes_open_nodes.proofs.Lists.{found_at}
use Rattle.farm_nodes_crash.specs.Again.{AreOpenedOn, HeardIsLearnedAgain, IsLaterSeat}
use Rattle.farm_nodes_crash_left.specs.Left.{AreLeftOf, NodeSeats}
use Rattle.farm_nodes_crash.specs.Meeting.{AreSeats, FunctionSeats, HearAll, NodesMeet, NodesMeetings}
use Rattle.farm_nodes_crash.specs.Rooms.{RestIn, RoomsRest}
use Rattle.farm_nodes_crash.proofs.Again.{few, holds}
use Rattle.farm_nodes_crash.proofs.AtRest.{are_seats}
use Rattle.farm_nodes_crash.proofs.Meeting.{Counted, counted, rest, rest_opening, rest_run}

one_seat : (seats : NodeSeats) (f : ℕ) (s t : FunctionSeats) → slice_get seats f ≡ Some s → slice_get seats f ≡ Some t → s ≡ t
one_seat seats f s t e d = let same : Some s ≡ Some t = sym e ∙ d in cc

-- ---- a seat goes on in its run as nodes meet

module _ (q : Sizes) (functions : ℕ) (f : ℕ) (pass : Which) where
  abbrev GoOn : NodeSeats → NodeSeats → Type 0
  GoOn old new = (s t : FunctionSeats) → slice_get old f ≡ Some s → slice_get new f ≡ Some t → GoesOn (words_of s pass) (words_of t pass)

  go_nowhere : (old new : NodeSeats) → new ≡ old → GoOn old new
  go_nowhere old new same s t es et =
      subst (λ (x : FunctionSeats). GoesOn (words_of s pass) (words_of x pass)) (one_seat old f s t es (ap (λ (l : NodeSeats). slice_get l f) (sym same) ∙ et))
      (goes_same (words_of s pass))

  go_once : (i j : ℕ) (old new : ℕ → NodeSeats) → NodesMeet q functions i j old new → Counted q functions old → (k : ℕ) → GoOn (old k) (new k)
  go_once i j old new h count k s t es et = at (cases_eq k i) (cases_eq k j)
    where
      at : (k ≡ i) ⊎ (k ≢ i) → (k ≡ j) ⊎ (k ≢ j) → GoesOn (words_of s pass) (words_of t pass)
      at (inl e) other =
          let here = ap (λ (n : ℕ). slice_get (old n) f) (sym e) ∙ es in
          let now = ap (λ (n : ℕ). slice_get (new n) f) (sym e) ∙ et in
          let low = slice_get_within (old i) f s here in
          let b = found_at (old j) f (omega (arith, low, count i h.first, count j h.second)) in
          let b' = found_at (new j) f (omega (arith, low, count i h.first, h.second_count)) in
          (goes_meeting (words_of s pass) (words_of b.0 pass) (words_of t pass) (words_of b'.0 pass) (h.met f pass s b.0 t b'.0 here b.1 now b'.1)).0
      at (inr d) (inl e) =
          let here = ap (λ (n : ℕ). slice_get (old n) f) (sym e) ∙ es in
          let now = ap (λ (n : ℕ). slice_get (new n) f) (sym e) ∙ et in
          let low = slice_get_within (old j) f s here in
          let a = found_at (old i) f (omega (arith, low, count i h.first, count j h.second)) in
          let a' = found_at (new i) f (omega (arith, low, count j h.second, h.first_count)) in
          (goes_meeting (words_of a.0 pass) (words_of s pass) (words_of a'.0 pass) (words_of t pass) (h.met f pass a.0 s a'.0 t a.1 here a'.1 now)).1
      at (inr d) (inr c) = go_nowhere (old k) (new k) (h.others k d c) s t es et

  go_on : (ps : List (ℕ × ℕ)) (old new : ℕ → NodeSeats) → NodesMeetings q functions ps old new → Counted q functions old → (k : ℕ) → k < q.nodes → GoOn (old k) (new k)
  go_on [] old new h count k lt s t es et = go_nowhere (old k) (new k) (h k) s t es et
  go_on (p ∷ ps) old new h count k lt s t es et =
      let between = counted q functions ps old h.0 h.1 count in
      let low = slice_get_within (old k) f s es in
      let u = found_at (h.0 k) f (omega (arith, low, count k lt, between k lt)) in
      goes_through (words_of s pass) (words_of u.0 pass) (words_of t pass) (go_on ps old h.0 h.1 count k lt s u.0 es u.1)
      (go_once p.0 p.1 h.0 new h.2 between k u.0 t u.1 et)

-- ---- the run of the room that opened again

module _ (q : Sizes) (again : Opening) (t : SeatState) (same : again.quorums ≡ q) (is : t.view.opening ≡ again) where
  later_run : IsLegal t.view.opening t.view.seen → IsRun q (world_opening q.nodes (nodes_of again.kept)) (labels_of t.view.seen)
  later_run legal =
      subst (λ (p : Sizes). IsRun p (world_opening p.nodes (nodes_of again.kept)) (labels_of t.view.seen)) same
      (subst (λ (x : Opening). IsLegal x t.view.seen) is legal).run

  later_learned : (p : ℕ × ℕ) → Has p (seen_world t).learned → Has p (reached (world_opening q.nodes (nodes_of again.kept)) (labels_of t.view.seen)).learned
  later_learned p has =
      subst (λ (x : Sizes). Has p (reached (world_opening x.nodes (nodes_of again.kept)) (labels_of t.view.seen)).learned) same
      (subst (λ (x : Opening). Has p (world_after x t.view.seen).learned) is has)

module _ {D : Type 0} (disk : disks.Ghosts D) (pair : pairs.Ghosts D) (q : Sizes) (sizes : AreQuorums q) (digest : List ℕ) (functions : ℕ)
    (honest_spent : (p : D) (d : List ℕ) → disk.is_honest p → pair.old_may p d → IsSpent d)
    (new_is_left : (p : D) (c : List ℕ) → disk.is_honest p → pair.new_may p c → disk.may_leave p c)
    (logs : ℕ → Log D) (seats : ℕ → NodeSeats) (halted : ℕ → Option Halted) (given : List D)
    (all : AreLeftOf disk pair q digest functions logs seats halted given) (h : ℕ) (heard : HearAll q functions h seats)
    (again : List (Log D)) (kept : List (Vec KeptPart)) (opened : AreOpenedOn disk pair q digest functions given again kept)
    (f : ℕ) (pass : Which) (s : FunctionSeats) (later : SeatState) (low : f < functions) (at : slice_get (heard.between h) f ≡ Some s)
    (is : IsLaterSeat q (kept_of kept (room_at f pass)) later) where
  abbrev are : AreSeats q functions seats
  are = are_seats disk pair q digest functions logs seats halted all.nodes

  abbrev rests : RoomsRest q functions seats
  rests = rest q functions h seats are heard

  abbrev r : RestIn q (room_at f pass) seats
  r = rests f pass low

  first : (t : FunctionSeats) × (slice_get (seats h) f ≡ Some t)
  first = found_at (seats h) f (omega (arith, low, are.count h heard.one))

  goes : GoesOn (words_of first.0 pass) (words_of s pass)
  goes = go_on q functions f pass heard.first seats heard.between heard.met are.count h heard.one first.0 s first.1 at

  opening_is : (words_of s pass).view.opening ≡ r.opening
  opening_is = goes.opening ∙ sym (rest_opening q functions h seats are heard f pass low first.0 first.1)

  known_there : (v : ℕ) → (words_of s pass).node.learned ≡ Some v → Has ((words_of s pass).node.me, v) (world_after r.opening r.run).learned
  known_there v e =
      let own = (all.nodes h heard.one).sound.of_runs (room_at f pass) first.0 (ap (λ (n : ℕ). slice_get (seats h) n) (function_at f pass) ∙ first.1) in
      let stands = (goes.of_run (subst (λ (w : Which). IsOfRun (words_of first.0 w)) (pass_at_room f pass) own)).stands in
      subst (λ (x : World). Has ((words_of s pass).node.me, v) x.learned)
      (λ i. world_after (opening_is i) (sym (rest_run q functions h seats are heard f pass low s at) i))
      ((stands_known (words_of s pass) stands).learned v e)

  learned : (v u : ℕ) → (words_of s pass).node.learned ≡ Some v → later.node.learned ≡ Some u → v ≡ u
  learned v u ev eu =
      let parts = kept_of kept (room_at f pass) in
      let o = opening_of q parts in
      let nodes = same_nodes q parts (few disk pair q sizes digest functions honest_spent new_is_left logs seats halted given all rests again kept opened f pass low) in
      let known = stands_known later is.of_run.stands in
      crashes_learn_as_before q (world_after r.opening r.run) (nodes_of o.kept) (labels_of later.view.seen)
      (rest_leaves q r.opening r.run r.words (nodes_of o.kept) r.rest
      (λ k below. subst (λ (n : ℕ → KeptPart). MayHold (r.words k) (n k)) (sym nodes)
      (holds disk pair q sizes digest functions honest_spent new_is_left logs seats halted given all rests again kept opened f pass low k below)))
      (later_run q o later refl is.opening known.legal)
      (words_of s pass).node.me later.node.me v u (known_there v ev) (later_learned q o later refl is.opening (later.node.me, u) (known.learned u eu))

pub heard_is_learned_again : {D : Type 0} (disk : disks.Ghosts D) (pair : pairs.Ghosts D) (q : Sizes) → AreQuorums q
    → ((p : D) (d : List ℕ) → disk.is_honest p → pair.old_may p d → IsSpent d)
    → ((p : D) (c : List ℕ) → disk.is_honest p → pair.new_may p c → disk.may_leave p c) → HeardIsLearnedAgain disk pair q
heard_is_learned_again disk pair q sizes honest_spent new_is_left digest functions logs seats halted given all h heard again kept opened f pass s later low at is v u ev eu =
    learned disk pair q sizes digest functions honest_spent new_is_left logs seats halted given all h heard again kept opened f pass s later low at is v u ev eu
