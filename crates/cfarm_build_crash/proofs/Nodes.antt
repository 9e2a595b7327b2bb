-- The nodes of a build are nodes of a farm of which it is known what a crash of all leaves.
use Rattle.std.proofs.Common.{◌≡◌, ℕ, ◌<◌, List, length, map, get_or, Option, Some, None, refl, sym, ap, subst, subst₂, ◌∙◌, arith}
use Rattle.std.specs.Arc.{arc_value}
use Rattle.std.specs.List.{AllByRecursion}
use Rattle.std.specs.Prelude.{slice_get}
use Rattle.std.proofs.lemmas.Option.{get_or_from_slice_get, slice_get_within}
use Rattle.durable_model.specs.declared.disk.Disk as disks
use Rattle.durable_pair.specs.declared.pair.Pair as pairs
use Rattle.lang_base.specs.declared.program.Program.{Program}
use Rattle.rtl_language.specs.Function.{FunctionData}
use Rattle.paxos_core_world.specs.Quorum.{Sizes}
use Rattle.acceptor_log_form.specs.declared.header.Header.{Header}
use Rattle.acceptor_log.specs.declared.log.Log.{Log}
use Rattle.rooms_hall.specs.declared.hall.Naming as naming
use Rattle.farm_nodes_source.specs.declared.source.Source.{Source}
use Rattle.farm_nodes_turn_node.specs.Asked.{MayBeAsked}
use Rattle.farm_nodes_turn_node.specs.Fours.{four_of, fours_of}
use Rattle.farm_nodes_turn_node.specs.Held.{IsSoundNode}
use Rattle.farm_nodes_turn_node.specs.NumberedSeat.{NumberedSeat}
use Rattle.farm_nodes_turn_node.specs.declared.halted.Halted.{Halted}
use Rattle.farm_nodes_turn_node.proofs.Places.{found, map_at, map_length}
use Rattle.farm_nodes_open_journals.specs.Journals.{header_of}
use Rattle.farm_nodes_crash_left.specs.Left.{AreLeftOf, IsLeftOf, IsNode, NodeSeats}
use Rattle.cfarm_build_meeting.specs.Twice.{AreOfFunctions, MetTwice, by_number, seats_in}
use Rattle.cfarm_build_meeting.proofs.Meets.{all_here, seats_of}
use Rattle.cfarm_build.specs.Nodes.{HoldsJournal, NodeStays}
use Rattle.cfarm_build.specs.Resting.{Resting}
use Rattle.cfarm_build.proofs.Lowest.{all_going}
use Rattle.cfarm_build.proofs.Turning.{going_still, such_still, such_turned}
use Rattle.cfarm_build.proofs.Zips.{all_mapped, all_weaker, as_long, zipped}
use Rattle.cfarm_build.specs.Built.{Built}
use Rattle.cfarm_build_crash.specs.Again.{IsLeftOfBuild, functions_in}

header_so : (h : Header) (q : Sizes) (digest : List ℕ) (i : ℕ) → h.nodes ≡ q.nodes → h.promise ≡ q.promise → h.accept ≡ q.accept → h.node ≡ i → h.digest ≡ digest
    → h ≡ header_of q digest i
header_so h q digest i a b c d e = λ k. record { nodes = a k; promise = b k; accept = c k; node = d k; digest = e k }

module _ {D : Type 0} (disk : disks.Ghosts D) (pair : pairs.Ghosts D) {H : Type 0} (h : naming.Ghosts H) (q : Sizes) (source : Source) (given back : List D)
    (built : Built) (left : List D) (of : IsLeftOfBuild disk pair h q source given back built left) where
  -- those that built it, whose disks came back
  abbrev pub nodes : List (Resting D H h)
  nodes = of.is_built.nodes

  abbrev pub ran : List (Resting D H h)
  ran = of.is_built.are.ran

  ran_long : length ran ≡ length nodes
  ran_long = sym (as_long (NodeStays disk) ran nodes of.is_built.are.back.met)

  pub nodes_long : length nodes ≡ q.nodes
  nodes_long = of.is_built.are.back.hold.count ∙ of.size

  pub ran_count : length ran ≡ q.nodes
  ran_count = ran_long ∙ nodes_long

  ran_going : AllByRecursion (λ n. n.halted ≡ None) ran
  ran_going = all_going (λ (n : Resting D H h). n.halted) ran 0 of.is_built.are.going

  ran_program : AllByRecursion (λ n. arc_value n.program ≡ arc_value source.translated) ran
  ran_program = such_turned disk (λ (p : Program FunctionData). p ≡ arc_value source.translated) of.turns of.is_built.are.begun ran of.is_built.are.back.turned
      of.is_built.are.back.opened.program

  -- a node that may be asked, and its journal
  node_so : (i : ℕ) (p : D) (n m : Resting D H h) → slice_get given i ≡ Some p → HoldsJournal disk pair q source given i p m → n.log ≡ m.log → MayBeAsked disk n
      → n.halted ≡ None → arc_value n.program ≡ arc_value source.translated
      → IsNode disk pair q source.digest (functions_in source) i m.log (fours_of n.seats.items) None
  node_so i p n m ep holds log fit going program = record {
    sound = subst₂ (λ (l : Log D) (x : Option Halted). IsSoundNode disk l (fours_of n.seats.items) x) log going fit.0;
    waiting = tt;
    header = header_so m.log.header q source.digest i holds.nodes holds.promise holds.accept holds.node holds.digest;
    functions_are = map_length (λ (s : NumberedSeat H h). four_of s) n.seats.items
        ∙ (n.covers ∙ ap (λ (x : Program FunctionData). length x.functions) program);
    honest = holds.honest.1 (all_here (λ x. pair.is_whole x) given i p of.whole ep);
  }

  pair_at : (i : ℕ) → i < q.nodes → (p : D) × (slice_get given i ≡ Some p)
  pair_at i lt = found given i (omega (arith, lt, of.size))

  pub node_at : (i : ℕ) → i < q.nodes → (n : Resting D H h) × (slice_get nodes i ≡ Some n)
  node_at i lt = found nodes i (omega (arith, lt, nodes_long))

  pub holds_at : (i : ℕ) (n : Resting D H h) → slice_get nodes i ≡ Some n → (p : D) × HoldsJournal disk pair q source given i p n
  holds_at i n e =
      let low = slice_get_within nodes i n e in
      let p = pair_at i (omega (arith, low, nodes_long)) in
      (p.0, of.is_built.are.back.hold.each i p.0 n p.1 e)

  -- a node as it was given back
  pub is_node : (i : ℕ) (n : Resting D H h) → slice_get nodes i ≡ Some n
      → IsNode disk pair q source.digest (functions_in source) i n.log (fours_of n.seats.items) None
  is_node i n e =
      let low = slice_get_within nodes i n e in
      let p = pair_at i (omega (arith, low, nodes_long)) in
      let holds = of.is_built.are.back.hold.each i p.0 n p.1 e in
      node_so i p.0 n n p.1 holds refl holds.fit
      (all_here (λ x. x.halted ≡ None) nodes i n (going_still disk ran nodes of.is_built.are.back.met ran_going) e)
      (all_here (λ x. arc_value x.program ≡ arc_value source.translated) nodes i n
      (such_still disk (λ (x : Program FunctionData). x ≡ arc_value source.translated) ran nodes of.is_built.are.back.met ran_program) e)

  -- ---- as they were before they met

  abbrev pub seats_then : ℕ → NodeSeats
  seats_then = by_number (seats_in (λ (n : Resting D H h). n.seats.items) ran)

  abbrev pub seats_now : ℕ → NodeSeats
  seats_now = by_number (seats_in (λ (n : Resting D H h). n.seats.items) nodes)

  abbrev pub log_at : Log D → ℕ → Log D
  log_at d i = get_or (map (λ (n : Resting D H h). n.log) nodes) i d

  log_is : (d : Log D) (i : ℕ) (n : Resting D H h) → slice_get nodes i ≡ Some n → log_at d i ≡ n.log
  log_is d i n e = get_or_from_slice_get (map (λ (x : Resting D H h). x.log) nodes) i n.log d (map_at (λ (x : Resting D H h). x.log) nodes i n e)

  was_node : (d : Log D) (i : ℕ) → i < q.nodes → IsNode disk pair q source.digest (functions_in source) i (log_at d i) (seats_then i) None
  was_node d i lt =
      let n = node_at i lt in
      let r = zipped (NodeStays disk) ran nodes i n.0 of.is_built.are.back.met n.1 in
      let p = pair_at i lt in
      let is = node_so i p.0 r.0 n.0 p.1 (of.is_built.are.back.hold.each i p.0 n.0 p.1 n.1) (sym r.2.log)
      (all_here (MayBeAsked disk) ran i r.0 of.is_built.are.asked r.1) (all_here (λ x. x.halted ≡ None) ran i r.0 ran_going r.1)
      (all_here (λ x. arc_value x.program ≡ arc_value source.translated) ran i r.0 ran_program r.1) in
      subst₂ (λ (l : Log D) (s : NodeSeats). IsNode disk pair q source.digest (functions_in source) i l s None) (sym (log_is d i n.0 n.1))
      (sym (seats_of (λ (x : Resting D H h). x.seats.items) ran i r.0 r.1)) is

  back_long : length back ≡ length nodes
  back_long = ap (λ l. length l) of.is_built.theirs ∙ map_length (λ (n : Resting D H h). n.log.disk) nodes

  pub left_long : length left ≡ q.nodes
  left_long = of.crash.count ∙ (back_long ∙ nodes_long)

  -- what was left of the disk of a node is left of its journal
  pub left_so : (i : ℕ) (n : Resting D H h) (p : D) → slice_get nodes i ≡ Some n → slice_get left i ≡ Some p
      → IsLeftOf disk pair q source.digest (functions_in source) n.log p
  left_so i n p en ep =
      let disk_of = ap (λ (l : List D). slice_get l i) of.is_built.theirs ∙ map_at (λ (x : Resting D H h). x.log.disk) nodes i n en in
      let one = of.crash.each i n.log.disk p disk_of ep in
      record { whole = one.whole; shows = one.shows }

  pub was_left : (d : Log D) → AreLeftOf disk pair q source.digest (functions_in source) (log_at d) seats_then (λ i. None) left
  was_left d = record {
    count = left_long;
    nodes = was_node d;
    left = λ i p e.
        let low = slice_get_within left i p e in
        let n = node_at i (omega (arith, low, left_long)) in
        subst (λ (l : Log D). IsLeftOf disk pair q source.digest (functions_in source) l p) (sym (log_is d i n.0 n.1)) (left_so i n.0 p n.1 e);
  }

  functions_then : AreOfFunctions (functions_in source) (seats_in (λ (n : Resting D H h). n.seats.items) ran)
  functions_then = all_mapped (λ (n : Resting D H h). fours_of n.seats.items) (λ (s : NodeSeats). length s ≡ functions_in source) ran
      (all_weaker (λ (n : Resting D H h). arc_value n.program ≡ arc_value source.translated) (λ n. length (fours_of n.seats.items) ≡ functions_in source)
      (λ n program. map_length (λ (s : NumberedSeat H h). four_of s) n.seats.items ∙ (n.covers ∙ ap (λ (x : Program FunctionData). length x.functions) program)) ran ran_program)

  pub met : 0 < q.nodes → MetTwice q (functions_in source) seats_then seats_now
  met some =
      let long = map_length (λ (n : Resting D H h). fours_of n.seats.items) ran in
      of.is_built.are.twice q (functions_in source) (sym (long ∙ ran_count)) (omega (arith, some, long, ran_count)) functions_then
