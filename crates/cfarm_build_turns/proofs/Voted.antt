-- What is learned in a run was chosen there, so what the nodes have learned was voted for.
use Rattle.std.proofs.Common.{◌≡◌, ℕ, zero, suc, List, [], ◌∷◌, Some, refl, sym, ap, subst, ◌∙◌, arith}
use Rattle.std.proofs.lemmas.Option.{slice_get-map, slice_get_within}
use Rattle.std.specs.List.{AllByRecursion}
use Rattle.std.specs.Prelude.{option_map, slice_get}
use Rattle.durable_model.specs.declared.disk.Disk as disks
use Rattle.durable_pair.specs.declared.pair.Pair as pairs
use Rattle.paxos_core_world.specs.Quorum.{Sizes, sizes}
use Rattle.paxos_core_world.specs.Step.{IsChosen}
use Rattle.paxos_core_world.specs.World.{nodes_of}
use Rattle.rooms_words.proofs.Theorem.{holds}
use Rattle.rooms_words.specs.Events.{labels_of}
use Rattle.rooms_words.specs.declared.view.Opening.{Opening}
use Rattle.rooms_hall.specs.declared.hall.Naming as naming
use Rattle.farm_nodes_turn_node.proofs.Keeping.{stands_known}
use Rattle.farm_nodes_turn_node.proofs.Places.{found}
use Rattle.farm_nodes_turn_node.specs.Asked.{MayBeAsked}
use Rattle.farm_nodes_turn_node.specs.Fours.{four_of, words_of}
use Rattle.farm_nodes_turn_node.specs.NumberedSeat.{NumberedSeat}
use Rattle.farm_nodes_turn_node.specs.Numbers.{function_of, pass_of}
use Rattle.farm_nodes_turn_node.specs.SeatState.{seen_world}
use Rattle.farm_nodes_turn_node.specs.declared.farm_node.FarmNode.{FarmNode}
use Rattle.cfarm_build_meeting.specs.Source.{Source}
use Rattle.cfarm_build_turns.specs.Nodes.{AllHold}
use Rattle.cfarm_build_turns.specs.Voted.{AreVotedFor}

-- what is so at each place is so of all
at_each : {A : Type 0} (P : A → Type 0) (xs : List A) → ((i : ℕ) (x : A) → slice_get xs i ≡ Some x → P x) → AllByRecursion P xs
at_each P [] so = tt
at_each P (x ∷ xs) so = (so zero x refl, at_each P xs (λ i y e. so (suc i) y e))

sizes_same : (q : Sizes) (nodes promise accept : ℕ) → nodes ≡ q.nodes → promise ≡ q.promise → accept ≡ q.accept → sizes nodes promise accept ≡ q
sizes_same q nodes promise accept a b c =
    ap (λ n. sizes n promise accept) a ∙ (ap (λ n. sizes q.nodes n accept) b ∙ ap (λ n. sizes q.nodes q.promise n) c)

module _ {D O H : Type 0} {h : naming.Ghosts H} (disk : disks.Ghosts D) (q : Sizes) where
  -- what the nodes of a journal's seats have learned
  voted_for : (n : FarmNode D O H h) → MayBeAsked disk n → sizes n.log.header.nodes n.log.header.promise n.log.header.accept ≡ q → AreVotedFor q n.seats.items
  voted_for n fit same room s e v learned =
      let there = slice_get-map (λ (x : NumberedSeat H h). four_of x) n.seats.items (function_of room)
      ∙ ap (λ o. option_map (λ (x : NumberedSeat H h). four_of x) o) e in
      let words = words_of (four_of s) (pass_of room) in
      let stands = (fit.0.of_runs room (four_of s) there).stands in
      let of_opening : words.view.opening.quorums ≡ q = sym stands.quorums ∙ (fit.0.own.quorums room (four_of s) there ∙ same) in
      let has = (stands_known words stands).learned v learned in
      let opened : Opening = words.view.opening in
      let chosen = (holds opened.quorums (nodes_of opened.kept) (labels_of words.view.seen) stands.legal).learned words.node.me v has in
      (chosen.0, subst (λ (x : Sizes). IsChosen x (seen_world words) chosen.0 v) of_opening chosen.1)

  -- and of all nodes whose disks hold their journals
  pub all_voted : (pair : pairs.Ghosts D) (source : Source) (given : List D) (nodes : List (FarmNode D O H h)) → AllHold disk pair q source given nodes
      → AllByRecursion (λ n. AreVotedFor q n.seats.items) nodes
  all_voted pair source given nodes hold = at_each (λ n. AreVotedFor q n.seats.items) nodes (λ i n e.
      let below = slice_get_within nodes i n e in
      let many = hold.count in
      let p = found given i (omega (arith, below, many)) in
      let at = hold.each i p.0 n p.1 e in
      voted_for n at.fit (sizes_same q _ _ _ at.nodes at.promise at.accept))
