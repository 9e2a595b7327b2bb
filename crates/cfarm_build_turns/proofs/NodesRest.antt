-- What is said of nodes is said of them at rest.
use Rattle.std.proofs.Common.{◌≡◌, ℕ, zero, suc, List, [], ◌∷◌, map, length, None, refl, sym, ap, subst, subst₂, ◌∙◌, arith}
use Rattle.std.specs.Arc.{arc_value}
use Rattle.std.specs.List.{AllByRecursion, AllZip}
use Rattle.std.proofs.lemmas.List.{length-map}
use Rattle.std.proofs.lemmas.Option.{slice_get-map}
use Rattle.std.specs.Prelude.{option_map}
use Rattle.durable_model.specs.declared.disk.Disk as disks
use Rattle.durable_pair.specs.declared.pair.Pair as pairs
use Rattle.rooms_hall.specs.declared.hall.Naming as naming
use Rattle.cfarm_build_faults.specs.After.{After}
use Rattle.farm_nodes_turn_node.specs.Asked.{MayBeAsked}
use Rattle.farm_nodes_turn_node.specs.Fours.{fours_of}
use Rattle.farm_nodes_turn_node.specs.declared.farm_node.FarmNode.{FarmNode}
use Rattle.farm_nodes_turn_node.proofs.Places.{mapped}
use Rattle.farm_nodes_turn_node.specs.Held.{fault_in}
use Rattle.farm_nodes_turn_offer.specs.declared.halt.Fault.{Fault}
use Rattle.paxos_core_world.specs.Quorum.{Sizes}
use Rattle.cfarm_build_meeting.specs.Source.{Source}
use Rattle.cfarm_build_meeting.proofs.Zips.{all_mapped, map_twice}
use Rattle.cfarm_build_faults.specs.Back.{AreJournalsOn}
use Rattle.cfarm_build_faults.specs.Opened.{AreOpenFromJournals}
use Rattle.cfarm_build_faults.specs.Nodes.{NodeCameBack}
use Rattle.cfarm_build_faults.specs.OneTurn.{TakesTurn}
use Rattle.cfarm_build_meeting.specs.Twice.{HaveMetTwice}
use Rattle.cfarm_build_turns.specs.Nodes.{AllHold, AreBack, HasStopped, HaveOpened, HoldsJournal, NodeStays, NodesMetTwice, failed_of, lowest_failed}
use Rattle.cfarm_build_turns.specs.Resting.{rested}

pub nothing_left : {A : Type 0} (xs : List A) → length xs ≡ 0 → xs ≡ []
nothing_left [] h = refl
nothing_left (x ∷ xs) h = absurd (omega arith)

-- beside one another, as they are seen
zip_mapped : {A B : Type 0} (f : A → B) (R : A → A → Type 0) (S : B → B → Type 0) → ((x y : A) → R x y → S (f x) (f y))
    → (xs ys : List A) → AllZip R xs ys → AllZip S (map f xs) (map f ys)
zip_mapped f R S so [] [] z = tt
zip_mapped f R S so [] (y ∷ ys) z = absurd z
zip_mapped f R S so (x ∷ xs) [] z = absurd z
zip_mapped f R S so (x ∷ xs) (y ∷ ys) z = (so x y z.0, zip_mapped f R S so xs ys z.1)

module _ {D O H : Type 0} {h : naming.Ghosts H} (disk : disks.Ghosts D) where
  one_turn : (x y : FarmNode D O H h) → TakesTurn disk x y → TakesTurn disk (rested x) (rested y)
  one_turn x y t = record {
    room = t.room;
    told = t.told;
    within = t.within;
    served = t.served;
    stopped = λ some. let nothing = t.stopped some in (nothing.0, ap (λ (n : FarmNode D O H h). rested n) nothing.1);
    others = record { seats = t.others.seats; program = t.others.program };
    leaves = record { function = t.leaves.function; after = t.leaves.after; draws = t.leaves.draws };
    tells = record { fault = t.tells.fault; cause = t.tells.cause; value = t.tells.value };
    journal = t.journal;
  }

  turns : (n : ℕ) (x y : FarmNode D O H h) → After (TakesTurn disk) n x y → After (TakesTurn disk) n (rested x) (rested y)
  turns zero x y same = ap (λ (n : FarmNode D O H h). rested n) same
  turns (suc n) x y taken = (rested taken.0, turns n x taken.0 taken.1, one_turn taken.0 y taken.2)

  came : (most : ℕ) (x y : FarmNode D O H h) → NodeCameBack disk most x y → NodeCameBack disk most (rested x) (rested y)
  came most x y back = (back.0, back.1, back.2, record { taken = back.3.taken; counted = back.3.counted; after = turns back.3.taken x y back.3.after })

  stays : (x y : FarmNode D O H h) → NodeStays disk x y → NodeStays disk (rested x) (rested y)
  stays x y it = record {
    program = it.program;
    log = it.log;
    draws = it.draws;
    halted_same = it.halted_same;
    seats_on = it.seats_on;
    learned_still = it.learned_still;
    fit = it.fit;
  }

  module _ (pair : pairs.Ghosts D) (q : Sizes) (source : Source) (given : List D) where
    opened_at_rest : (seed : ℕ) (nodes : List (FarmNode D O H h)) → HaveOpened disk pair q source given seed nodes
        → HaveOpened disk pair q source given seed (map (λ n. rested n) nodes)
    opened_at_rest seed nodes is = record {
      journals = subst (λ l. AreJournalsOn disk pair q source.digest given l) (sym (map_twice (λ (n : FarmNode D O H h). rested n) (λ n. n.log) nodes)) is.journals;
      rooms = subst₂ (λ l r. AreOpenFromJournals disk q (length (arc_value source.translated).functions) l r)
          (sym (map_twice (λ (n : FarmNode D O H h). rested n) (λ n. n.log) nodes)) (sym (map_twice (λ (n : FarmNode D O H h). rested n) (λ n. n.seats.items) nodes)) is.rooms;
      draws = map_twice (λ (n : FarmNode D O H h). rested n) (λ n. n.draws) nodes ∙ is.draws;
      program = all_mapped (λ (n : FarmNode D O H h). rested n) (λ n. arc_value n.program ≡ arc_value source.translated) nodes is.program;
      going = all_mapped (λ (n : FarmNode D O H h). rested n) (λ n. n.halted ≡ None) nodes is.going;
    }

    hold_at_rest : (nodes : List (FarmNode D O H h)) → AllHold disk pair q source given nodes → AllHold disk pair q source given (map (λ n. rested n) nodes)
    hold_at_rest nodes hold = record {
      count = length-map nodes (λ (n : FarmNode D O H h). rested n) ∙ hold.count;
      each = λ i p n ep en.
          let x = mapped (λ (n : FarmNode D O H h). rested n) nodes i n en in
          let holds = hold.each i p x.0 ep x.1 in
          subst (λ m. HoldsJournal disk pair q source given i p m) x.2 (record { nodes = holds.nodes; promise = holds.promise; accept = holds.accept; node = holds.node; digest = holds.digest; honest = holds.honest; fit = holds.fit });
    }

    pub back_at_rest : (seed most : ℕ) (begun ran nodes : List (FarmNode D O H h)) → AreBack disk pair q source given seed most begun ran nodes
        → AreBack disk pair q source given seed most (map (λ n. rested n) begun) (map (λ n. rested n) ran) (map (λ n. rested n) nodes)
    back_at_rest seed most begun ran nodes back = record {
      opened = opened_at_rest seed begun back.opened;
      turned = zip_mapped (λ (n : FarmNode D O H h). rested n) (NodeCameBack disk most) (NodeCameBack disk most) (came most) begun ran back.turned;
      met = zip_mapped (λ (n : FarmNode D O H h). rested n) (NodeStays disk) (NodeStays disk) stays ran nodes back.met;
      hold = hold_at_rest nodes back.hold;
    }

    pub stopped_at_rest : (begun ran : List (FarmNode D O H h)) (number : ℕ) (fault : Fault) → HasStopped disk pair q source given begun ran number fault
        → HasStopped disk pair q source given (map (λ n. rested n) begun) (map (λ n. rested n) ran) number fault
    stopped_at_rest begun ran number fault stop = record {
      first = rested stop.first;
      node = rested stop.node;
      there_first = slice_get-map (λ (n : FarmNode D O H h). rested n) begun number ∙ ap (λ o. option_map (λ (n : FarmNode D O H h). rested n) o) stop.there_first;
      there = slice_get-map (λ (n : FarmNode D O H h). rested n) ran number ∙ ap (λ o. option_map (λ (n : FarmNode D O H h). rested n) o) stop.there;
      stopped = stop.stopped;
      cause = stop.cause;
    }

-- the first that failed
pub failed_at_rest : {D O H : Type 0} {h : naming.Ghosts H} (nodes : List (FarmNode D O H h)) → failed_of (map (λ n. rested n) nodes) ≡ failed_of nodes
failed_at_rest {D} {O} {H} {h} nodes = ap (λ l. lowest_failed 0 l) (map_twice (λ (n : FarmNode D O H h). rested n) (λ n. fault_in n.halted) nodes)

-- those that met, forth and back
pub twice_at_rest : {D O H : Type 0} {h : naming.Ghosts H} (old new : List (FarmNode D O H h)) → NodesMetTwice old new
    → NodesMetTwice (map (λ n. rested n) old) (map (λ n. rested n) new)
twice_at_rest {D} {O} {H} {h} old new met =
    subst₂ (λ a b. HaveMetTwice a b) (sym (map_twice (λ (n : FarmNode D O H h). rested n) (λ n. fours_of n.seats.items) old))
    (sym (map_twice (λ (n : FarmNode D O H h). rested n) (λ n. fours_of n.seats.items) new)) met

-- those that may be asked
pub asked_at_rest : {D O H : Type 0} {h : naming.Ghosts H} (disk : disks.Ghosts D) (nodes : List (FarmNode D O H h)) → AllByRecursion (MayBeAsked disk) nodes
    → AllByRecursion (MayBeAsked disk) (map (λ n. rested n) nodes)
asked_at_rest {D} {O} {H} {h} disk nodes all = all_mapped (λ (n : FarmNode D O H h). rested n) (λ n. MayBeAsked disk n) nodes all
