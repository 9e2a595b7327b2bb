-- What nodes make that opened, or why they make nothing, as it is told of the whole build.
use Rattle.std.proofs.Common.{◌≡◌, ℕ, List, length, map, None, Result, Ok, Err, IfOk, IfErr, inl, inr, refl, sym, ap, subst, ◌∙◌}
use Rattle.std.proofs.lemmas.List.{length-map}
use Rattle.std.specs.Arc.{arc_value}
use Rattle.std.specs.List.{All, AllByRecursion, AllZip}
use Rattle.std.specs.Prelude.{◌⊎◌}
use Rattle.durable_model.specs.declared.disk.Disk as disks
use Rattle.durable_pair.specs.declared.pair.Pair as pairs
use Rattle.rooms_hall.specs.declared.hall.Naming as naming
use Rattle.farm_nodes_source.specs.declared.source.Source.{Source}
use Rattle.paxos_core_world.specs.Quorum.{Sizes}
use Rattle.cfarm_build_folder.specs.BuildError.{BuildError}
use Rattle.cfarm_build_folder.specs.BuildError.TheVariants.{NoMemory, NoThread, Source as TextFault, Disks, Failed, Undecided, Unlinked, Names}
use Rattle.cfarm_build_linking.specs.Built.{IsBuiltBy}
use Rattle.cfarm_build_linking.specs.Refused.{IsRefusedBy}
use Rattle.cfarm_build_turns.specs.Back.{AreJournalsOn}
use Rattle.cfarm_build_turns.specs.Opened.{AreOpenFromJournals}
use Rattle.cfarm_build_turns.specs.Words.{generators}
use Rattle.cfarm_build_turns.specs.Asked.{MayBeAsked}
use Rattle.cfarm_build_turns.specs.CameBackNodes.{NodeCameBack}
use Rattle.cfarm_build_turns.specs.FarmNode.{FarmNode}
use Rattle.cfarm_build_turns.specs.Fault.{Fault}
use Rattle.cfarm_build_turns.specs.Node.{node}
use Rattle.cfarm_build_turns.specs.Nodes.{AreBack, AreMissed, HasStopped, HaveOpened, NodeStays, NodesMetTwice, failed_of}
use Rattle.cfarm_build_turns.specs.NotRun.{IsNotRun}
use Rattle.cfarm_build_turns.specs.Resting.{Resting, disks_in, rested}
use Rattle.cfarm_build_turns.specs.Unmet.{IsUnmet}
use Rattle.cfarm_build_turns.proofs.Counting.{missed_seen}
use Rattle.cfarm_build_turns.proofs.NodesRest.{asked_at_rest, back_at_rest, failed_at_rest, stopped_at_rest, twice_at_rest}
use Rattle.cfarm_build_turns.proofs.Voted.{all_voted}
use Rattle.cfarm_build_turns.proofs.Turning.{come_back, has_stopped, meets_none}
use Rattle.cfarm_build_turns.proofs.Zips.{all_of, all_same, map_twice}
use Rattle.cfarm_build.specs.Built.{Built, IsBuilt, IsBuiltBack, nodes_seen}
use Rattle.cfarm_build.specs.Gone.{HaveGone, IsUnmade}
use Rattle.cfarm_build.specs.Refused.{AreWanting, ComeBack, HasFailed, HaveMetIn, IsUnbuilt}
use Rattle.cfarm_build.specs.Back.{AreDisksOf}

module _ {D O H : Type 0} {h : naming.Ghosts H} (disk : disks.Ghosts D) (turns : ℕ) (source : Source) (begun ran : List (FarmNode D O H h)) where
  not_run : (e : BuildError) → IsNotRun e → IsUnmade source ran ran e
  not_run NoMemory is = tt
  not_run NoThread is = tt
  not_run (TextFault f) is = is
  not_run (Disks f) is = absurd is
  not_run (Failed n f) is = absurd is
  not_run Undecided is = absurd is
  not_run (Unlinked f function) is = absurd is
  not_run Names is = is

  not_met : (nodes : List (FarmNode D O H h)) (e : BuildError) → IsUnmet ran nodes e → IsUnmade source ran nodes e
  not_met nodes NoMemory is = tt
  not_met nodes NoThread is = tt
  not_met nodes (TextFault f) is = is
  not_met nodes (Disks f) is = absurd is
  not_met nodes (Failed n f) is = is
  not_met nodes Undecided is = (is.0, inl is.1)
  not_met nodes (Unlinked f function) is = absurd is
  not_met nodes Names is = is

  not_linked : (nodes : List (FarmNode D O H h)) → failed_of ran ≡ None → (e : BuildError) → IsRefusedBy source (nodes_seen nodes) e → IsUnmade source ran nodes e
  not_linked nodes going NoMemory is = tt
  not_linked nodes going NoThread is = tt
  not_linked nodes going (TextFault f) is = is
  not_linked nodes going (Disks f) is = absurd is
  not_linked nodes going (Failed n f) is = absurd is
  not_linked nodes going Undecided is = (going, inr is)
  not_linked nodes going (Unlinked f function) is = (going, is)
  not_linked nodes going Names is = is

  module _ (turned : AllZip (NodeCameBack disk turns) begun ran) (fit : AllByRecursion (MayBeAsked disk) ran) where
    -- they did not run
    pub gone_unrun : (e : BuildError) → IsNotRun e → HaveGone disk turns source begun ran (Err e)
    gone_unrun e is = record {
      ran = ran;
      turned = turned;
      fit = fit;
      met = all_same (NodeStays disk) (meets_none disk) ran;
      makes = tt;
      makes_not = not_run e is;
    }

    -- they did not meet
    pub gone_unmet : (nodes : List (FarmNode D O H h)) → AllZip (NodeStays disk) ran nodes → (e : BuildError) → IsUnmet ran nodes e
        → HaveGone disk turns source begun nodes (Err e)
    gone_unmet nodes met e is = record { ran = ran; turned = turned; fit = fit; met = met; makes = tt; makes_not = not_met nodes e is }

    -- they met
    pub gone_met : (nodes seen : List (FarmNode D O H h)) → seen ≡ nodes → AllZip (NodeStays disk) ran nodes → failed_of ran ≡ None → NodesMetTwice ran nodes → (made : Result Built BuildError)
        → IfOk made (IsBuiltBy source (nodes_seen seen)) → IfErr made (IsRefusedBy source (nodes_seen seen)) → HaveGone disk turns source begun nodes made
    gone_met nodes seen same met going twice (Ok built) makes refused = record {
      ran = ran;
      turned = turned;
      fit = fit;
      met = met;
      makes = (going, subst (λ l. IsBuiltBy source (nodes_seen l) built) same makes, twice);
      makes_not = tt;
    }
    gone_met nodes seen same met going twice (Err e) makes refused = record {
      ran = ran;
      turned = turned;
      fit = fit;
      met = met;
      makes = tt;
      makes_not = not_linked nodes going e (subst (λ l. IsRefusedBy source (nodes_seen l) e) same refused);
    }

-- the nodes of a farm that opened over a source
pub opened_so : {D O H : Type 0} {h : naming.Ghosts H} (disk : disks.Ghosts D) (pair : pairs.Ghosts D) (q : Sizes) (seed : ℕ) (source opened : Source) (given : List D)
    (nodes : List (FarmNode D O H h)) → opened ≡ source → AreJournalsOn disk pair q opened.digest given (map (λ n. n.log) nodes)
    → AreOpenFromJournals disk q (length (arc_value opened.translated).functions) (map (λ n. n.log) nodes) (map (λ n. n.seats.items) nodes)
    → map (λ n. n.draws) nodes ≡ generators seed (length given) → All (λ n. arc_value n.program ≡ arc_value opened.translated) nodes → All (λ n. n.halted ≡ None) nodes
    → HaveOpened disk pair q source given seed nodes
opened_so disk pair q seed source opened given nodes same journals rooms draws program going = subst (λ (s : Source). HaveOpened disk pair q s given seed nodes) same (record {
  journals = journals;
  rooms = rooms;
  draws = draws;
  program = all_of (λ n. arc_value n.program ≡ arc_value opened.translated) nodes program;
  going = all_of (λ n. n.halted ≡ None) nodes going;
})

module _ {D O H : Type 0} {h : naming.Ghosts H} (disk : disks.Ghosts D) (pair : pairs.Ghosts D) (q : Sizes) (seed turns : ℕ) (source : Source) (given : List D)
    (begun nodes : List (FarmNode D O H h)) (opened : HaveOpened disk pair q source given seed begun) where
  abbrev pub at_rest : List (FarmNode D O H h) → List (Resting D H h)
  at_rest l = map (λ n. rested n) l

  module _ (made : Result Built BuildError) (gone : HaveGone disk turns source begun nodes made) where
    back_so : AreBack disk pair q source given seed turns (at_rest begun) (at_rest gone.ran) (at_rest nodes)
    back_so = back_at_rest disk pair q source given seed turns begun gone.ran nodes
        (come_back disk pair q source given seed turns begun gone.ran opened gone.turned nodes gone.met gone.fit)

  seen_same : (l : List (FarmNode D O H h)) → nodes_seen (at_rest l) ≡ nodes_seen l
  seen_same l = map_twice (λ n. rested n) (λ n. node n.log n.seats.items n.halted) l

  built_at_rest : (made : Result Built BuildError) → HaveGone disk turns source begun nodes made → IfOk made (IsBuilt disk pair q seed turns source given (at_rest nodes))
  built_at_rest (Ok built) gone = record {
    begun = at_rest begun;
    ran = at_rest gone.ran;
    back = back_so (Ok built) gone;
    going = failed_at_rest gone.ran ∙ gone.makes.0;
    asked = asked_at_rest disk gone.ran gone.fit;
    twice = twice_at_rest gone.ran nodes gone.makes.2;
    voted = all_voted disk q pair source given (at_rest nodes) (back_so (Ok built) gone).hold;
    makes = subst (λ l. IsBuiltBy source l built) (sym (seen_same nodes)) gone.makes.1;
  }
  built_at_rest (Err e) gone = tt

  wanting : AreMissed (λ n. n.seats.items) nodes ⊎ IsRefusedBy source (nodes_seen nodes) Undecided → AreWanting disk pair h q seed turns source given (at_rest nodes)
  wanting (inl missed) = inl (missed_seen (λ n. n.seats.items) (λ n. rested n) (λ n. n.seats.items) (λ n. refl) nodes missed)
  wanting (inr un) = inr (subst (λ l. IsRefusedBy source l Undecided) (sym (seen_same nodes)) un)

  failed_so : (number : ℕ) (fault : Fault) (gone : HaveGone disk turns source begun nodes (Err (Failed number fault))) → HasFailed disk pair h q seed turns source given number fault (at_rest nodes)
  failed_so number fault gone =
      let same = gone.makes_not.1 in
      record {
        begun = at_rest begun;
        back = subst (λ l. AreBack disk pair q source given seed turns (at_rest begun) l (at_rest nodes)) (ap at_rest (sym same)) (back_so (Err (Failed number fault)) gone);
        failed = failed_at_rest nodes ∙ (ap (λ l. failed_of l) same ∙ gone.makes_not.0);
        stopped = subst (λ l. HasStopped disk pair q source given (at_rest begun) l number fault) (ap at_rest (sym same))
            (stopped_at_rest disk pair q source given begun gone.ran number fault
            (has_stopped disk pair q source given seed turns begun gone.ran opened gone.turned number fault gone.makes_not.0));
      }

  -- what is built, and why nothing is, with the disks of the nodes
  module _ (back : List D) (is : back ≡ disks_in nodes) where
    of_nodes : (Are : List (Resting D H h) → Type 0) → Are (at_rest nodes) → AreDisksOf h back Are
    of_nodes Are are = record { nodes = at_rest nodes; theirs = is ∙ sym (map_twice (λ n. rested n) (λ n. n.log.disk) nodes); are = are }

    unbuilt_with : (e : BuildError) → HaveGone disk turns source begun nodes (Err e) → IsUnbuilt disk pair h q seed turns source given back e
    unbuilt_with NoMemory gone = inr (of_nodes (ComeBack disk pair h q seed turns source given) (record { begun = at_rest begun; ran = at_rest gone.ran; back = back_so (Err NoMemory) gone }))
    unbuilt_with NoThread gone = of_nodes (ComeBack disk pair h q seed turns source given) (record { begun = at_rest begun; ran = at_rest gone.ran; back = back_so (Err NoThread) gone })
    unbuilt_with (TextFault f) gone = gone.makes_not
    unbuilt_with (Disks f) gone = absurd gone.makes_not
    unbuilt_with (Failed n f) gone = of_nodes (HasFailed disk pair h q seed turns source given n f) (failed_so n f gone)
    unbuilt_with Undecided gone = of_nodes (HaveMetIn disk pair h q seed turns source given (AreWanting disk pair h q seed turns source given))
        (record { begun = at_rest begun; ran = at_rest gone.ran; back = back_so (Err Undecided) gone; going = failed_at_rest gone.ran ∙ gone.makes_not.0; is = wanting gone.makes_not.1 })
    unbuilt_with (Unlinked f function) gone =
        of_nodes (HaveMetIn disk pair h q seed turns source given (λ l. IsRefusedBy source (nodes_seen l) (Unlinked f function)))
        (record {
          begun = at_rest begun;
          ran = at_rest gone.ran;
          back = back_so (Err (Unlinked f function)) gone;
          going = failed_at_rest gone.ran ∙ gone.makes_not.0;
          is = subst (λ l. IsRefusedBy source l (Unlinked f function)) (sym (seen_same nodes)) gone.makes_not.1;
        })
    unbuilt_with Names gone = gone.makes_not

    pub built_so : (made : Result Built BuildError) → HaveGone disk turns source begun nodes made → IfOk made (IsBuiltBack disk pair h q seed turns source given back)
    built_so (Ok built) gone = of_nodes (λ l. IsBuilt disk pair q seed turns source given l built) (built_at_rest (Ok built) gone)
    built_so (Err e) gone = tt

    pub unbuilt_so : (made : Result Built BuildError) → HaveGone disk turns source begun nodes made → IfErr made (IsUnbuilt disk pair h q seed turns source given back)
    unbuilt_so (Ok built) gone = tt
    unbuilt_so (Err e) gone = unbuilt_with e gone

    -- there are as many as were given
    pub as_many : (made : Result Built BuildError) → HaveGone disk turns source begun nodes made → length back ≡ length given
    as_many made gone =
        ap length is ∙ (length-map nodes (λ n. n.log.disk) ∙ (sym (length-map nodes (λ n. rested n)) ∙ (back_so made gone).hold.count))
