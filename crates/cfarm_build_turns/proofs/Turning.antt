-- What turns and meetings leave of nodes, one behind another, and what the nodes hold that come back.
use Rattle.std.proofs.Common.{◌≡◌, ◌≤◌, ◌+◌, ℕ, zero, suc, List, [], ◌∷◌, map, length, ◌++◌, take, drop, Option, Some, None, refl, sym, ap, subst, subst₂, ◌∙◌, arith}
use Rattle.std.proofs.lemmas.List.{length-map}
use Rattle.std.proofs.lemmas.Option.{slice_get-map}
use Rattle.std.specs.Arc.{arc_value}
use Rattle.std.specs.List.{AllByRecursion, AllZip}
use Rattle.std.specs.Prelude.{option_map, slice_get}
use Rattle.durable_model.specs.declared.disk.Disk as disks
use Rattle.durable_pair.specs.declared.pair.Pair as pairs
use Rattle.lang_base.specs.declared.program.Program.{Program}
use Rattle.rtl_language.specs.Function.{FunctionData}
use Rattle.acceptor_log.specs.declared.log.Log.{Log}
use Rattle.rooms_hall.specs.declared.hall.Naming as naming
use Rattle.farm_nodes_turn_node.proofs.Places.{mapped}
use Rattle.farm_nodes_turn_node.specs.Asked.{MayBeAsked}
use Rattle.farm_nodes_turn_node.specs.declared.farm_node.FarmNode.{FarmNode}
use Rattle.farm_nodes_turn_node.specs.Held.{fault_in}
use Rattle.farm_nodes_turn_offer.specs.declared.halt.Fault.{Fault}
use Rattle.farm_nodes_turn_node.specs.Fours.{fours_of}
use Rattle.paxos_core_world.specs.Quorum.{Sizes}
use Rattle.cfarm_build_meeting.specs.Source.{Source}
use Rattle.cfarm_build_meeting.specs.Learned.{learned_by}
use Rattle.cfarm_build_meeting.proofs.Alike.{keeps_none, keeps_through}
use Rattle.cfarm_build_meeting.proofs.Going.{go_nowhere, go_through}
use Rattle.cfarm_build_meeting.proofs.Zips.{as_long, kept, through, written, zipped}
use Rattle.cfarm_build_faults.proofs.Turning.{came_back_through}
use Rattle.cfarm_build_faults.specs.Nodes.{NodeCameBack}
use Rattle.cfarm_build_faults.specs.Stopped.{IsStoppedFor}
use Rattle.cfarm_build_turns.specs.Nodes.{AreBack, HasStopped, HaveOpened, NodeStays, failed_of, lowest_failed}

-- what stands at a place
here : {A : Type 0} (P : A → Type 0) (xs : List A) (i : ℕ) (x : A) → AllByRecursion P xs → slice_get xs i ≡ Some x → P x
here P [] i x all e = absurd (cc e)
here P (y ∷ ys) zero x all e = subst P (let same : y ≡ x = cc e in same) all.0
here P (y ∷ ys) (suc i) x all e = here P ys i x all.1 e

-- the fault of the node that failed stands at its place
failed_at : (k : ℕ) (faults : List (Option Fault)) (number : ℕ) (told : Fault) → lowest_failed k faults ≡ Some (number, told)
    → (at : ℕ) × (number ≡ k + at) × (slice_get faults at ≡ Some (Some told))
failed_at k [] number told is = absurd (cc is)
failed_at k (None ∷ faults) number told is =
    let behind = failed_at (suc k) faults number told is in
    let at = behind.1 in
    (suc behind.0, omega (arith, at), behind.2)
failed_at k (Some f ∷ faults) number told is =
    let both : (k, f) ≡ (number, told) = cc is in
    let same : k ≡ number = ap (λ (x : ℕ × Fault). x.0) both in
    let fault : f ≡ told = ap (λ (x : ℕ × Fault). x.1) both in
    (zero, omega (arith, same), ap (λ (x : Fault). Some (Some x)) fault)

module _ {D O H : Type 0} {h : naming.Ghosts H} (disk : disks.Ghosts D) where
  -- ---- turns behind turns

  pub wider : (most more : ℕ) (xs ys : List (FarmNode D O H h)) → most ≤ more → AllZip (NodeCameBack disk most) xs ys → AllZip (NodeCameBack disk more) xs ys
  wider most more [] [] low z = tt
  wider most more [] (y ∷ ys) low z = absurd z
  wider most more (x ∷ xs) [] low z = absurd z
  wider most more (x ∷ xs) (y ∷ ys) low z = (
    (z.0.0, z.0.1, z.0.2, record { taken = z.0.3.taken; counted = let a = z.0.3.counted in omega (arith, low, a); after = z.0.3.after }),
    wider most more xs ys low z.1,
  )

  pub turns_through : (most more all : ℕ) (xs ys zs : List (FarmNode D O H h)) → most + more ≤ all → AllZip (NodeCameBack disk most) xs ys
      → AllZip (NodeCameBack disk more) ys zs → AllZip (NodeCameBack disk all) xs zs
  turns_through most more all [] [] [] low z w = tt
  turns_through most more all [] [] (u ∷ us) low z w = absurd w
  turns_through most more all [] (y ∷ ys) zs low z w = absurd z
  turns_through most more all (x ∷ xs) [] zs low z w = absurd z
  turns_through most more all (x ∷ xs) (y ∷ ys) [] low z w = absurd w
  turns_through most more all (x ∷ xs) (y ∷ ys) (u ∷ us) low z w =
      let both = came_back_through disk most more x y u z.0 w.0 in (
        (both.0, both.1, both.2, record { taken = both.3.taken; counted = let a = both.3.counted in omega (arith, low, a); after = both.3.after }),
        turns_through most more all xs ys us low z.1 w.1,
      )

  -- ---- meetings behind meetings

  pub meets_none : (x : FarmNode D O H h) → NodeStays disk x x
  meets_none x = record {
    program = refl;
    log = refl;
    draws = refl;
    halted_same = refl;
    seats_on = go_nowhere x.seats.items;
    learned_still = keeps_none (learned_by x.seats.items);
    fit = λ s. s;
  }

  pub stays_through : (x y z : FarmNode D O H h) → NodeStays disk x y → NodeStays disk y z → NodeStays disk x z
  stays_through x y z p q = record {
    program = q.program ∙ p.program;
    log = q.log ∙ p.log;
    draws = q.draws ∙ p.draws;
    halted_same = q.halted_same ∙ p.halted_same;
    seats_on = go_through x.seats.items y.seats.items z.seats.items p.seats_on q.seats_on;
    learned_still = keeps_through (learned_by x.seats.items) (learned_by y.seats.items) (learned_by z.seats.items) p.learned_still q.learned_still;
    fit = λ s. q.fit (p.fit s);
  }

  pub meets_through : (xs ys zs : List (FarmNode D O H h)) → AllZip (NodeStays disk) xs ys → AllZip (NodeStays disk) ys zs → AllZip (NodeStays disk) xs zs
  meets_through = through (NodeStays disk) stays_through

  -- those that met in place, in a list of so many
  pub new_there : (n : ℕ) (ys old new now : List (FarmNode D O H h)) → old ≡ ys → n ≡ length ys → now ≡ take n (new ++ drop (length new) ys)
      → AllZip (NodeStays disk) old new → now ≡ new
  new_there n ys old new now same count is met =
      let over : AllZip (NodeStays disk) ys new = subst (λ l. AllZip (NodeStays disk) l new) same met in
      is ∙ written n new ys count (as_long (NodeStays disk) ys new over)

  pub meets_there : (n : ℕ) (ys old new now : List (FarmNode D O H h)) → old ≡ ys → n ≡ length ys → now ≡ take n (new ++ drop (length new) ys)
      → AllZip (NodeStays disk) old new → AllZip (NodeStays disk) ys now
  meets_there n ys old new now same count is met =
      subst₂ (λ l r. AllZip (NodeStays disk) l r) same (sym (new_there n ys old new now same count is met)) met

  -- what stopped each of them is what it was, and each has its program
  pub going_still : (xs ys : List (FarmNode D O H h)) → AllZip (NodeStays disk) xs ys → AllByRecursion (λ n. n.halted ≡ None) xs → AllByRecursion (λ n. n.halted ≡ None) ys
  going_still xs ys met so = kept (NodeStays disk) (λ n. n.halted ≡ None) (λ n. n.halted ≡ None) (λ x y it none. it.halted_same ∙ none) xs ys met so

  pub such_still : (P : Program FunctionData → Type 0) (xs ys : List (FarmNode D O H h)) → AllZip (NodeStays disk) xs ys
      → AllByRecursion (λ n. P (arc_value n.program)) xs → AllByRecursion (λ n. P (arc_value n.program)) ys
  such_still P xs ys met so = kept (NodeStays disk) (λ n. P (arc_value n.program)) (λ n. P (arc_value n.program))
      (λ x y it few. subst (λ p. P (arc_value p)) (sym it.program) few) xs ys met so

  pub such_turned : (P : Program FunctionData → Type 0) (most : ℕ) (xs ys : List (FarmNode D O H h)) → AllZip (NodeCameBack disk most) xs ys
      → AllByRecursion (λ n. P (arc_value n.program)) xs → AllByRecursion (λ n. P (arc_value n.program)) ys
  such_turned P most xs ys turned so = kept (NodeCameBack disk most) (λ n. P (arc_value n.program)) (λ n. P (arc_value n.program))
      (λ x y it few. subst (λ p. P (arc_value p)) (sym it.0) few) xs ys turned so

  -- ---- what the nodes hold that come back

  module _ (pair : pairs.Ghosts D) (q : Sizes) (source : Source) (given : List D) (seed turns : ℕ) (begun ran : List (FarmNode D O H h))
      (opened : HaveOpened disk pair q source given seed begun) (turned : AllZip (NodeCameBack disk turns) begun ran) where
    log_at : (i : ℕ) (b : FarmNode D O H h) → slice_get begun i ≡ Some b → slice_get (map (λ (n : FarmNode D O H h). n.log) begun) i ≡ Some b.log
    log_at i b e = slice_get-map (λ (n : FarmNode D O H h). n.log) begun i ∙ ap (λ o. option_map (λ (n : FarmNode D O H h). n.log) o) e

    pub come_back : (nodes : List (FarmNode D O H h)) → AllZip (NodeStays disk) ran nodes → AllByRecursion (MayBeAsked disk) ran
        → AreBack disk pair q source given seed turns begun ran nodes
    come_back nodes met fit = record {
      opened = opened;
      turned = turned;
      met = met;
      hold = record {
        count = as_long (NodeStays disk) ran nodes met ∙ (as_long (NodeCameBack disk turns) begun ran turned
            ∙ (sym (length-map begun (λ (n : FarmNode D O H h). n.log)) ∙ opened.journals.count));
        each = λ i p n ep en.
            let x = zipped (NodeStays disk) ran nodes i n met en in
            let b = zipped (NodeCameBack disk turns) begun ran i x.0 turned x.1 in
            let on = opened.journals.each i p b.0.log ep (log_at i b.0 b.1) in
            let log : n.log ≡ x.0.log = x.2.log in
            let honest = b.2.1.honest in
            let header = ap (λ (l : Log D). l.header) log ∙ (b.2.1.header ∙ on.1.header_is) in
            record {
              nodes = ap (λ x. x.nodes) header;
              promise = ap (λ x. x.promise) header;
              accept = ap (λ x. x.accept) header;
              node = ap (λ x. x.node) header;
              digest = ap (λ x. x.digest) header;
              honest = (
                λ is. on.1.honest.0 (honest.0 (subst (λ (l : Log D). disk.is_honest l.disk) log is)),
                λ is. subst (λ (l : Log D). disk.is_honest l.disk) (sym log) (honest.1 (on.1.honest.1 is)),
              );
              fit = x.2.fit (here (MayBeAsked disk) ran i x.0 fit x.1);
            };
      };
    }

    pub has_stopped : (number : ℕ) (fault : Fault) → failed_of ran ≡ Some (number, fault) → HasStopped disk pair q source given begun ran number fault
    has_stopped number fault failed =
        let at = failed_at 0 (map (λ (n : FarmNode D O H h). fault_in n.halted) ran) number fault failed in
        let counted = at.1 in
        let number_is : at.0 ≡ number = omega (arith, counted) in
        let x = mapped (λ (n : FarmNode D O H h). fault_in n.halted) ran at.0 (Some fault) at.2 in
        let b = zipped (NodeCameBack disk turns) begun ran at.0 x.0 turned x.1 in
        let program : arc_value b.0.program ≡ arc_value source.translated = here (λ n. arc_value n.program ≡ arc_value source.translated) begun at.0 b.0 opened.program b.1 in
        record {
          first = b.0;
          node = x.0;
          there_first = subst (λ k. slice_get begun k ≡ Some b.0) number_is b.1;
          there = subst (λ k. slice_get ran k ≡ Some x.0) number_is x.1;
          stopped = x.2;
          cause = subst (λ (p : Program FunctionData). IsStoppedFor disk p.functions b.0.log x.0.log (fours_of x.0.seats.items) x.0.halted) program
              (b.2.2 (here (λ n. n.halted ≡ None) begun at.0 b.0 opened.going b.1));
        }
