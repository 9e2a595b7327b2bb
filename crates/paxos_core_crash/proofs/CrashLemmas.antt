-- What a crash of all nodes leaves: the recorded steps are taken one node after another.
use Rattle.std.proofs.Common.{◌≡◌, ◌≢◌, ℕ, zero, suc, ◌<◌, ◌≤◌, ◌⊎◌, List, [], ◌++◌, sym, ap, ◌∙◌, subst, inl, inr, arith}
use Rattle.std.proofs.lemmas.Bool.{cases_eq}
use Rattle.paxos_core_world.specs.KeptPart.{KeptPart}
use Rattle.paxos_core_world.specs.Quorum.{Sizes}
use Rattle.paxos_core_world.specs.Run.{IsRun, reached}
use Rattle.paxos_core_world.specs.Settled.{Settled}
use Rattle.paxos_core_world.specs.Step.{Label}
use Rattle.paxos_core_world.specs.World.{World, Has, opening}
use Rattle.paxos_core_theorem.proofs.Reopens.{reached-append, run_append, reopenings_learn_as_before}
use Rattle.paxos_core_theorem.proofs.Theorem.{runs_stay_settled}
use Rattle.paxos_core_theorem.specs.Agreement.{world_of}
use Rattle.paxos_core_node_steps.specs.Reached.{IsReached}
use Rattle.paxos_core_node_steps.proofs.WorldLemmas.{grows_by}
use Rattle.paxos_core_crash.specs.Crash.{IsRecorded, IsLeftByCrash, IsLeftByRun, CrashesAreRuns, CrashesLearnAsBefore, CrashesLeaveSettled}
use Rattle.paxos_core_crash.proofs.OthersLemmas.{IsAheadBut, ahead_of_none, others_steps, run_ahead}
use Rattle.paxos_core_crash.proofs.SameLemmas.{settled_as, run_as}

-- a run from a world that can come about leads to one that can
pub reached_later : (q : Sizes) (w : World) (steps : List Label) → IsReached q w → IsRun q w steps → IsReached q (reached w steps)
reached_later q w steps r run = record {
  nodes = r.nodes;
  steps = steps ++ r.steps;
  run = record {
    sizes = r.run.sizes;
    settled = r.run.settled;
    run = run_append q (opening q.nodes r.nodes) steps r.steps r.run.run (subst (λ (v : World). IsRun q v steps) r.world run);
  };
  world = ap (λ (v : World). reached v steps) r.world ∙ sym (reached-append (opening q.nodes r.nodes) steps r.steps);
}

module _ (q : Sizes) (w : World) (kept : ℕ → KeptPart) (crash : IsLeftByCrash q w kept) where
  -- the first k nodes have taken what they recorded, and the others nothing
  record HaveTaken (k : ℕ) (steps : List Label) : Type 0 where
    pub run : IsRun q w steps
    pub taken : (i : ℕ) → i < k → (reached w steps).nodes i ≡ kept i
    pub rest : (j : ℕ) → k ≤ j → IsAheadBut q.nodes j w (reached w steps)

  next_takes : (k : ℕ) (steps : List Label) → k < q.nodes → HaveTaken k steps → (more : List Label) × HaveTaken (suc k) more
  next_takes k steps low h = (it.steps ++ steps, record { run = whole; taken = taken; rest = rest })
    where
      it : IsRecorded q w k (kept k)
      it = crash.recorded k low

      there : World
      there = reached w steps

      goes : IsRun q there it.steps × IsAheadBut q.nodes k (reached w it.steps) (reached there it.steps)
      goes = run_ahead q k w there it.steps (h.rest k (omega arith)) it.own it.run

      whole : IsRun q w (it.steps ++ steps)
      whole = run_append q w it.steps steps h.run goes.0

      ends : reached w (it.steps ++ steps) ≡ reached there it.steps
      ends = reached-append w it.steps steps

      at : (i : ℕ) → i < suc k → (i ≡ k) ⊎ (i ≢ k) → (reached there it.steps).nodes i ≡ kept i
      at i under (inl e) = subst (λ x. (reached there it.steps).nodes x ≡ kept x) (sym e) (goes.1.own ∙ it.kept)
      at i under (inr apart) =
          (others_steps q.nodes k i there there it.steps apart it.own (ahead_of_none q.nodes i there)).own
          ∙ h.taken i (omega (arith, under, apart))

      taken : (i : ℕ) → i < suc k → (reached w (it.steps ++ steps)).nodes i ≡ kept i
      taken i under = subst (λ (v : World). v.nodes i ≡ kept i) (sym ends) (at i under (cases_eq i k))

      rest : (j : ℕ) → suc k ≤ j → IsAheadBut q.nodes j w (reached w (it.steps ++ steps))
      rest j above =
          subst (λ (v : World). IsAheadBut q.nodes j w v) (sym ends)
          (others_steps q.nodes k j w there it.steps (λ e. omega (arith, above, e)) it.own (h.rest j (omega (arith, above))))

  all_take : (k : ℕ) → k ≤ q.nodes → (steps : List Label) × HaveTaken k steps
  all_take zero low = ([], record { run = tt; taken = λ i under. absurd (omega (arith, under)); rest = λ j above. ahead_of_none q.nodes j w })
  all_take (suc k) low =
      let before = all_take k (omega (arith, low)) in next_takes k before.0 (omega (arith, low)) before.1

  taken_by_all : (steps : List Label) × IsLeftByRun q w kept steps
  taken_by_all =
      let all = all_take q.nodes (omega arith) in (all.0, record { run = all.1.run; kept = all.1.taken })

-- ---- the promises

pub crashes_are_runs : CrashesAreRuns
crashes_are_runs q w kept crash = taken_by_all q w kept crash

pub crashes_leave_settled : CrashesLeaveSettled
crashes_leave_settled q w kept crash =
    let left = taken_by_all q w kept crash in
    let r = reached_later q w left.0 crash.reached left.1.run in
    let there : Settled q (reached w left.0).nodes =
    subst (λ (v : World). Settled q v.nodes) (sym r.world) (runs_stay_settled q r.nodes r.steps r.run) in
    settled_as q (reached w left.0).nodes kept left.1.kept there

pub crashes_learn_as_before : CrashesLearnAsBefore
crashes_learn_as_before q w kept later crash run i j v u before after =
    let left = taken_by_all q w kept crash in
    let r = reached_later q w left.0 crash.reached left.1.run in
    let end = world_of q.nodes r.nodes r.steps in
    let same : (i : ℕ) → i < q.nodes → kept i ≡ end.nodes i =
    λ i low. subst (λ (x : World). kept i ≡ x.nodes i) r.world (sym (left.1.kept i low)) in
    let again = run_as q kept end.nodes later same run in
    reopenings_learn_as_before q r.nodes r.steps later (record { first = r.run; again = again.0 }) i j v u
    (subst (λ (x : World). Has (i, v) x.learned) r.world ((grows_by w left.0).learned _ before))
    (subst (λ (ls : List (ℕ × ℕ)). Has (j, u) ls) again.1.learned after)
