-- What is linked in a farm that opens again from what a crash left.
use Rattle.std.proofs.Common.{◌≡◌, ℕ, Bool, true, false, cond, eqb, ◌&&◌, IsTrue, List, [], ◌∷◌, refl, sym, ap, ◌∙◌, subst, arith}
use Rattle.std.proofs.lemmas.Bool.{and_parts, eqb-true}
use Rattle.paxos_core_world.specs.Farm.{Farm, FarmLabel, Offering, Stepping, Offer, IsPass, FarmAllowed, IsFarmRun, farm_after, farm_opening, farm_reached}
use Rattle.paxos_core_world.specs.KeptPart.{KeptPart}
use Rattle.paxos_core_world.specs.Quorum.{Sizes}
use Rattle.paxos_core_world.specs.Run.{IsRun, reached}
use Rattle.paxos_core_world.specs.Step.{Label, Offers, Allowed, after}
use Rattle.paxos_core_world.specs.World.{World, Has}
use Rattle.paxos_core_invariant.specs.Invariant.{Invariant}
use Rattle.paxos_core_theorem.proofs.Chains.{learned_offered, offer_fixed}
use Rattle.paxos_core_theorem.proofs.Theorem.{holds}
use Rattle.paxos_core_node_steps.specs.Reached.{IsReached}
use Rattle.paxos_core_crash.specs.Crash.{IsRecorded}
use Rattle.paxos_core_crash.specs.FarmCrash.{CrashesLinkAsBefore}
use Rattle.paxos_core_crash.proofs.CrashLemmas.{crashes_learn_as_before}
use Rattle.paxos_core_crash.proofs.OthersLemmas.{offered_stays}

-- who has offered has offered after any steps
offered_along : (w : World) (steps : List Label) (j : ℕ) → IsTrue (w.nodes j).offered → IsTrue ((reached w steps).nodes j).offered
offered_along w [] j h = h
offered_along w (l ∷ steps) j h = offered_stays (reached w steps) l j (offered_along w steps j h)

-- ---- a room of a farm, along a run of the farm

module _ (q : Sizes) (rtl : ℕ → List ℕ) (start : Farm) (g m : ℕ) where
  -- steps of the room lead to this world
  record LeadTo (w : World) : Type 0 where
    pub steps : List Label
    pub run : IsRun q (start.rooms g m) steps
    pub world : w ≡ reached (start.rooms g m) steps

  one_more : (farm : Farm) (f k : ℕ) (l : Label) (x : Bool) → (eqb g f && eqb m k) ≡ x → Allowed q (farm.rooms f k) l → LeadTo (farm.rooms g m)
      → LeadTo (cond x (after (farm.rooms f k) l) (farm.rooms g m))
  one_more farm f k l false e ok h = h
  one_more farm f k l true e ok h =
      let both = and_parts (eqb g f) (eqb m k) e in
      let function : f ≡ g = sym (eqb-true g f both.0) in
      let pass : k ≡ m = sym (eqb-true m k both.1) in
      let there : farm.rooms f k ≡ reached (start.rooms g m) h.steps =
      ap (λ x. farm.rooms x k) function ∙ ap (λ x. farm.rooms g x) pass ∙ h.world in
      record {
        steps = l ∷ h.steps;
        run = (h.run, subst (λ (w : World). Allowed q w l) there ok);
        world = ap (λ (w : World). after w l) there;
      }

  step_leads : (farm : Farm) (l : FarmLabel) → FarmAllowed q rtl farm l → LeadTo (farm.rooms g m) → LeadTo ((farm_after farm l).rooms g m)
  step_leads farm (Offering f k i offer) ok h = one_more farm f k (Offers i) (eqb g f && eqb m k) refl ok.1 h
  step_leads farm (Stepping f k step) ok h = one_more farm f k step (eqb g f && eqb m k) refl ok.2 h

  room_leads : (steps : List FarmLabel) → IsFarmRun q rtl start steps → LeadTo ((farm_reached start steps).rooms g m)
  room_leads [] run = record { steps = []; run = tt; world = refl }
  room_leads (l ∷ steps) run = step_leads (farm_reached start steps) l run.1 (room_leads steps run.0)

  -- an offer that was made stands
  offer_stands : (steps : List FarmLabel) (j : ℕ) → IsFarmRun q rtl start steps → IsTrue ((start.rooms g m).nodes j).offered
      → (farm_reached start steps).offers g m j ≡ start.offers g m j
  offer_stands [] j run made = refl
  offer_stands (l ∷ steps) j run made =
      let there = room_leads steps run.0 in
      let still : IsTrue (((farm_reached start steps).rooms g m).nodes j).offered =
      subst (λ (w : World). IsTrue (w.nodes j).offered) (sym there.world) (offered_along (start.rooms g m) there.steps j made) in
      offer_fixed q rtl (farm_reached start steps) l run.1 g m j still ∙ offer_stands steps j run.0 made

-- ---- the promise

reached_invariant : (q : Sizes) (w : World) → IsReached q w → Invariant q w
reached_invariant q w r = subst (λ (v : World). Invariant q v) (sym r.world) (holds q r.nodes r.steps r.run)

pub crashes_link_as_before : CrashesLinkAsBefore
crashes_link_as_before q rtl farm left kept later crash run i j f one two before after =
    let fourth : IsPass 4 = (omega arith, omega arith) in
    let old = farm.rooms f 4 in
    let room = crash.rooms f 4 fourth in
    let start = farm_opening q.nodes left kept in
    let v = before.values 4 in
    let u = after.values 4 in
    let leads = room_leads q rtl start f 4 later run in
    let learned : Has (j, u) (reached (start.rooms f 4) leads.steps).learned =
    subst (λ (w : World). Has (j, u) w.learned) leads.world (after.learned 4 fourth) in
    let same : v ≡ u = crashes_learn_as_before q old (left f 4) leads.steps room leads.run i j v u (before.learned 4 fourth) learned in
    let made = learned_offered q old (reached_invariant q old room.reached) i v (before.learned 4 fourth) in
    let it : IsRecorded q old v (left f 4 v) = room.recorded v made.0 in
    let offered : IsTrue (left f 4 v).offered =
    subst (λ (k : KeptPart). IsTrue k.offered) it.kept (offered_along old it.steps v made.1) in
    before.is_output
    ∙ ap (λ (o : Offer). o.output) (sym (offer_stands q rtl start f 4 later v run offered ∙ crash.offers f 4 v fourth made.1))
    ∙ ap (λ x. ((farm_reached start later).offers f 4 x).output) same
    ∙ sym after.is_output
