-- The farm: nodes that link a function link the same code, and the offers that they learned chain.
use Rattle.std.proofs.Common.{◌≡◌, ℕ, zero, suc, ◌<◌, ◌≤◌, ◌⊎◌, Bool, true, false, cond, ◌&&◌, IsTrue, List, [], ◌∷◌, inl, inr, refl, sym, ap, subst, ◌∙◌, arith, eqb, eqb-true, eq-eqb}
use Rattle.std.proofs.lemmas.Bool.{and_parts}
use Rattle.paxos_core_world.specs.Farm.{Farm, FarmLabel, Offering, Stepping, Offer, IsPass, IsInput, IsNoOffer, FarmAllowed, IsFarmRun, farm_after, farm_reached, farm_opening, empty_farm, put_room, put_offer, Follows}
use Rattle.paxos_core_world.specs.KeptPart.{KeptPart, with_offer}
use Rattle.paxos_core_world.specs.Quorum.{Sizes, AreQuorums}
use Rattle.paxos_core_world.specs.Step.{Label, Offers, Allowed, after, HasOffered}
use Rattle.paxos_core_world.specs.World.{World, Has, no_nodes}
use Rattle.paxos_core_invariant.specs.Invariant.{Invariant}
use Rattle.paxos_core_invariant.proofs.Keeps.{keeps}
use Rattle.paxos_core_invariant.proofs.Moves.{put_cases, node_cases, learned_stays}
use Rattle.paxos_core_invariant.proofs.Opens.{opens}
use Rattle.paxos_core_theorem.proofs.Theorem.{learns_one, nothing_settled, chosen_backed}
use Rattle.paxos_core_theorem.specs.OneCode.{IsSettledFarmRun, LinksOne, RunsLinkOne, RunsChain}

-- ---- one room of many

room_cases : (P : World → Type 0) (rooms : ℕ → ℕ → World) (f k : ℕ) (w : World) (g m : ℕ)
    → (g ≡ f → m ≡ k → P w) → P (rooms g m) → P (put_room rooms f k w g m)
room_cases P rooms f k w g m here there = cases (eqb g f && eqb m k) refl
  where
    cases : (x : Bool) → (eqb g f && eqb m k) ≡ x → P (cond x w (rooms g m))
    cases true e = let both = and_parts (eqb g f) (eqb m k) e in here (eqb-true g f both.0) (eqb-true m k both.1)
    cases false e = there

offer_cases : (P : Offer → Type 0) (offers : ℕ → ℕ → ℕ → Offer) (f k i : ℕ) (o : Offer) (g m j : ℕ)
    → (g ≡ f → m ≡ k → j ≡ i → P o) → P (offers g m j) → P (put_offer offers f k i o g m j)
offer_cases P offers f k i o g m j here there = cases (eqb g f && (eqb m k && eqb j i)) refl
  where
    cases : (x : Bool) → (eqb g f && (eqb m k && eqb j i)) ≡ x → P (cond x o (offers g m j))
    cases true e =
        let outer = and_parts (eqb g f) (eqb m k && eqb j i) e in
        let inner = and_parts (eqb m k) (eqb j i) outer.1 in
        here (eqb-true g f outer.0) (eqb-true m k inner.0) (eqb-true j i inner.1)
    cases false e = there

-- ---- every room keeps its invariant

abbrev pub HaveInvariant : Sizes → Farm → Type 0
HaveInvariant q farm = (g m : ℕ) → IsPass m → Invariant q (farm.rooms g m)

room_keeps : (q : Sizes) (farm : Farm) (f k : ℕ) (l : Label) → ((g m : ℕ) → IsPass m → Invariant q (farm.rooms g m)) → IsPass k
    → Allowed q (farm.rooms f k) l → (g m : ℕ) → IsPass m → Invariant q (put_room farm.rooms f k (after (farm.rooms f k) l) g m)
room_keeps q farm f k l s pass ok g m other =
    room_cases (Invariant q) farm.rooms f k (after (farm.rooms f k) l) g m (λ _ _. keeps q (farm.rooms f k) l (s f k pass) ok) (s g m other)

pub farm_keeps : (q : Sizes) (rtl : ℕ → List ℕ) (farm : Farm) (l : FarmLabel) → HaveInvariant q farm → FarmAllowed q rtl farm l → HaveInvariant q (farm_after farm l)
farm_keeps q rtl farm (Offering f k i offer) s ok = room_keeps q farm f k (Offers i) s ok.0 ok.1
farm_keeps q rtl farm (Stepping f k step) s ok = room_keeps q farm f k step s ok.0 ok.2

pub farm_keeps_run : (q : Sizes) (rtl : ℕ → List ℕ) (farm : Farm) (ls : List FarmLabel) → HaveInvariant q farm → IsFarmRun q rtl farm ls → HaveInvariant q (farm_reached farm ls)
farm_keeps_run q rtl farm [] s run = s
farm_keeps_run q rtl farm (l ∷ ls) s run = farm_keeps q rtl (farm_reached farm ls) l (farm_keeps_run q rtl farm ls s run.0) run.1

pub farm_holds : (q : Sizes) (rtl : ℕ → List ℕ) (nodes : ℕ → ℕ → ℕ → KeptPart) (offers : ℕ → ℕ → ℕ → Offer) (steps : List FarmLabel)
    → IsSettledFarmRun q rtl nodes offers steps → HaveInvariant q (farm_reached (farm_opening q.nodes nodes offers) steps)
farm_holds q rtl nodes offers steps h =
    farm_keeps_run q rtl (farm_opening q.nodes nodes offers) steps (λ g m pass. opens q (nodes g m) h.sizes (h.settled g m pass)) h.run

-- ---- one code

fourth : IsPass 4
fourth = (omega arith, omega arith)

pub links_one : (q : Sizes) (farm : Farm) → HaveInvariant q farm → LinksOne farm
links_one q farm s i j f left right h k =
    let same = learns_one q (farm.rooms f 4) (s f 4 fourth) i j (h.values 4) (k.values 4) (h.learned 4 fourth) (k.learned 4 fourth) in
    h.is_output ∙ (ap (λ (v : ℕ). (farm.offers f 4 v).output) same ∙ sym k.is_output)

-- ---- offers that chain

-- every offer that was made has the input that its room asks for
abbrev pub HaveInputs : (ℕ → List ℕ) → Farm → Type 0
HaveInputs rtl farm = (g m j : ℕ) → IsTrue ((farm.rooms g m).nodes j).offered → IsInput rtl farm g m j (farm.offers g m j).input

pub learned_offered : (q : Sizes) (w : World) → Invariant q w → (i v : ℕ) → Has (i, v) w.learned → HasOffered q.nodes w.nodes v
learned_offered q w s i v h = let chosen = s.learned i v h in s.offered chosen.0 v (chosen_backed q w s.sizes chosen.0 v chosen.1)

-- an offer that was made stays
pub offer_fixed : (q : Sizes) (rtl : ℕ → List ℕ) (farm : Farm) (l : FarmLabel) → FarmAllowed q rtl farm l → (g m j : ℕ)
    → IsTrue ((farm.rooms g m).nodes j).offered → (farm_after farm l).offers g m j ≡ farm.offers g m j
offer_fixed q rtl farm (Offering f k i offer) ok g m j made =
    offer_cases (λ o. o ≡ farm.offers g m j) farm.offers f k i offer g m j
    (λ e r t. absurd (let free : ((farm.rooms f k).nodes i).offered ≡ false = ok.1.1 in
    let here : ((farm.rooms f k).nodes i).offered ≡ true = (let made_ : ((farm.rooms g m).nodes j).offered ≡ true = made in cc) in cc))
    refl
offer_fixed q rtl farm (Stepping f k step) ok g m j made = refl

pub farm_learned_stays : (farm : Farm) (l : FarmLabel) (g m i v : ℕ) → Has (i, v) (farm.rooms g m).learned → Has (i, v) ((farm_after farm l).rooms g m).learned
farm_learned_stays farm (Offering f k i offer) g m j v h =
    room_cases (λ w. Has (j, v) w.learned) farm.rooms f k (after (farm.rooms f k) (Offers i)) g m
    (λ e r. subst (λ (x : ℕ). Has (j, v) (farm.rooms x k).learned) e (subst (λ (x : ℕ). Has (j, v) (farm.rooms g x).learned) r h)) h
farm_learned_stays farm (Stepping f k step) g m j v h =
    room_cases (λ w. Has (j, v) w.learned) farm.rooms f k (after (farm.rooms f k) step) g m
    (λ e r. learned_stays (farm.rooms f k) step j v
    (subst (λ (x : ℕ). Has (j, v) (farm.rooms x k).learned) e (subst (λ (x : ℕ). Has (j, v) (farm.rooms g x).learned) r h))) h

input_stays : (q : Sizes) (rtl : ℕ → List ℕ) (farm : Farm) (l : FarmLabel) → HaveInvariant q farm → FarmAllowed q rtl farm l → (g m j : ℕ) (input : List ℕ)
    → m ≤ 4 → IsInput rtl farm g m j input → IsInput rtl (farm_after farm l) g m j input
input_stays q rtl farm l s ok g zero j input last h = h
input_stays q rtl farm l s ok g (suc zero) j input last h = h
input_stays q rtl farm l s ok g (suc (suc k)) j input last h =
    let made = learned_offered q (farm.rooms g (suc k)) (s g (suc k) (omega arith, omega arith)) j h.0 h.1 in
    (h.0, farm_learned_stays farm l g (suc k) j h.0 h.1, h.2 ∙ sym (ap (λ (o : Offer). o.output) (offer_fixed q rtl farm l ok g (suc k) h.0 made.1)))

-- whoever has offered after a step had offered before it, or the step is that offer
abbrev pub OfferWas : Farm → FarmLabel → ℕ → ℕ → ℕ → Type 0
OfferWas farm l g m j = IsTrue ((farm.rooms g m).nodes j).offered ⊎ ((o : Offer) × (l ≡ Offering g m j o))

no_offer_was : (w : World) (step : Label) (j : ℕ) → IsNoOffer step → IsTrue ((after w step).nodes j).offered → IsTrue (w.nodes j).offered
no_offer_was w step j none =
    node_cases w step j (λ k. IsTrue k.offered → IsTrue (w.nodes j).offered) (λ h. h)
    (λ e _. absurd (subst IsNoOffer e none)) (λ b _ h. h) (λ b _ h. h) (λ b v _ h. h)

pub offer_was : (q : Sizes) (rtl : ℕ → List ℕ) (farm : Farm) (l : FarmLabel) → FarmAllowed q rtl farm l → (g m j : ℕ)
    → IsTrue (((farm_after farm l).rooms g m).nodes j).offered → OfferWas farm l g m j
offer_was q rtl farm (Offering f k i offer) ok g m j =
    room_cases (λ w. IsTrue (w.nodes j).offered → OfferWas farm (Offering f k i offer) g m j) farm.rooms f k (after (farm.rooms f k) (Offers i)) g m
    (λ e r. put_cases (λ p. IsTrue p.offered → OfferWas farm (Offering f k i offer) g m j) (farm.rooms f k).nodes i (with_offer ((farm.rooms f k).nodes i)) j
    (λ t _. inr (offer, (let one : f ≡ g = sym e in let two : k ≡ m = sym r in let three : i ≡ j = sym t in cc)))
    (λ _ h. inl (let before : ((farm.rooms f k).nodes j).offered ≡ true = h in cc)))
    (λ h. inl h)
offer_was q rtl farm (Stepping f k step) ok g m j =
    room_cases (λ w. IsTrue (w.nodes j).offered → OfferWas farm (Stepping f k step) g m j) farm.rooms f k (after (farm.rooms f k) step) g m
    (λ e r h. inl (let before : ((farm.rooms f k).nodes j).offered ≡ true = no_offer_was (farm.rooms f k) step j ok.1 h in cc))
    (λ h. inl h)

-- the offer that a step makes has the input that its room asks for
pub input_new : (q : Sizes) (rtl : ℕ → List ℕ) (farm : Farm) (l : FarmLabel) (g m j : ℕ) (o : Offer) → l ≡ Offering g m j o → FarmAllowed q rtl farm l
    → (m ≤ 4) × IsInput rtl farm g m j o.input × ((farm_after farm l).offers g m j ≡ o)
input_new q rtl farm l g m j o e ok =
    let step : FarmAllowed q rtl farm (Offering g m j o) = subst (FarmAllowed q rtl farm) e ok in
    let there : (farm_after farm (Offering g m j o)).offers g m j ≡ o =
    put_here farm.offers g m j o in
    (step.0.1, step.2, subst (λ (x : FarmLabel). (farm_after farm x).offers g m j ≡ o) (sym e) there)
  where
    put_here : (offers : ℕ → ℕ → ℕ → Offer) (g m j : ℕ) (o : Offer) → put_offer offers g m j o g m j ≡ o
    put_here offers g m j o = rw (eq-eqb g g refl, eq-eqb m m refl, eq-eqb j j refl) refl

-- the rooms of passes above 4 are never entered
abbrev IsUnused : Farm → Type 0
IsUnused farm = (g m j : ℕ) → IsTrue ((farm.rooms g m).nodes j).offered → m ≤ 4

unused_stays : (q : Sizes) (rtl : ℕ → List ℕ) (farm : Farm) (l : FarmLabel) → IsUnused farm → FarmAllowed q rtl farm l → IsUnused (farm_after farm l)
unused_stays q rtl farm l s ok g m j h = elim (offer_was q rtl farm l ok g m j h) [
  | inl before ↦ s g m j before
  | inr new ↦ (input_new q rtl farm l g m j new.0 new.1 ok).0
]

inputs_stay : (q : Sizes) (rtl : ℕ → List ℕ) (farm : Farm) (l : FarmLabel) → HaveInvariant q farm → IsUnused farm → HaveInputs rtl farm → FarmAllowed q rtl farm l
    → HaveInputs rtl (farm_after farm l)
inputs_stay q rtl farm l s unused inputs ok g m j h = elim (offer_was q rtl farm l ok g m j h) [
  | inl before ↦ subst (λ (o : Offer). IsInput rtl (farm_after farm l) g m j o.input) (sym (offer_fixed q rtl farm l ok g m j before))
      (input_stays q rtl farm l s ok g m j (farm.offers g m j).input (unused g m j before) (inputs g m j before))
  | inr new ↦ (
      let made = input_new q rtl farm l g m j new.0 new.1 ok in
      subst (λ (o : Offer). IsInput rtl (farm_after farm l) g m j o.input) (sym made.2)
      (input_stays q rtl farm l s ok g m j new.0.input made.0 made.1))
]

empty_invariant : (q : Sizes) → AreQuorums q → HaveInvariant q (empty_farm q.nodes)
empty_invariant q are g m pass = opens q no_nodes are (nothing_settled q)

inputs_along : (q : Sizes) (rtl : ℕ → List ℕ) (ls : List FarmLabel) → AreQuorums q → IsFarmRun q rtl (empty_farm q.nodes) ls
    → HaveInvariant q (farm_reached (empty_farm q.nodes) ls) × IsUnused (farm_reached (empty_farm q.nodes) ls) × HaveInputs rtl (farm_reached (empty_farm q.nodes) ls)
inputs_along q rtl [] are run = (empty_invariant q are, λ g m j h. absurd (let e : false ≡ true = h in cc), λ g m j h. absurd (let e : false ≡ true = h in cc))
inputs_along q rtl (l ∷ ls) are run =
    let before = inputs_along q rtl ls are run.0 in
    let farm = farm_reached (empty_farm q.nodes) ls in
    (farm_keeps q rtl farm l before.0 run.1, unused_stays q rtl farm l before.1 run.1, inputs_stay q rtl farm l before.0 before.1 before.2 run.1)

chain_later : (q : Sizes) (rtl : ℕ → List ℕ) (farm : Farm) → HaveInvariant q farm → HaveInputs rtl farm → (f k i v : ℕ) → 1 ≤ k → k < 4
    → Has (i, v) (farm.rooms f (suc k)).learned → Follows farm f k v
chain_later q rtl farm s inputs f zero i v first last h = absurd (omega arith)
chain_later q rtl farm s inputs f (suc k) i v first last h =
    let made = learned_offered q (farm.rooms f (suc (suc k))) (s f (suc (suc k)) (omega arith, omega arith)) i v h in
    let input = inputs f (suc (suc k)) v made.1 in
    record {
      value = input.0;
      node = v;
      learned = input.1;
      only = λ j u learned. learns_one q (farm.rooms f (suc k)) (s f (suc k) (omega arith, omega arith)) j v u input.0 learned input.1;
      input = input.2;
    }

-- ---- the promises

pub runs_link_one : RunsLinkOne
runs_link_one q rtl nodes offers steps h = links_one q (farm_reached (farm_opening q.nodes nodes offers) steps) (farm_holds q rtl nodes offers steps h)

pub runs_chain : RunsChain
runs_chain q rtl steps are run =
    let all = inputs_along q rtl steps are run in
    let farm = farm_reached (empty_farm q.nodes) steps in
    record {
      first = λ f i v h. all.2 f 1 v (learned_offered q (farm.rooms f 1) (all.0 f 1 (omega arith, omega arith)) i v h).1;
      later = chain_later q rtl farm all.0 all.2;
    }
