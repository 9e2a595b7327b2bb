-- A farm that is opened again from the kept parts and offers that a run left goes on as that run would.
use Rattle.std.proofs.Common.{◌≡◌, ℕ, zero, suc, Bool, true, false, cond, ◌&&◌, IsTrue, List, [], ◌∷◌, ◌++◌, inl, inr, refl, sym, ap, subst, ◌∙◌, arith, eqb}
use Rattle.paxos_core_world.specs.Farm.{Farm, FarmLabel, Offering, Stepping, Offer, IsPass, IsInput, FarmAllowed, IsFarmRun, farm_after, farm_opening, farm_reached, reopened, KeepsOffers, put_room, Links}
use Rattle.paxos_core_world.specs.KeptPart.{KeptPart}
use Rattle.paxos_core_world.specs.Quorum.{Sizes, AreQuorums}
use Rattle.paxos_core_world.specs.Settled.{Settled}
use Rattle.paxos_core_world.specs.Step.{Label, Offers, Allowed, after}
use Rattle.paxos_core_theorem.proofs.Chains.{HaveInvariant, offer_was, offer_fixed, input_new, learned_offered, farm_learned_stays, farm_keeps_run, links_one}
use Rattle.paxos_core_invariant.proofs.Opens.{opens}
use Rattle.paxos_core_theorem.proofs.Reopens.{IsPartOf, allowed_carries, part_carries, opening_part}
use Rattle.paxos_core_theorem.specs.OneCode.{FarmReopeningsGoOn, FarmReopeningsLinkAsBefore}

-- the first farm is a part of the second: each of its rooms is, and the offers that were made are the same
pub record IsFarmPart (part farm : Farm) : Type 0 where
  pub rooms : (g m : ℕ) → IsPass m → IsPartOf (part.rooms g m) (farm.rooms g m)
  pub offers : KeepsOffers farm part.offers

-- what a step needs in the part, it has in the whole
input_carries : (q : Sizes) (rtl : ℕ → List ℕ) (part farm : Farm) → HaveInvariant q farm → IsFarmPart part farm → (f k i : ℕ) (input : List ℕ)
    → IsPass k → IsInput rtl part f k i input → IsInput rtl farm f k i input
input_carries q rtl part farm inv s f zero i input pass h = h
input_carries q rtl part farm inv s f (suc zero) i input pass h = h
input_carries q rtl part farm inv s f (suc (suc k)) i input pass h =
    let before : IsPass (suc k) = (omega arith, omega arith) in
    let learned = (s.rooms f (suc k) before).learned i h.0 h.1 in
    let made = learned_offered q (farm.rooms f (suc k)) (inv f (suc k) before) i h.0 learned in
    (h.0, learned, h.2 ∙ ap (λ (o : Offer). o.output) (s.offers f (suc k) h.0 before made.1))

farm_allowed_carries : (q : Sizes) (rtl : ℕ → List ℕ) (part farm : Farm) (l : FarmLabel) → HaveInvariant q farm → IsFarmPart part farm
    → FarmAllowed q rtl part l → FarmAllowed q rtl farm l
farm_allowed_carries q rtl part farm (Offering f k i offer) inv s ok = (
  ok.0,
  allowed_carries q (part.rooms f k) (farm.rooms f k) (Offers i) (s.rooms f k ok.0) ok.1,
  input_carries q rtl part farm inv s f k i offer.input ok.0 ok.2,
)
farm_allowed_carries q rtl part farm (Stepping f k step) inv s ok =
    (ok.0, ok.1, allowed_carries q (part.rooms f k) (farm.rooms f k) step (s.rooms f k ok.0) ok.2)

-- a step leaves the one a part of the other
room_carries : (q : Sizes) (part farm : Farm) (f k : ℕ) (l : Label) → HaveInvariant q farm → IsFarmPart part farm → IsPass k → Allowed q (part.rooms f k) l
    → (g m : ℕ) → IsPass m
    → IsPartOf (put_room part.rooms f k (after (part.rooms f k) l) g m) (put_room farm.rooms f k (after (farm.rooms f k) l) g m)
room_carries q part farm f k l inv s pass ok g m at = cases (eqb g f && eqb m k)
  where
    cases : (x : Bool) → IsPartOf (cond x (after (part.rooms f k) l) (part.rooms g m)) (cond x (after (farm.rooms f k) l) (farm.rooms g m))
    cases true = part_carries q (part.rooms f k) (farm.rooms f k) l (inv f k pass) (s.rooms f k pass) ok
    cases false = s.rooms g m at

rooms_carry : (q : Sizes) (rtl : ℕ → List ℕ) (part farm : Farm) (l : FarmLabel) → HaveInvariant q farm → IsFarmPart part farm → FarmAllowed q rtl part l
    → (g m : ℕ) → IsPass m → IsPartOf ((farm_after part l).rooms g m) ((farm_after farm l).rooms g m)
rooms_carry q rtl part farm (Offering f k i offer) inv s ok = room_carries q part farm f k (Offers i) inv s ok.0 ok.1
rooms_carry q rtl part farm (Stepping f k step) inv s ok = room_carries q part farm f k step inv s ok.0 ok.2

offers_carry : (q : Sizes) (rtl : ℕ → List ℕ) (part farm : Farm) (l : FarmLabel) → HaveInvariant q farm → IsFarmPart part farm → FarmAllowed q rtl part l
    → KeepsOffers (farm_after farm l) (farm_after part l).offers
offers_carry q rtl part farm l inv s ok g m j pass h =
    let whole = farm_allowed_carries q rtl part farm l inv s ok in
    elim (offer_was q rtl farm l whole g m j h) [
      | inl before ↦ (
          let there = subst (λ (nodes : ℕ → KeptPart). IsTrue (nodes j).offered) (sym (s.rooms g m pass).nodes) before in
          offer_fixed q rtl part l ok g m j there ∙ (s.offers g m j pass before ∙ sym (offer_fixed q rtl farm l whole g m j before)))
      | inr new ↦ (input_new q rtl part l g m j new.0 new.1 ok).2 ∙ sym (input_new q rtl farm l g m j new.0 new.1 whole).2
    ]

farm_part_carries : (q : Sizes) (rtl : ℕ → List ℕ) (part farm : Farm) (l : FarmLabel) → HaveInvariant q farm → IsFarmPart part farm → FarmAllowed q rtl part l
    → IsFarmPart (farm_after part l) (farm_after farm l)
farm_part_carries q rtl part farm l inv s ok =
    record { rooms = rooms_carry q rtl part farm l inv s ok; offers = offers_carry q rtl part farm l inv s ok }

-- ---- the runs

-- the steps of a reopened farm are steps of the farm that was left
farm_goes_on : (q : Sizes) (rtl : ℕ → List ℕ) (farm : Farm) (offers : ℕ → ℕ → ℕ → Offer) (steps : List FarmLabel) → HaveInvariant q farm → KeepsOffers farm offers
    → IsFarmRun q rtl (reopened q.nodes farm offers) steps
    → IsFarmRun q rtl farm steps × IsFarmPart (farm_reached (reopened q.nodes farm offers) steps) (farm_reached farm steps)
farm_goes_on q rtl farm offers [] inv same run =
    (tt, record { rooms = λ g m pass. opening_part q (farm.rooms g m) (inv g m pass); offers = same })
farm_goes_on q rtl farm offers (l ∷ steps) inv same run =
    let before = farm_goes_on q rtl farm offers steps inv same run.0 in
    let part = farm_reached (reopened q.nodes farm offers) steps in
    let whole = farm_reached farm steps in
    let stands = farm_keeps_run q rtl farm steps inv before.0 in
    ((before.0, farm_allowed_carries q rtl part whole l stands before.1 run.1), farm_part_carries q rtl part whole l stands before.1 run.1)

farm_reached-append : (farm : Farm) (later before : List FarmLabel) → farm_reached farm (later ++ before) ≡ farm_reached (farm_reached farm before) later
farm_reached-append farm [] before = refl
farm_reached-append farm (l ∷ later) before = ap (λ (x : Farm). farm_after x l) (farm_reached-append farm later before)

farm_run_append : (q : Sizes) (rtl : ℕ → List ℕ) (farm : Farm) (later before : List FarmLabel) → IsFarmRun q rtl farm before
    → IsFarmRun q rtl (farm_reached farm before) later → IsFarmRun q rtl farm (later ++ before)
farm_run_append q rtl farm [] before run more = run
farm_run_append q rtl farm (l ∷ later) before run more =
    (farm_run_append q rtl farm later before run more.0, subst (λ (x : Farm). FarmAllowed q rtl x l) (sym (farm_reached-append farm later before)) more.1)

-- ---- what was linked

-- what a node links in the part, it links in the whole
links_carry : (q : Sizes) (part farm : Farm) → HaveInvariant q farm → IsFarmPart part farm → (i f : ℕ) (code : List ℕ) → Links part i f code → Links farm i f code
links_carry q part farm inv s i f code h =
    let fourth : IsPass 4 = (omega arith, omega arith) in
    let learned = (s.rooms f 4 fourth).learned i (h.values 4) (h.learned 4 fourth) in
    let made = learned_offered q (farm.rooms f 4) (inv f 4 fourth) i (h.values 4) learned in
    record {
      values = h.values;
      learned = λ k pass. (s.rooms f k pass).learned i (h.values k) (h.learned k pass);
      is_output = h.is_output ∙ ap (λ (o : Offer). o.output) (s.offers f 4 (h.values 4) fourth made.1);
    }

links_stay : (q : Sizes) (rtl : ℕ → List ℕ) (farm : Farm) (l : FarmLabel) → HaveInvariant q farm → FarmAllowed q rtl farm l → (i f : ℕ) (code : List ℕ)
    → Links farm i f code → Links (farm_after farm l) i f code
links_stay q rtl farm l inv ok i f code h =
    let fourth : IsPass 4 = (omega arith, omega arith) in
    let made = learned_offered q (farm.rooms f 4) (inv f 4 fourth) i (h.values 4) (h.learned 4 fourth) in
    record {
      values = h.values;
      learned = λ k pass. farm_learned_stays farm l f k i (h.values k) (h.learned k pass);
      is_output = h.is_output ∙ sym (ap (λ (o : Offer). o.output) (offer_fixed q rtl farm l ok f 4 (h.values 4) made.1));
    }

links_along : (q : Sizes) (rtl : ℕ → List ℕ) (farm : Farm) (steps : List FarmLabel) → HaveInvariant q farm → IsFarmRun q rtl farm steps → (i f : ℕ) (code : List ℕ)
    → Links farm i f code → Links (farm_reached farm steps) i f code
links_along q rtl farm [] inv run i f code h = h
links_along q rtl farm (l ∷ steps) inv run i f code h =
    links_stay q rtl (farm_reached farm steps) l (farm_keeps_run q rtl farm steps inv run.0) run.1 i f code (links_along q rtl farm steps inv run.0 i f code h)

-- ---- the promises

opens_with : (q : Sizes) (nodes : ℕ → ℕ → ℕ → KeptPart) (offers : ℕ → ℕ → ℕ → Offer) → AreQuorums q → ((f k : ℕ) → IsPass k → Settled q (nodes f k))
    → HaveInvariant q (farm_opening q.nodes nodes offers)
opens_with q nodes offers are settled f k pass = opens q (nodes f k) are (settled f k pass)

pub farm_reopenings_go_on : FarmReopeningsGoOn
farm_reopenings_go_on q rtl nodes offers kept before later start h =
    let farm = farm_opening q.nodes nodes offers in
    let left = farm_reached farm before in
    let inv = farm_keeps_run q rtl farm before (opens_with q nodes offers start.sizes start.settled) h.first in
    farm_run_append q rtl farm later before h.first (farm_goes_on q rtl left kept later inv h.offers h.again).0

pub farm_reopenings_link_as_before : FarmReopeningsLinkAsBefore
farm_reopenings_link_as_before q rtl nodes offers kept before later start h i j f left right one two =
    let farm = farm_opening q.nodes nodes offers in
    let old = farm_reached farm before in
    let inv = farm_keeps_run q rtl farm before (opens_with q nodes offers start.sizes start.settled) h.first in
    let on = farm_goes_on q rtl old kept later inv h.offers h.again in
    let stands = farm_keeps_run q rtl old later inv on.0 in
    links_one q (farm_reached old later) stands i j f left right (links_along q rtl old later inv on.0 i f left one)
    (links_carry q (farm_reached (reopened q.nodes old kept) later) (farm_reached old later) stands on.1 j f right two)
