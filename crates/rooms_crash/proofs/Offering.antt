-- An offer stands in a world no later than the steps of its node: who else steps offers nothing for it.
use Rattle.std.proofs.Common.{◌≡◌, ◌≢◌, ℕ, Bool, true, false, cond, eqb, leb, IsTrue, List, [], ◌∷◌, ◌++◌, Option, Some, None, refl, sym, ap, ◌∙◌, subst, inl, inr}
use Rattle.std.proofs.lemmas.Bool.{eqb-true}
use Rattle.paxos_core_world.specs.KeptPart.{KeptPart, with_offer, with_start, with_promise, with_vote, vote}
use Rattle.paxos_core_world.specs.Run.{reached}
use Rattle.paxos_core_world.specs.Step.{Label, Offers, Starts, Promises, Proposes, Accepts, Learns, Restarts, after}
use Rattle.paxos_core_world.specs.World.{World}
use Rattle.paxos_core_world.specs.declared.vote.Vote.{Vote}
use Rattle.paxos_core_node_steps.specs.Acceptor.{accepts, promises}
use Rattle.paxos_core_node_steps.specs.Learner.{after_promise}
use Rattle.paxos_core_node_steps.specs.NodeState.{NodeState}
use Rattle.paxos_core_node_steps.specs.Proposer.{next_ballot}
use Rattle.paxos_core_node_steps.specs.Taken.{learns_from, taken_by_restart}
use Rattle.paxos_core_node_steps.specs.declared.step.Act.{Act}
use Rattle.paxos_core_node_steps.specs.declared.step.Act.TheVariants as act
use Rattle.rooms_words.specs.Events.{labels_of}
use Rattle.rooms_words.specs.Heard.{taken_by_hearing, taken_on_vote}
use Rattle.rooms_words.specs.Steps.{Advances, AreTakenBy}
use Rattle.rooms_words.specs.declared.view.View.{View}
use Rattle.rooms_words.specs.Views.{AreStepsOfOthers, IsStepOfOther, world_after}
use Rattle.rooms_words.proofs.RunLemmas.{world_after-append, world_after-events}

-- with this step node i does not offer
abbrev pub LeavesOffer : ℕ → Label → Type 0
LeavesOffer i (Offers j) = i ≢ j
LeavesOffer i (Starts j b) = Unit {0}
LeavesOffer i (Promises a b) = Unit {0}
LeavesOffer i (Proposes b v) = Unit {0}
LeavesOffer i (Accepts a b v) = Unit {0}
LeavesOffer i (Learns j v) = Unit {0}
LeavesOffer i (Restarts j) = Unit {0}

abbrev pub LeaveOffer : ℕ → List Label → Type 0
LeaveOffer i [] = Unit {0}
LeaveOffer i (l ∷ ls) = LeavesOffer i l × LeaveOffer i ls

offered_of_other : (nodes : ℕ → KeptPart) (i j : ℕ) (k : KeptPart) (t : Bool) → i ≢ j → eqb i j ≡ t
    → IsTrue (cond t k (nodes i)).offered → IsTrue (nodes i).offered
offered_of_other nodes i j k true d e o = absurd (d (eqb-true i j e))
offered_of_other nodes i j k false d e o = o

offered_as_before : (nodes : ℕ → KeptPart) (i j : ℕ) (k : KeptPart) (t : Bool) → k.offered ≡ (nodes j).offered → eqb i j ≡ t
    → IsTrue (cond t k (nodes i)).offered → IsTrue (nodes i).offered
offered_as_before nodes i j k true same e o =
    subst (λ (x : ℕ). IsTrue (nodes x).offered) (sym (eqb-true i j e)) (subst (λ (b : Bool). IsTrue b) same o)
offered_as_before nodes i j k false same e o = o

offer_stood_once : (w : World) (l : Label) (i : ℕ) → LeavesOffer i l → IsTrue ((after w l).nodes i).offered → IsTrue (w.nodes i).offered
offer_stood_once w (Offers j) i d o = offered_of_other w.nodes i j (with_offer (w.nodes j)) (eqb i j) d refl o
offer_stood_once w (Starts j b) i d o = offered_as_before w.nodes i j (with_start b (w.nodes j)) (eqb i j) refl refl o
offer_stood_once w (Promises j b) i d o = offered_as_before w.nodes i j (with_promise b (w.nodes j)) (eqb i j) refl refl o
offer_stood_once w (Proposes b v) i d o = o
offer_stood_once w (Accepts j b v) i d o = offered_as_before w.nodes i j (with_vote (vote b v) (w.nodes j)) (eqb i j) refl refl o
offer_stood_once w (Learns j v) i d o = o
offer_stood_once w (Restarts j) i d o = o

offer_stood : (i : ℕ) (w : World) (ls : List Label) → LeaveOffer i ls → IsTrue ((reached w ls).nodes i).offered → IsTrue (w.nodes i).offered
offer_stood i w [] h o = o
offer_stood i w (l ∷ ls) h o = offer_stood i w ls h.1 (offer_stood_once (reached w ls) l i h.0 o)

-- ---- whose steps leave it

other_leaves : (n i : ℕ) (l : Label) → IsStepOfOther n i l → LeavesOffer i l
other_leaves n i (Offers j) h = λ (e : i ≡ j). h.2 (e ∙ h.1)
other_leaves n i (Starts j b) h = tt
other_leaves n i (Promises a b) h = tt
other_leaves n i (Proposes b v) h = tt
other_leaves n i (Accepts a b v) h = tt
other_leaves n i (Learns j v) h = tt
other_leaves n i (Restarts j) h = tt

others_leave : (n i : ℕ) (ls : List Label) → AreStepsOfOthers n i ls → LeaveOffer i ls
others_leave n i [] h = tt
others_leave n i (l ∷ ls) h = (other_leaves n i l h.0, others_leave n i ls h.1)

one_leaves : (t : Bool) (i : ℕ) (l : Label) → LeavesOffer i l → LeaveOffer i (cond t (l ∷ []) [])
one_leaves true i l h = (h, tt)
one_leaves false i l h = tt

vote_leaves : (i : ℕ) (s : NodeState) (j : ℕ) (x : Option Vote) → LeaveOffer i (taken_on_vote s j x)
vote_leaves i s j None = tt
vote_leaves i s j (Some x) = one_leaves (learns_from s j (vote x.ballot x.value)) i (Learns s.me x.value) tt

pub hearing_leaves : (i : ℕ) (s : NodeState) (j p : ℕ) (x : Option Vote) → LeaveOffer i (taken_by_hearing s j p x)
hearing_leaves i s j p x = vote_leaves i (after_promise s j p x) j x

pub restart_leaves : (i : ℕ) (s : NodeState) → LeaveOffer i (taken_by_restart s)
restart_leaves i s = (tt, tt)

-- so do the steps of an act but those of a proposal
pub act_leaves : (i : ℕ) (s : NodeState) (a : Act) (ls : List Label) → (a ≡ act.Propose → ⊥) → AreTakenBy s a ls → LeaveOffer i ls
act_leaves i s act.Start ls other (inl e) =
    subst (λ (l : List Label). LeaveOffer i l) (sym e) (one_leaves (leb (next_ballot s) 65535) i (Starts s.me (next_ballot s)) tt)
act_leaves i s (act.Promise b) ls other (inl e) =
    subst (λ (l : List Label). LeaveOffer i l) (sym e) (one_leaves (promises s b) i (Promises s.me b) tt)
act_leaves i s act.Propose ls other (inl e) = absurd (other refl)
act_leaves i s (act.Accept b v) ls other (inl e) =
    subst (λ (l : List Label). LeaveOffer i l) (sym e) (one_leaves (accepts s (vote b v)) i (Accepts s.me b v) tt)
act_leaves i s a ls other (inr e) = absurd (other e.0)

-- an offer of the seat's node that stands where a view has come to stood there before
pub stood_before : (v : View) (steps : List Label) (t : NodeState) (w : View) → Advances v steps t w → LeaveOffer v.node.me steps
    → IsTrue ((world_after v.opening w.seen).nodes v.node.me).offered → IsTrue ((world_after v.opening v.seen).nodes v.node.me).offered
stood_before v steps t w a leave o =
    let between : World = reached (world_after v.opening v.seen) (labels_of a.between) in
    let e : world_after v.opening w.seen ≡ reached (reached (world_after v.opening v.seen) (labels_of a.between)) steps =
    ap (λ r. world_after v.opening r) a.seen
    ∙ (world_after-events v.opening steps (a.between ++ v.seen) ∙ ap (λ (x : World). reached x steps) (world_after-append v.opening a.between v.seen)) in
    offer_stood v.node.me (world_after v.opening v.seen) (labels_of a.between)
    (others_leave v.opening.quorums.nodes v.node.me (labels_of a.between) a.others)
    (offer_stood v.node.me (reached (world_after v.opening v.seen) (labels_of a.between)) steps leave
    (subst (λ (x : World). IsTrue (x.nodes v.node.me).offered) e o))
