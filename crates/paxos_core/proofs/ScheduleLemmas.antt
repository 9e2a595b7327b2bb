-- A schedule is a run of the protocol.
use Rattle.std.proofs.Common.{◌≡◌, ℕ, ◌<◌, Bool, true, false, cond, eqb, arith, List, [], ◌∷◌, ◌++◌, Option, Some, None, refl, sym, ap, ◌∙◌, subst, inl, inr}
use Rattle.std.specs.Option.{option_to_list}
use Rattle.std.proofs.lemmas.Bool.{leb-true, eqb-true, eqb-false, cond-true, cond-false, cases_Bool}
use Rattle.paxos_core_world.specs.KeptPart.{KeptPart, vote}
use Rattle.paxos_core_world.specs.Quorum.{Sizes, AreQuorums}
use Rattle.paxos_core_world.specs.Run.{reached}
use Rattle.paxos_core_world.specs.Settled.{Settled}
use Rattle.paxos_core_world.specs.Step.{Label, Offers, Starts, Promises, Accepts, Learns}
use Rattle.paxos_core_world.specs.World.{World, Has, opening}
use Rattle.paxos_core_world.specs.declared.msg.Msg.{Msg}
use Rattle.paxos_core_world.specs.declared.msg.Msg.TheVariants.{Prepare, Promise, Propose, Accepted}
use Rattle.paxos_core_world.proofs.Quorums.{member_of}
use Rattle.paxos_core_late_offers.specs.Agreement.{IsSettledRun}
use Rattle.paxos_core_late_offers.proofs.Reopens.{reached-append, run_append}
use Rattle.paxos_core_late_offers.proofs.Theorem.{holds, runs_learn_one}
use Rattle.paxos_core_late_offers.specs.Acceptor.{promises, accepts}
use Rattle.paxos_core_late_offers.specs.Belongs.{Belongs}
use Rattle.paxos_core.specs.Call.{Call, Offer, Start, Proposal, On, Restart, has_ballot, after_call, answer_to, taken_by}
use Rattle.paxos_core_late_offers.specs.NodeState.{NodeState}
use Rattle.paxos_core_late_offers.specs.Proposer.{next_ballot, started, next_proposal, propose_message}
use Rattle.paxos_core_late_offers.specs.Reached.{IsReached}
use Rattle.paxos_core.specs.Play.{AllLearned}
use Rattle.paxos_core.specs.Schedule.{Room, opened, NodeCall, put_node, played, WasSent, IsSchedule, steps_of, IsPlayed, AllLearnOne}
use Rattle.paxos_core_late_offers.specs.Taken.{proposes, taken_by_start, learns_from}
use Rattle.paxos_core_late_offers.specs.Takes.{Takes, AreStepsOf}
use Rattle.paxos_core_late_offers.proofs.BelongsLemmas.{belongs_with, belongs_after_others}
use Rattle.paxos_core.proofs.CallLemmas.{IsNode, node_with-is, after_call-is}
use Rattle.paxos_core_late_offers.proofs.ReachedLemmas.{learned_one}
use Rattle.paxos_core_late_offers.proofs.TakesLemmas.{offer_takes, start_takes, propose_takes, on_takes, restart_takes}

-- ---- each call takes its steps

start_if : (t : Bool) (z : Sizes) (w : World) (s : NodeState) → IsReached z w → Belongs z w s → has_ballot s ≡ t → Takes z w (cond t (taken_by_start s) []) (cond t (started s) s) (cond t (Some (Prepare (next_ballot s))) None)
start_if true z w s r h t = start_takes s (leb-true (next_ballot s) 65535 t) z w r h
start_if false z w s r h t = record { run = tt; own = tt; belongs = h; sent = tt }

pub call_takes : (z : Sizes) (w : World) (s : NodeState) (c : Call) → IsReached z w → Belongs z w s → WasSent w.sent c → Takes z w (taken_by s c) (after_call s c) (answer_to s c)
call_takes z w s Offer r h m = offer_takes s z w r h
call_takes z w s Start r h m = start_if (has_ballot s) z w s r h refl
call_takes z w s Proposal r h m = propose_takes s z w r h
call_takes z w s (On message) r h m = on_takes s message z w r h m
call_takes z w s Restart r h m = restart_takes s s.kept z w h.number h.quorums h.kept

-- ---- what is sent is the answer

sent_by_offer : (t : Bool) (i : ℕ) (w : World) → (reached w (cond t [] (Offers i ∷ []))).sent ≡ w.sent
sent_by_offer true i w = refl
sent_by_offer false i w = refl

sent_by_start : (t : Bool) (i b : ℕ) (w : World) → (reached w (cond t (Starts i b ∷ []) [])).sent ≡ option_to_list (cond t (Some (Prepare b)) None) ++ w.sent
sent_by_start true i b w = refl
sent_by_start false i b w = refl

sent_by_proposal : (o : Option (ℕ × ℕ)) (w : World) → (reached w (proposes (propose_message o))).sent ≡ option_to_list (propose_message o) ++ w.sent
sent_by_proposal None w = refl
sent_by_proposal (Some p) w = refl

sent_by_prepare : (t : Bool) (b : ℕ) (w : World) (s : NodeState) → w.nodes s.me ≡ s.kept → (reached w (cond t (Promises s.me b ∷ []) [])).sent ≡ option_to_list (cond t (Some (Promise s.me b s.kept.accepted)) None) ++ w.sent
sent_by_prepare true b w s e = ap {B = List Msg} (λ (k : KeptPart). Promise s.me b k.accepted ∷ w.sent) e
sent_by_prepare false b w s e = refl

sent_by_propose : (t : Bool) (i b v : ℕ) (w : World) → (reached w (cond t (Accepts i b v ∷ []) [])).sent ≡ option_to_list (cond t (Some (Accepted i b v)) None) ++ w.sent
sent_by_propose true i b v w = refl
sent_by_propose false i b v w = refl

sent_by_vote : (t : Bool) (i v : ℕ) (w : World) → (reached w (cond t (Learns i v ∷ []) [])).sent ≡ w.sent
sent_by_vote true i v w = refl
sent_by_vote false i v w = refl

call_sends : (z : Sizes) (w : World) (s : NodeState) (c : Call) → Belongs z w s → (reached w (taken_by s c)).sent ≡ option_to_list (answer_to s c) ++ w.sent
call_sends z w s Offer h = sent_by_offer s.kept.offered s.me w
call_sends z w s Start h = sent_by_start (has_ballot s) s.me (next_ballot s) w
call_sends z w s Proposal h = sent_by_proposal (next_proposal s) w
call_sends z w s (On (Prepare b)) h = sent_by_prepare (promises s b) b w s h.kept
call_sends z w s (On (Propose b v)) h = sent_by_propose (accepts s (vote b v)) s.me b v w
call_sends z w s (On (Promise a b report)) h = refl
call_sends z w s (On (Accepted a b v)) h = sent_by_vote (learns_from s a (vote b v)) s.me v w
call_sends z w s Restart h = refl

-- ---- the other nodes

-- steps of node j leave the other nodes in the world
others_belong : (z : Sizes) (w : World) (ls : List Label) (s : NodeState) (j : ℕ) → Belongs z w s → AreStepsOf z.nodes j ls → (s.me ≡ j → ⊥) → Belongs z (reached w ls) s
others_belong z w [] s j h o d = h
others_belong z w (l ∷ ls) s j h o d = belongs_after_others z (reached w ls) l s j (others_belong z w ls s j h o.1 d) o.0 d

-- ---- a schedule, call by call

-- what holds of the new node at i, and of the others that stood, holds of each node
put_cases : (P : ℕ → NodeState → Type 0) (nodes : ℕ → NodeState) (i j : ℕ) (s : NodeState) → P i s → ((j ≡ i → ⊥) → P j (nodes j)) → P j (put_node nodes i s j)
put_cases P nodes i j s here there = elim (cases_Bool (eqb j i)) [
  | inl t ↦ subst (P j) (sym (cond-true (eqb j i) s (nodes j) t)) (subst (λ k. P k s) (sym (eqb-true j i t)) here)
  | inr f ↦ subst (P j) (sym (cond-false (eqb j i) s (nodes j) f)) (there (eqb-false j i f))
]

was_sent : (c : Call) (xs ys : List Msg) → xs ≡ ys → WasSent xs c → WasSent ys c
was_sent c xs ys e h = subst (λ zs. WasSent zs c) e h

module _ (z : Sizes) (kept : ℕ → KeptPart) where
  -- the world after a schedule
  abbrev world_of : List NodeCall → World
  world_of calls = reached (opening z.nodes kept) (steps_of (opened z kept) calls)

  -- each node keeps its number
  played_nodes : (calls : List NodeCall) (i : ℕ) → IsNode i z ((played (opened z kept) calls).nodes i)
  played_nodes [] i = node_with-is i z (kept i)
  played_nodes (c ∷ calls) i =
      put_cases (λ j s. IsNode j z s) (played (opened z kept) calls).nodes c.node i _ (after_call-is c.node z _ c.call (played_nodes calls c.node)) (λ d. played_nodes calls i)

  played_reached : (calls : List NodeCall) → AreQuorums z → Settled z kept → IsPlayed z kept calls → IsReached z (world_of calls)
  played_reached calls are settled h =
      record { nodes = kept; steps = steps_of (opened z kept) calls; run = record { sizes = are; settled = settled; run = h.run }; world = refl }

  played_none : IsPlayed z kept []
  played_none = record { run = tt; number = λ i h. refl; nodes = λ i h. belongs_with z (opening z.nodes kept) i (kept i) h refl; sent = refl }

  played_more : (c : NodeCall) (calls : List NodeCall) → IsPlayed z kept calls → c.node < z.nodes → Takes z (world_of calls) (taken_by ((played (opened z kept) calls).nodes c.node) c.call) (after_call ((played (opened z kept) calls).nodes c.node) c.call) (answer_to ((played (opened z kept) calls).nodes c.node) c.call) → IsPlayed z kept (c ∷ calls)
  played_more c calls h below t =
      record {
        run = run_append z (opening z.nodes kept) labels (steps_of (opened z kept) calls) h.run t.run;
        number = λ j k. (played_nodes (c ∷ calls) j).number;
        nodes = λ j k. subst (λ (w : World). Belongs z w (put_node room.nodes c.node (after_call s c.call) j)) (sym appended) (put_cases (λ i x. Belongs z (reached (world_of calls) labels) x) room.nodes c.node j (after_call s c.call) t.belongs (λ d. other j k d));
        sent = ap (λ xs. option_to_list (answer_to s c.call) ++ xs) h.sent ∙ sym (ap (λ (w : World). w.sent) appended ∙ call_sends z (world_of calls) s c.call (h.nodes c.node below));
      }
    where
      room : Room
      room = played (opened z kept) calls

      s : NodeState
      s = room.nodes c.node

      labels : List Label
      labels = taken_by s c.call

      appended : world_of (c ∷ calls) ≡ reached (world_of calls) labels
      appended = reached-append (opening z.nodes kept) labels (steps_of (opened z kept) calls)

      own : AreStepsOf z.nodes s.me labels
      own = subst (λ i. AreStepsOf z.nodes i labels) ((after_call-is c.node z s c.call (played_nodes calls c.node)).number ∙ sym (played_nodes calls c.node).number) t.own

      other : (j : ℕ) → j < z.nodes → (j ≡ c.node → ⊥) → Belongs z (reached (world_of calls) labels) (room.nodes j)
      other j k d = others_belong z (world_of calls) labels (room.nodes j) s.me (h.nodes j k) own (λ e. d (sym (h.number j k) ∙ (e ∙ h.number c.node below)))

  pub plays : (calls : List NodeCall) → AreQuorums z → Settled z kept → IsSchedule z.nodes (opened z kept) calls → IsPlayed z kept calls
  plays [] are settled h = played_none
  plays (c ∷ calls) are settled h =
      let before = plays calls are settled h.0 in
      let s = (played (opened z kept) calls).nodes c.node in
      played_more c calls before h.1
      (call_takes z (world_of calls) s c.call (played_reached calls are settled before) (before.nodes c.node h.1) (was_sent c.call _ _ before.sent h.2))

  -- what nodes have learned was learned in the world, where it is one value
  pub learns_one : (calls : List NodeCall) → AreQuorums z → Settled z kept → IsSchedule z.nodes (opened z kept) calls → AllLearnOne z.nodes (played (opened z kept) calls)
  learns_one calls are settled h i j v u k l e f =
      let all = plays calls are settled h in
      learned_one z (world_of calls) _ _ v u (played_reached calls are settled all) ((all.nodes i k).learned v e) ((all.nodes j l).learned u f)

  -- the run that a schedule is shows what all have learned
  pub shows : (calls : List NodeCall) (v : ℕ) → AreQuorums z → Settled z kept → IsSchedule z.nodes (opened z kept) calls → ((i : ℕ) → i < z.nodes → ((played (opened z kept) calls).nodes i).learned ≡ Some v) → AllLearned z kept (steps_of (opened z kept) calls) v
  shows calls v are settled h all =
      let p = plays calls are settled h in
      let run : IsSettledRun z kept (steps_of (opened z kept) calls) = record { sizes = are; settled = settled; run = p.run } in
      let learned : (i : ℕ) → i < z.nodes → Has (i, v) (world_of calls).learned
      = λ i k. subst (λ j. Has (j, v) (world_of calls).learned) (p.number i k) ((p.nodes i k).learned v (all i k)) in
      record {
        run = run;
        learned = learned;
        only = λ i u k.
            let from = (holds z kept (steps_of (opened z kept) calls) run).learned i u k in
            let one = member_of z are from.1.members from.1.quorum in
            let few : one.node < z.nodes = one.below in
            runs_learn_one z kept (steps_of (opened z kept) calls) run i 0 u v k (learned 0 (omega arith));
      }
