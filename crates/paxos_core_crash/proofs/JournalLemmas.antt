-- What a node's journal holds is what the node keeps once it has taken what it recorded.
use Rattle.std.proofs.Common.{◌≡◌, ℕ, Bool, true, false, cond, leb, List, [], ◌∷◌, ◌++◌, Option, Some, None, refl, sym, ap, subst, inl, inr}
use Rattle.std.proofs.lemmas.Bool.{leb-true}
use Rattle.paxos_core_world.specs.KeptPart.{KeptPart, with_promise, with_vote, vote}
use Rattle.paxos_core_world.specs.Quorum.{Sizes}
use Rattle.paxos_core_world.specs.Run.{IsRun, reached}
use Rattle.paxos_core_world.specs.Step.{Label, Offers, after}
use Rattle.paxos_core_world.specs.World.{World}
use Rattle.paxos_core_world.specs.declared.msg.Msg.{Msg}
use Rattle.paxos_core_world.specs.declared.msg.Msg.TheVariants.{Prepare, Propose}
use Rattle.paxos_core_theorem.proofs.Reopens.{reached-append, run_append}
use Rattle.paxos_core_node_steps.specs.Acceptor.{promises, accepts}
use Rattle.paxos_core_node_steps.specs.Belongs.{Belongs}
use Rattle.paxos_core_node_steps.specs.NodeState.{NodeState, offered}
use Rattle.paxos_core_node_steps.specs.Proposer.{next_ballot, started, proposal, after_answer}
use Rattle.paxos_core_node_steps.specs.Reached.{IsReached}
use Rattle.paxos_core_node_steps.specs.Takes.{Takes, AreStepsOf}
use Rattle.paxos_core_node_steps.specs.Would.{after_act}
use Rattle.paxos_core_node_steps.specs.declared.step.Act.{Act}
use Rattle.paxos_core_node_steps.specs.declared.step.Act.TheVariants as act
use Rattle.paxos_core_node_steps.proofs.TakesLemmas.{offer_takes, start_takes, propose_anywhere, on_takes}
use Rattle.paxos_core_node_steps.proofs.WorldLemmas.{grows}
use Rattle.paxos_core_node_steps.proofs.WouldLemmas.{told_is_done}
use Rattle.paxos_core_late_offers.specs.LateOffer.{unoffered}
use Rattle.paxos_core_crash.specs.Crash.{IsRecorded, Waiting, Nothing, ToOffer, ToDo, WasSent, journal_of, JournalsAreRecorded}
use Rattle.paxos_core_crash.proofs.CrashLemmas.{reached_later}

-- what a call leaves the node is recorded, with the steps that the call takes
from_takes : (q : Sizes) (w : World) (i : ℕ) (ls : List Label) (t : NodeState) (m : Option Msg) → t.me ≡ i → Takes q w ls t m → IsRecorded q w i t.kept
from_takes q w i ls t m e h = record {
  steps = ls;
  own = subst (λ k. AreStepsOf q.nodes k ls) e h.own;
  run = h.run;
  kept = subst (λ k. (reached w ls).nodes k ≡ t.kept) e h.belongs.kept;
}

kept_as : (k : KeptPart) (t : Bool) → k.offered ≡ t → k ≡ record { offered = t; started = k.started; promised = k.promised; accepted = k.accepted }
kept_as k t e = ap {B = KeptPart} (λ o. record { offered = o; started = k.started; promised = k.promised; accepted = k.accepted }) e

me_if : (t : Bool) (s : NodeState) (k : KeptPart) → (cond t (record s { kept = k }) s).me ≡ s.me
me_if true s k = refl
me_if false s k = refl

me_after : (o : Option Msg) (s : NodeState) → (after_answer s o).me ≡ s.me
me_after None s = refl
me_after (Some m) s = refl

module _ (q : Sizes) (w : World) (s : NodeState) (r : IsReached q w) (h : Belongs q w s) where
  idle_recorded : IsRecorded q w s.me s.kept
  idle_recorded = record { steps = []; own = tt; run = tt; kept = h.kept }

  start_recorded : (t : Bool) → leb (next_ballot s) 65535 ≡ t → IsRecorded q w s.me (cond t (started s) s).kept
  start_recorded true e = from_takes q w s.me _ (started s) _ refl (start_takes s (leb-true (next_ballot s) 65535 e) q w r h)
  start_recorded false e = idle_recorded

  done_recorded : (a : Act) → WasSent w (ToDo a) → IsRecorded q w s.me (after_act s a).kept
  done_recorded act.Start sent = start_recorded (leb (next_ballot s) 65535) refl
  done_recorded (act.Promise b) sent =
      from_takes q w s.me _ (after_act s (act.Promise b)) _ (me_if (promises s b) s (with_promise b s.kept)) (on_takes s (Prepare b) q w r h sent)
  done_recorded act.Propose sent =
      from_takes q w s.me _ (after_act s act.Propose) _ (me_after (proposal s) s) (propose_anywhere s q w h)
  done_recorded (act.Accept b v) sent =
      from_takes q w s.me _ (after_act s (act.Accept b v)) _ (me_if (accepts s (vote b v)) s (with_vote (vote b v) s.kept)) (on_takes s (Propose b v) q w r h sent)

  recorded : (waiting : Waiting) → WasSent w waiting → IsRecorded q w s.me (journal_of s waiting)
  recorded Nothing sent = idle_recorded
  recorded ToOffer sent = from_takes q w s.me _ (offered s) _ refl (offer_takes s q w r h)
  recorded (ToDo a) sent = subst (λ (k : KeptPart). IsRecorded q w s.me k) (told_is_done s a).kept (done_recorded a sent)

-- what was sent stays sent
sent_later : (w : World) (l : Label) (waiting : Waiting) → WasSent w waiting → WasSent (after w l) waiting
sent_later w l Nothing h = tt
sent_later w l ToOffer h = tt
sent_later w l (ToDo act.Start) h = tt
sent_later w l (ToDo (act.Promise b)) h = (grows w l).sent _ h
sent_later w l (ToDo act.Propose) h = tt
sent_later w l (ToDo (act.Accept b v)) h = (grows w l).sent _ h

own_steps : (n i : ℕ) (later before : List Label) → AreStepsOf n i later → AreStepsOf n i before → AreStepsOf n i (later ++ before)
own_steps n i [] before h k = k
own_steps n i (l ∷ later) before h k = (h.0, own_steps n i later before h.1 k)

-- what is recorded after own steps is recorded before them
recorded_before : (q : Sizes) (w : World) (i : ℕ) (k : KeptPart) (ls : List Label) → IsRun q w ls → AreStepsOf q.nodes i ls
    → IsRecorded q (reached w ls) i k → IsRecorded q w i k
recorded_before q w i k ls run own h = record {
  steps = h.steps ++ ls;
  own = own_steps q.nodes i h.steps ls h.own own;
  run = run_append q w h.steps ls run h.run;
  kept = subst (λ (v : World). v.nodes i ≡ k) (sym (reached-append w h.steps ls)) h.kept;
}

-- ---- an offer that the world does not show yet

module _ (q : Sizes) (w : World) (s : NodeState) (waiting : Waiting) (r : IsReached q w) (h : Belongs q w (unoffered s)) (sent : WasSent w waiting) where
  abbrev with_kept : KeptPart → NodeState
  with_kept k = record s { kept = k }

  -- the offer is taken first
  offers_first : Takes q w (Offers s.me ∷ []) s None → IsRecorded q w s.me (journal_of s waiting)
  offers_first first =
      recorded_before q w s.me (journal_of s waiting) (Offers s.me ∷ []) first.run first.own
      (recorded q (after w (Offers s.me)) s (reached_later q w (Offers s.me ∷ []) r first.run) first.belongs waiting (sent_later w (Offers s.me) waiting sent))

  by_offer : (t : Bool) → s.kept.offered ≡ t → IsRecorded q w s.me (journal_of s waiting)
  by_offer true e =
      offers_first (subst (λ (x : NodeState). Takes q w (Offers s.me ∷ []) x None) (ap with_kept (sym (kept_as s.kept true e)))
      (offer_takes (unoffered s) q w r h))
  by_offer false e = recorded q w s r (subst (λ (x : NodeState). Belongs q w x) (ap with_kept (sym (kept_as s.kept false e))) h) waiting sent

pub journals_are_recorded : JournalsAreRecorded
journals_are_recorded q w s waiting r (inl h) sent = recorded q w s r h waiting sent
journals_are_recorded q w s waiting r (inr h) sent = by_offer q w s waiting r h sent s.kept.offered refl
