-- The stores keep the rule, and tell what they tell.
use Rattle.std.proofs.Common.{◌≡◌, ℕ, ◌<◌, ◌≤◌, Bool, true, false, not, cond, leb, eqb, List, [], ◌∷◌, ◌++◌, Option, Some, None, IfSome, refl, sym, ap, ◌∙◌, subst, inl, inr}
use Rattle.std.proofs.lemmas.Bool.{and_parts, le-leb, eqb-true, eq-eqb, cond-true}
use mathlib.Core.Option.{none}
use Rattle.atomic_table.specs.Table.{Me, step, Allows}
use Rattle.paxos_core_world.specs.KeptPart.{KeptPart, with_promise, with_vote}
use Rattle.paxos_core_world.specs.Quorum.{Sizes}
use Rattle.paxos_core_world.specs.Run.{reached}
use Rattle.paxos_core_world.specs.Step.{Label, Offers, Starts, Promises, Proposes, Accepts}
use Rattle.paxos_core_world.specs.World.{World, Has}
use Rattle.paxos_core_world.specs.declared.msg.Msg.{Msg}
use Rattle.paxos_core_world.specs.declared.msg.Msg.TheVariants.{Prepare, Promise, Propose, Accepted}
use Rattle.paxos_core_world.specs.declared.vote.Vote.{Vote}
use Rattle.rooms_words.specs.Acceptor.{promises, accepts, after_prepare, after_propose}
use Rattle.rooms_words.specs.Belongs.{Belongs}
use Rattle.rooms_words.specs.Message.{reply, after_message}
use Rattle.rooms_words.specs.NodeState.{NodeState, offered}
use Rattle.rooms_words.specs.Proposer.{next_ballot, started, choice, may_propose, proposal_under, next_proposal, propose_message, proposal, after_answer, after_proposal}
use Rattle.rooms_words.specs.Notes.{highest_below}
use Rattle.rooms_words.specs.Reached.{IsReached}
use Rattle.rooms_words.specs.Taken.{taken_by_start, proposes, taken_by_propose, taken_on}
use Rattle.rooms_words.specs.Takes.{AreStepsOf}
use Rattle.rooms_words.specs.Would.{after_act, taken_by_act}
use Rattle.rooms_words.specs.Act.{Act}
use Rattle.rooms_words.specs.Act.TheVariants as act
use Rattle.rooms_words.proofs.WorldLemmas.{grows_by}
use Rattle.rooms_words.specs.LateOffer.{unoffered, BelongsWithLateOffer, TakesLate, owes_offer, proposes_own, taken_late_by_propose}
use Rattle.rooms_words.proofs.LateLemmas.{offers_may_be_late}
use Rattle.rooms_words.specs.Words.{promised_in, accepted_in, IsProposerWord, IsAcceptorWord}
use Rattle.rooms_words.specs.declared.event.Event.{Event}
use Rattle.rooms_words.specs.declared.view.Opening.{Opening}
use Rattle.rooms_words.specs.declared.view.View.{View}
use Rattle.rooms_words.specs.Events.{labels_of, events_of}
use Rattle.rooms_words.specs.Rule.{RoomRule}
use Rattle.rooms_words.specs.Steps.{Advances, AreTakenBy, StoresProposer, StoresAcceptor, StartStore, ProposeStore, PromiseStore, AcceptStore}
use Rattle.rooms_words.specs.Views.{world_after, IsSeated}
use Rattle.rooms_words.specs.WordsOf.{proposed_under, proposer_at, acceptor_at, IsProposerOf, IsAcceptorOf}
use Rattle.rooms_words.proofs.Advance.{view_with, allows, belongs_now, reached_now}
use Rattle.rooms_steps.proofs.OfferLemmas.{message_offered, proposal_offered}
use Rattle.rooms_words.proofs.RunLemmas.{world_after-events, world_after-append, others_of_own, kept_of}
use Rattle.rooms_words.proofs.WordLemmas.{KeepsProposers, proposer_kept, acceptor_kept, proposer_of_others, acceptor_of_others, shows_acceptor, shows_proposer}

below_count : (q : Sizes) (w : World) (s : NodeState) → BelongsWithLateOffer q w s → s.me < q.nodes
below_count q w s (inl h) = h.number
below_count q w s (inr h) = h.number

-- what was sent in the world that was seen was sent in the world that stands
pub sent_later : (o : Opening) (run later seen : List Event) (m : Msg) → run ≡ later ++ seen → Has m (world_after o seen).sent → Has m (world_after o run).sent
sent_later o run later seen m e h =
    subst (λ (x : World). Has m x.sent) (sym (ap (λ (r : List Event). world_after o r) e ∙ world_after-append o later seen))
    ((grows_by (world_after o seen) (labels_of later)).sent m h)

-- ---- the own acceptor's word

-- a step that neither starts nor proposes, or none, leaves all proposers' words
pub keeps_if : (t : Bool) (l : Label) → KeepsProposers l → (w : World) (i number : ℕ) → IsProposerOf w i number → IsProposerOf (reached w (cond t (l ∷ []) [])) i number
keeps_if true l q w i number h = proposer_kept w l i number q h
keeps_if false l q w i number h = h

me_if : (t : Bool) (s u : NodeState) → u.me ≡ s.me → (cond t u s).me ≡ s.me
me_if true s u e = e
me_if false s u e = refl

-- a message that was sent makes the node promise or accept, and its word is stored
module _ {S : Type 0} (o : Opening) (slots id : ℕ) (me : Me S View) (number : ℕ) (m : Msg) (a : Act)
    (same_me : (after_message me.0.node m).me ≡ me.0.node.me)
    (same_after : after_message me.0.node m ≡ after_act me.0.node a)
    (same_steps : taken_on me.0.node m ≡ taken_by_act me.0.node a)
    (quiet : (w : World) (i number : ℕ) → IsProposerOf w i number → IsProposerOf (reached w (taken_on me.0.node m)) i number)
    (seated : IsSeated me.0)
    (sent : Has m (world_after me.0.opening me.0.seen).sent)
    (word : IsAcceptorWord number (after_message me.0.node m).kept.promised (after_message me.0.node m).kept.accepted)
    (then : View → Type 0)
    (told : (w : View) → StoresAcceptor a number me.0 w → then w)
  where
    stores_acceptor : Allows (RoomRule o) slots id me (acceptor_at me.0.node.me) (λ _. number) (λ _ w. then w.0)
    stores_acceptor =
        allows o slots id me (acceptor_at me.0.node.me) (λ _. number) (λ _ w. then w.0) seated
        (λ s rule at.
        let q = me.0.opening.quorums in
        let n = q.nodes in
        let w : World = world_after me.0.opening rule.run in
        let t : NodeState = after_message me.0.node m in
        let steps : List Label = taken_on me.0.node m in
        let fits = rule.views id me.0 at in
        let belongs = belongs_now s id me.0 rule at seated in
        let takes : TakesLate q w (taken_on me.0.node m) (after_message me.0.node m) (reply me.0.node m) =
        offers_may_be_late.message me.0.node m q w (reached_now s id me.0 rule at seated) belongs (sent_later me.0.opening rule.run fits.later me.0.seen m fits.seen sent) in
        let here : IsAcceptorOf (reached w (taken_on me.0.node m)) me.0.node.me number = here_is q (reached w (taken_on me.0.node m)) takes.belongs in
        record {
          steps = taken_on me.0.node m;
          node = after_message me.0.node m;
          answer = reply me.0.node m;
          takes = takes;
          me = same_me;
          shows =
              shows_acceptor n w (reached w (taken_on me.0.node m)) s.words me.0.node.me number (below_count q w me.0.node belongs) rule.words
              (quiet w)
              (λ i k d h. acceptor_of_others n w (taken_on me.0.node m) i k (others_of_own n i me.0.node.me (taken_on me.0.node m) (subst (λ (x : ℕ). AreStepsOf n x (taken_on me.0.node m)) same_me takes.own) d) h)
              here;
          told = λ adv.
              told (view_with me.0 (events_of (taken_on me.0.node m) ++ rule.run) (after_message me.0.node m))
              record {
                took =
                    record {
                      steps = taken_on me.0.node m;
                      taken = inl same_steps;
                      advances =
                          subst (λ (x : NodeState). Advances me.0 (taken_on me.0.node m) x (view_with me.0 (events_of (taken_on me.0.node m) ++ rule.run) (after_message me.0.node m))) same_after adv;
                    };
                shows = subst (λ (x : World). IsAcceptorOf x me.0.node.me number) (sym (world_after-events me.0.opening (taken_on me.0.node m) rule.run)) here;
              };
        })
      where
        here_is : (q : Sizes) (x : World) → BelongsWithLateOffer q x (after_message me.0.node m) → IsAcceptorOf x me.0.node.me number
        here_is q x h =
            subst (λ (i : ℕ). IsAcceptorWord number (x.nodes i).promised (x.nodes i).accepted) same_me
            (subst (λ (p : ℕ). IsAcceptorWord number p (x.nodes (after_message me.0.node m).me).accepted) (sym (kept_of q x (after_message me.0.node m) (λ (k : KeptPart). k.promised) (λ k. refl) h))
            (subst (λ (y : Option Vote). IsAcceptorWord number (after_message me.0.node m).kept.promised y) (sym (kept_of q x (after_message me.0.node m) (λ (k : KeptPart). k.accepted) (λ k. refl) h)) word))

accepted_of : (number p : ℕ) (x : Option Vote) (y : Vote) → IsAcceptorWord number p x → x ≡ Some y → accepted_in number ≡ Some y
accepted_of number p x y h e = h.tells_accepted ∙ e

module _ {S : Type 0} (o : Opening) (slots id : ℕ) (me : Me S View) (number : ℕ) (s : NodeState) (tie : me.0.node ≡ offered s) (seated : IsSeated me.0) where
  -- the node promises ballot b
  pub stores_promise : (b : ℕ) → promises s b ≡ true → Has (Prepare b) (world_after me.0.opening me.0.seen).sent
      → IsAcceptorWord number (after_prepare s b).kept.promised (after_prepare s b).kept.accepted
      → Allows (RoomRule o) slots id me (acceptor_at me.0.node.me) (λ _. number) (λ _. PromiseStore (step slots (acceptor_at me.0.node.me) number 0 none) me number)
  stores_promise b may sent word =
      stores_acceptor o slots id me number (Prepare b) (act.Promise b) (me_if (promises me.0.node b) me.0.node _ refl) refl refl
      (λ w i k. keeps_if (promises me.0.node b) (Promises me.0.node.me b) tt w i k) seated sent
      (subst (λ (t : NodeState). IsAcceptorWord number t.kept.promised t.kept.accepted) (sym same) word)
      (λ w. StoresAcceptor (act.Promise (promised_in number)) number me.0 w)
      (λ w h. subst (λ (c : ℕ). StoresAcceptor (act.Promise c) number me.0 w) (sym read) h)
    where
      same : after_message me.0.node (Prepare b) ≡ offered (after_prepare s b)
      same = ap (λ (x : NodeState). after_message x (Prepare b)) tie ∙ message_offered s (Prepare b)

      read : promised_in number ≡ b
      read = word.tells_promised ∙ ap (λ (t : Bool). (cond t (record s { kept = with_promise b s.kept }) s).kept.promised) may

  -- the node gives the vote
  pub stores_vote : (x : Vote) → accepts s x ≡ true → Has (Propose x.ballot x.value) (world_after me.0.opening me.0.seen).sent
      → IsAcceptorWord number (after_propose s x).kept.promised (after_propose s x).kept.accepted
      → Allows (RoomRule o) slots id me (acceptor_at me.0.node.me) (λ _. number) (λ _. AcceptStore (step slots (acceptor_at me.0.node.me) number 0 none) me number)
  stores_vote x may sent word =
      stores_acceptor o slots id me number (Propose x.ballot x.value) (act.Accept x.ballot x.value) (me_if (accepts me.0.node x) me.0.node _ refl) refl refl
      (λ w i k. keeps_if (accepts me.0.node x) (Accepts me.0.node.me x.ballot x.value) tt w i k) seated sent
      (subst (λ (t : NodeState). IsAcceptorWord number t.kept.promised t.kept.accepted) (sym same) word)
      (λ w. IfSome (accepted_in number) (λ y. StoresAcceptor (act.Accept y.ballot y.value) number me.0 w))
      (λ w h. subst (λ (y : Option Vote). IfSome y (λ y. StoresAcceptor (act.Accept y.ballot y.value) number me.0 w)) (sym read) h)
    where
      same : after_message me.0.node (Propose x.ballot x.value) ≡ offered (after_propose s x)
      same = ap (λ (z : NodeState). after_message z (Propose x.ballot x.value)) tie ∙ message_offered s (Propose x.ballot x.value)

      read : accepted_in number ≡ Some x
      read = word.tells_accepted ∙ ap (λ (t : Bool). (cond t (record s { kept = with_vote x s.kept }) s).kept.accepted) may

-- ---- the own proposer's word

pair_of : (p q : ℕ × ℕ) → ◌≡◌ {A = Option (ℕ × ℕ)} (Some p) (Some q) → p ≡ q
pair_of p q e = cc

none_under : (b : ℕ) (ms : List Msg) → ((v : ℕ) → ¬ Has (Propose b v) ms) → proposed_under b ms ≡ None
none_under b [] h = refl
none_under b (Prepare c ∷ ms) h = none_under b ms (λ v k. h v (inr k))
none_under b (Promise a c report ∷ ms) h = none_under b ms (λ v k. h v (inr k))
none_under b (Accepted a c v ∷ ms) h = none_under b ms (λ v k. h v (inr k))
none_under b (Propose c v ∷ ms) h = other (eqb c b) refl (none_under b ms (λ u k. h u (inr k)))
  where
    other : (t : Bool) → eqb c b ≡ t → proposed_under b ms ≡ None → cond t (Some v) (proposed_under b ms) ≡ None
    other true e k = absurd (h v (inl (ap (λ (x : ℕ). Propose x v) (sym (eqb-true c b e)))))
    other false e k = k

-- a node with a ballot under way under which it has proposed nothing
unproposed_here : (q : Sizes) (w : World) (s : NodeState) (b : ℕ) → Belongs q w s → s.ballot ≡ Some b → s.proposed ≡ false → (s.kept.started ≡ b) × (proposed_under b w.sent ≡ None)
unproposed_here q w s b h e f = (h.started b e, none_under b w.sent ((h.ballot b e).unproposed f))

fresh_here : (q : Sizes) (w : World) (s : NodeState) (b : ℕ) → BelongsWithLateOffer q w s → s.ballot ≡ Some b → s.proposed ≡ false → (s.kept.started ≡ b) × (proposed_under b w.sent ≡ None)
fresh_here q w s b (inl h) e f = unproposed_here q w s b h e f
fresh_here q w s b (inr h) e f = unproposed_here q w (unoffered s) b h e f

started_here : (q : Sizes) (w : World) (s : NodeState) (b : ℕ) → BelongsWithLateOffer q w s → s.ballot ≡ Some b → s.kept.started ≡ b
started_here q w s b (inl h) e = h.started b e
started_here q w s b (inr h) e = h.started b e

-- steps of the node are taken that neither promise nor accept, and its proposer's word is stored
module _ {S : Type 0} (o : Opening) (slots id : ℕ) (me : Me S View) (number : ℕ) (a : Act) (answer : Option Msg) (seated : IsSeated me.0)
    (t : NodeState) (same_me : t.me ≡ me.0.node.me) (same_after : t ≡ after_act me.0.node a)
    (steps : World → List Label) (taken : (w : World) → AreTakenBy me.0.node a (steps w))
    (quiet : (w : World) (i k : ℕ) → IsAcceptorOf w i k → IsAcceptorOf (reached w (steps w)) i k)
    (takes : (w : World) → IsReached me.0.opening.quorums w → BelongsWithLateOffer me.0.opening.quorums w me.0.node → TakesLate me.0.opening.quorums w (steps w) t answer)
    (here : (w : World) → BelongsWithLateOffer me.0.opening.quorums w me.0.node → BelongsWithLateOffer me.0.opening.quorums (reached w (steps w)) t → IsProposerOf (reached w (steps w)) me.0.node.me number)
  where
    stores_proposer : Allows (RoomRule o) slots id me (proposer_at me.0.node.me) (λ _. number) (λ _ w. StoresProposer a number me.0 w.0)
    stores_proposer =
        allows o slots id me (proposer_at me.0.node.me) (λ _. number) (λ _ w. StoresProposer a number me.0 w.0) seated
        (λ s rule at.
        let q = me.0.opening.quorums in
        let n = q.nodes in
        let w : World = world_after me.0.opening rule.run in
        let belongs = belongs_now s id me.0 rule at seated in
        let r = reached_now s id me.0 rule at seated in
        let done : TakesLate q w (steps w) t answer = takes w r belongs in
        let word : IsProposerOf (reached w (steps w)) me.0.node.me number = here w belongs done.belongs in
        record {
          steps = steps w;
          node = t;
          answer = answer;
          takes = done;
          me = same_me;
          shows =
              shows_proposer n w (reached w (steps w)) s.words me.0.node.me number (below_count q w me.0.node belongs) rule.words
              (λ i k il d h. proposer_of_others q w (steps w) i k r il done.run (others_of_own n i me.0.node.me (steps w) (subst (λ (x : ℕ). AreStepsOf n x (steps w)) same_me done.own) d) h)
              (quiet w) word;
          told = λ adv.
              record {
                took =
                    record {
                      steps = steps w;
                      taken = taken w;
                      advances = subst (λ (x : NodeState). Advances me.0 (steps w) x (view_with me.0 (events_of (steps w) ++ rule.run) t)) same_after adv;
                    };
                shows = subst (λ (x : World). IsProposerOf x me.0.node.me number) (sym (world_after-events me.0.opening (steps w) rule.run)) word;
              };
        })

module _ {S : Type 0} (o : Opening) (slots id : ℕ) (me : Me S View) (number : ℕ) (s : NodeState) (tie : me.0.node ≡ offered s) (seated : IsSeated me.0) where
  -- the node starts its next ballot
  pub stores_start : next_ballot s ≤ 65535 → IsProposerWord number (next_ballot s) None
      → Allows (RoomRule o) slots id me (proposer_at me.0.node.me) (λ _. number) (λ _. StartStore (step slots (proposer_at me.0.node.me) number 0 none) me number)
  stores_start last word =
      stores_proposer o slots id me number act.Start (Some (Prepare (next_ballot me.0.node))) seated (started me.0.node) refl
      (sym (cond-true (leb (next_ballot me.0.node) 65535) (started me.0.node) me.0.node left)) (λ w. taken_by_start me.0.node)
      (λ w. inl (sym (cond-true (leb (next_ballot me.0.node) 65535) (taken_by_start me.0.node) [] left)))
      (λ w i k h. acceptor_kept w (Starts me.0.node.me (next_ballot me.0.node)) i k tt h)
      (λ w r h. offers_may_be_late.start me.0.node low me.0.opening.quorums w r h)
      (λ w before h. is_here (reached w (taken_by_start me.0.node)) h)
    where
      same : next_ballot me.0.node ≡ next_ballot s
      same = ap next_ballot tie

      low : next_ballot me.0.node ≤ 65535
      low = subst (λ (b : ℕ). b ≤ 65535) (sym same) last

      left : leb (next_ballot me.0.node) 65535 ≡ true
      left = le-leb (next_ballot me.0.node) 65535 low

      is_here : (x : World) → BelongsWithLateOffer me.0.opening.quorums x (started me.0.node) → IsProposerOf x me.0.node.me number
      is_here x h =
          let fresh = fresh_here me.0.opening.quorums x (started me.0.node) (next_ballot me.0.node) h refl refl in
          let at : (x.nodes me.0.node.me).started ≡ next_ballot me.0.node = kept_of me.0.opening.quorums x (started me.0.node) (λ (k : KeptPart). k.started) (λ k. refl) h in
          subst (λ (b : ℕ). IsProposerWord number b (proposed_under b x.sent)) (sym at)
          (subst (λ (p : Option ℕ). IsProposerWord number (next_ballot me.0.node) p) (sym fresh.1)
          (subst (λ (b : ℕ). IsProposerWord number b None) (sym same) word))

  -- the node proposes v under ballot b
  pub stores_proposal : (b v : ℕ) → next_proposal s ≡ Some (b, v) → IsProposerWord number s.kept.started (Some v)
      → Allows (RoomRule o) slots id me (proposer_at me.0.node.me) (λ _. number) (λ _. ProposeStore (step slots (proposer_at me.0.node.me) number 0 none) me number)
  stores_proposal b v is word =
      stores_proposer o slots id me number act.Propose (proposal me.0.node) seated (after_proposal me.0.node) same_me refl (λ w. taken_late_by_propose w me.0.node)
      (λ w. taken_if w (owes_offer w me.0.node) refl) (λ w i k h. quiet_if (owes_offer w me.0.node) w i k h)
      (λ w r h. offers_may_be_late.propose me.0.node me.0.opening.quorums w r h)
      (λ w before h. is_here (owes_offer w me.0.node) w before (subst (λ (x : NodeState). BelongsWithLateOffer me.0.opening.quorums (reached w (taken_late_by_propose w me.0.node)) x) refl h))
    where
      own : next_proposal me.0.node ≡ Some (b, v)
      own = ap next_proposal tie ∙ proposal_offered s (b, v) is

      same_me : (after_proposal me.0.node).me ≡ me.0.node.me
      same_me = ap (λ (x : Option (ℕ × ℕ)). (after_answer me.0.node (propose_message x)).me) own

      labels : taken_by_propose me.0.node ≡ Proposes b v ∷ []
      labels = ap (λ (x : Option (ℕ × ℕ)). proposes (propose_message x)) own

      taken_if : (w : World) (t : Bool) → owes_offer w me.0.node ≡ t
          → AreTakenBy me.0.node act.Propose (cond t (taken_by_propose me.0.node ++ Offers me.0.node.me ∷ []) (taken_by_propose me.0.node))
      taken_if w true owes = inr (refl, (and_parts (proposes_own me.0.node) (not (w.nodes me.0.node.me).offered) owes).0, refl)
      taken_if w false owes = inl refl

      quiet_if : (t : Bool) (w : World) (i k : ℕ) → IsAcceptorOf w i k → IsAcceptorOf (reached w (cond t (taken_by_propose me.0.node ++ Offers me.0.node.me ∷ []) (taken_by_propose me.0.node))) i k
      quiet_if true w i k h = subst (λ (ls : List Label). IsAcceptorOf (reached w (ls ++ Offers me.0.node.me ∷ [])) i k) (sym labels) (acceptor_kept w (Offers me.0.node.me) i k tt h)
      quiet_if false w i k h = subst (λ (ls : List Label). IsAcceptorOf (reached w ls) i k) (sym labels) h

      under : (t : Bool) (w : World) → proposed_under b (reached w (cond t (taken_by_propose me.0.node ++ Offers me.0.node.me ∷ []) (taken_by_propose me.0.node))).sent ≡ Some v
      under true w = subst (λ (ls : List Label). proposed_under b (reached w (ls ++ Offers me.0.node.me ∷ [])).sent ≡ Some v) (sym labels) (cond-true (eqb b b) (Some v) (proposed_under b w.sent) (eq-eqb b b refl))
      under false w = subst (λ (ls : List Label). proposed_under b (reached w ls).sent ≡ Some v) (sym labels) (cond-true (eqb b b) (Some v) (proposed_under b w.sent) (eq-eqb b b refl))

      is_here : (t : Bool) (w : World) → BelongsWithLateOffer me.0.opening.quorums w me.0.node
          → BelongsWithLateOffer me.0.opening.quorums (reached w (cond t (taken_by_propose me.0.node ++ Offers me.0.node.me ∷ []) (taken_by_propose me.0.node))) (after_proposal me.0.node)
          → IsProposerOf (reached w (cond t (taken_by_propose me.0.node ++ Offers me.0.node.me ∷ []) (taken_by_propose me.0.node))) me.0.node.me number
      is_here t w before h =
          let x : World = reached w (cond t (taken_by_propose me.0.node ++ Offers me.0.node.me ∷ []) (taken_by_propose me.0.node)) in
          let at : (x.nodes (after_proposal me.0.node).me).started ≡ (after_proposal me.0.node).kept.started =
          kept_of me.0.opening.quorums x (after_proposal me.0.node) (λ (k : KeptPart). k.started) (λ k. refl) h in
          let kept : (after_proposal me.0.node).kept.started ≡ me.0.node.kept.started = ap (λ (z : Option (ℕ × ℕ)). (after_answer me.0.node (propose_message z)).kept.started) own in
          let ballot : me.0.node.kept.started ≡ b = started_here me.0.opening.quorums w me.0.node b before (ballot_of me.0.node.ballot (may_propose me.0.node) (choice (highest_below me.0.node.quorums.nodes me.0.node.promises) me.0.node.kept.offered me.0.node.me) own) in
          subst (λ (i : ℕ). IsProposerOf x i number) same_me
          (subst (λ (c : ℕ). IsProposerWord number c (proposed_under c x.sent)) (sym (at ∙ (kept ∙ ballot)))
          (subst (λ (p : Option ℕ). IsProposerWord number b p) (sym (under t w))
          (subst (λ (c : ℕ). IsProposerWord number c (Some v)) (sym (ap (λ (z : NodeState). z.kept.started) tie) ∙ ballot) word)))
        where
          ballot_of : (q : Option ℕ) (t : Bool) (c : Option ℕ) → proposal_under q t c ≡ Some (b, v) → q ≡ Some b
          ballot_of None t c e = absurd (cc)
          ballot_of (Some d) false c e = absurd (cc)
          ballot_of (Some d) true None e = absurd (cc)
          ballot_of (Some d) true (Some u) e = ap (λ (x : ℕ). Some x) (ap (λ (p : ℕ × ℕ). p.0) (pair_of (d, u) (b, v) e))
