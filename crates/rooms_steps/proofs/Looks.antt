-- The looks keep the rule, and tell what they tell.
use Rattle.std.proofs.Common.{◌≡◌, ℕ, ◌<◌, Bool, true, false, cond, List, [], ◌∷◌, ◌++◌, get_or, Option, Some, None, refl, sym, subst, arith}
use Rattle.std.proofs.lemmas.List.{set-get_or}
use mathlib.Core.Option.{none, some}
use lib.ListN.{get_elem?}
use Rattle.atomic_table.specs.Table.{State, Me, step, Allows}
use Rattle.paxos_core_world.specs.Run.{reached}
use Rattle.paxos_core_world.specs.Step.{Label, Learns}
use Rattle.paxos_core_world.specs.World.{World}
use Rattle.paxos_core_world.specs.declared.vote.Vote.{Vote}
use Rattle.rooms_words.specs.Learner.{after_promise}
use Rattle.rooms_words.specs.NodeState.{NodeState, restarted}
use Rattle.rooms_words.specs.Taken.{learns_from, taken_by_restart}
use Rattle.rooms_words.specs.LateOffer.{TakesLate}
use Rattle.rooms_words.proofs.LateLemmas.{offers_may_be_late}
use Rattle.rooms_words.specs.Words.{promised_in, accepted_in}
use Rattle.rooms_words.specs.declared.view.Opening.{Opening}
use Rattle.rooms_words.specs.declared.view.View.{View}
use Rattle.rooms_words.specs.Events.{events_of}
use Rattle.rooms_words.specs.Heard.{taken_on_vote, after_hearing, taken_by_hearing}
use Rattle.rooms_words.specs.Rule.{RoomRule}
use Rattle.rooms_words.specs.Steps.{LooksAtAcceptor, ProposerLook, AcceptorLook, ForgetLook}
use Rattle.rooms_words.specs.Views.{world_after, IsSeated}
use Rattle.rooms_words.specs.WordsOf.{acceptor_at, IsProposerOf, IsAcceptorOf, ShowsWorld}
use Rattle.rooms_words.proofs.Advance.{view_with, allows, belongs_now, reached_now}
use Rattle.rooms_steps.proofs.HearLemmas.{hearing_takes, me_hearing}
use Rattle.rooms_words.proofs.RunLemmas.{world_after-events}
use Rattle.rooms_words.proofs.WordLemmas.{proposer_kept, acceptor_kept, shows_read}

-- ---- an own word, with which the node forgets

pub forgets : {S : Type 0} (o : Opening) (slots id : ℕ) (me : Me S View) (k : ℕ) → IsSeated me.0
    → Allows (RoomRule o) slots id me k (λ n. n) (ForgetLook (step slots k 0 0 none) me)
forgets {S} o slots id me k seated =
    allows o slots id me k (λ n. n) (ForgetLook (step slots k 0 0 none) me) seated
    (λ s rule at. record {
      steps = taken_by_restart me.0.node;
      node = restarted me.0.node me.0.node.kept;
      answer = None;
      takes = offers_may_be_late.forget me.0.node me.0.opening.quorums (world_after me.0.opening rule.run) (reached_now s id me.0 rule at seated) (belongs_now s id me.0 rule at seated);
      me = refl;
      shows = subst (λ (ws : List ℕ). ShowsWorld me.0.opening.quorums.nodes (world_after me.0.opening rule.run) ws) (sym (set-get_or s.words k 0)) rule.words;
      told = λ a. record {
        forgot = a;
        proposer = λ j e lt. subst (λ (p : ℕ). IsProposerOf (world_after me.0.opening rule.run) j (get_or s.words p 0)) (sym e) (rule.words.proposers j lt);
        acceptor = λ j e lt. subst (λ (p : ℕ). IsAcceptorOf (world_after me.0.opening rule.run) j (get_or s.words p 0)) (sym e) (rule.words.acceptors j lt);
      };
    })

-- ---- a proposer's word

pub looks_at_proposer : {S : Type 0} (o : Opening) (slots id : ℕ) (me : Me S View) (k : ℕ) → IsSeated me.0
    → Allows (RoomRule o) slots id me k (λ n. n) (ProposerLook (step slots k 0 0 none) me)
looks_at_proposer {S} o slots id me k seated =
    allows o slots id me k (λ n. n) (ProposerLook (step slots k 0 0 none) me) seated
    (λ s rule at. record {
      steps = [];
      node = me.0.node;
      answer = None;
      takes = record { run = tt; own = tt; belongs = belongs_now s id me.0 rule at seated; sent = tt };
      me = refl;
      shows = subst (λ (ws : List ℕ). ShowsWorld me.0.opening.quorums.nodes (world_after me.0.opening rule.run) ws) (sym (set-get_or s.words k 0)) rule.words;
      told = λ a i e lt. record {
        advances = a;
        shows = subst (λ (p : ℕ). IsProposerOf (world_after me.0.opening rule.run) i (get_or s.words p 0)) (sym e) (rule.words.proposers i lt);
      };
    })

-- ---- an acceptor's word

-- at most a Learns: it leaves all words
abbrev pub IsQuiet : List Label → Type 0
IsQuiet ls = (w : World) → ((i number : ℕ) → IsProposerOf w i number → IsProposerOf (reached w ls) i number) × ((i number : ℕ) → IsAcceptorOf w i number → IsAcceptorOf (reached w ls) i number)

quiet_if : (t : Bool) (i v : ℕ) → IsQuiet (cond t (Learns i v ∷ []) [])
quiet_if true i v w = ((λ j m h. proposer_kept w (Learns i v) j m tt h), (λ j m h. acceptor_kept w (Learns i v) j m tt h))
quiet_if false i v w = ((λ j m h. h), (λ j m h. h))

pub vote_quiet : (s : NodeState) (j : ℕ) (x : Option Vote) → IsQuiet (taken_on_vote s j x)
vote_quiet s j None w = ((λ j m h. h), (λ j m h. h))
vote_quiet s j (Some x) w = quiet_if (learns_from s j x) s.me x.value w

module _ {S : Type 0} (o : Opening) (slots id : ℕ) (me : Me S View) (j : ℕ) (lt : j < me.0.opening.quorums.nodes) (seated : IsSeated me.0) where
  pub looks_at_acceptor : Allows (RoomRule o) slots id me (acceptor_at j) (λ n. n) (AcceptorLook (step slots (acceptor_at j) 0 0 none) me)
  looks_at_acceptor =
      allows o slots id me (acceptor_at j) (λ n. n) (AcceptorLook (step slots (acceptor_at j) 0 0 none) me) seated
      (λ s rule at.
      let n = get_or s.words (acceptor_at j) 0 in
      let w : World = world_after me.0.opening rule.run in
      let word : IsAcceptorOf w j n = rule.words.acceptors j lt in
      let quiet = vote_quiet (after_promise me.0.node j (promised_in n) (accepted_in n)) j (accepted_in n) w in
      let takes = heard s rule at n word in
      record {
        steps = taken_by_hearing me.0.node j (promised_in n) (accepted_in n);
        node = after_hearing me.0.node j (promised_in n) (accepted_in n);
        answer = None;
        takes = takes;
        me = me_hearing me.0.node j (promised_in n) (accepted_in n);
        shows =
            subst (λ (ws : List ℕ). ShowsWorld me.0.opening.quorums.nodes (reached w (taken_by_hearing me.0.node j (promised_in n) (accepted_in n))) ws) (sym (set-get_or s.words (acceptor_at j) 0))
            (shows_read me.0.opening.quorums.nodes w (reached w (taken_by_hearing me.0.node j (promised_in n) (accepted_in n))) s.words 0 rule.words quiet.0 quiet.1);
        told = λ a i e il.
            let same : j ≡ i = omega arith in
            subst (λ (k : ℕ). LooksAtAcceptor k n me.0 (view_with me.0 (events_of (taken_by_hearing me.0.node j (promised_in n) (accepted_in n)) ++ rule.run) (after_hearing me.0.node j (promised_in n) (accepted_in n)))) same
            record {
              advances = a;
              shows =
                  subst (λ (x : World). IsAcceptorOf x j n) (sym (world_after-events me.0.opening (taken_by_hearing me.0.node j (promised_in n) (accepted_in n)) rule.run))
                  (quiet.1 j n word);
            };
      })
    where
      heard : (s : State S View) (rule : RoomRule me.0.opening s) → get_elem? s.views id ≡ some me.0 → (n : ℕ) → IsAcceptorOf (world_after me.0.opening rule.run) j n
          → TakesLate me.0.opening.quorums (world_after me.0.opening rule.run) (taken_by_hearing me.0.node j (promised_in n) (accepted_in n)) (after_hearing me.0.node j (promised_in n) (accepted_in n)) None
      heard s rule at n word =
          let w : World = world_after me.0.opening rule.run in
          subst (λ (p : ℕ). TakesLate me.0.opening.quorums w (taken_by_hearing me.0.node j p (accepted_in n)) (after_hearing me.0.node j p (accepted_in n)) None) (sym word.tells_promised)
          (subst (λ (x : Option Vote). TakesLate me.0.opening.quorums w (taken_by_hearing me.0.node j (w.nodes j).promised x) (after_hearing me.0.node j (w.nodes j).promised x) None) (sym word.tells_accepted)
          (hearing_takes me.0.opening.quorums w (reached_now s id me.0 rule at seated) j lt me.0.node (belongs_now s id me.0 rule at seated)))
