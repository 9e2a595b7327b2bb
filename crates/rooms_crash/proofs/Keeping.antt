-- Each call of a seat keeps it of its run.
use Rattle.std.proofs.Common.{◌≡◌, ℕ, zero, suc, ◌≤◌, ◌*◌, ◌<◌, Bool, true, false, cond, leb, IsTrue, IfSome, List, [], ◌∷◌, set, get_or, Option, Some, None, option_map, refl, sym, ap, ◌∙◌, subst, inl, inr, arith}
use Rattle.paxos_core_world.specs.KeptPart.{KeptPart, vote}
use Rattle.paxos_core_world.specs.Quorum.{Sizes}
use Rattle.paxos_core_world.specs.Step.{Label}
use Rattle.paxos_core_world.specs.World.{World, Has}
use Rattle.paxos_core_world.specs.declared.msg.Msg.TheVariants.{Prepare, Propose}
use Rattle.paxos_core_world.specs.declared.vote.Vote.{Vote}
use Rattle.paxos_core_crash.specs.LateOffer.{BelongsWithLateOffer}
use Rattle.paxos_core_node_steps.specs.Acceptor.{accepts, promises}
use Rattle.paxos_core_node_steps.specs.NodeState.{NodeState, offered, restarted}
use Rattle.paxos_core_node_steps.specs.Proposer.{choice, may_propose, next_ballot, next_proposal, propose_message, proposal_under, started, after_answer}
use Rattle.paxos_core_node_steps.specs.Notes.{highest_below}
use Rattle.paxos_core_node_steps.specs.Taken.{taken_by_restart}
use Rattle.paxos_core_node_steps.specs.Would.{after_act}
use Rattle.paxos_core_node_steps.specs.declared.step.Act.{Act as CoreAct}
use Rattle.paxos_core_node_steps.specs.declared.step.Act.TheVariants as core_act
use Rattle.paxos_core_node_steps.specs.declared.step.Step.{Step}
use Rattle.paxos_core_node_steps.specs.declared.step.Step.TheVariants as step
use Rattle.rooms_words.specs.Sight.{ProposerSeen}
use Rattle.rooms_words.specs.WordsOf.{proposed_by}
use Rattle.rooms_meeting.proofs.OfferLemmas.{hearing_offered, message_offered, proposed_offered}
use Rattle.rooms_meeting.proofs.Stays.{proposer_seen}
use Rattle.rooms_words.specs.declared.acceptor.AcceptorWord.{AcceptorWord}
use Rattle.rooms_meeting.specs.Did.{Did, Forgotten, LookedAtAcceptor, LookedAtProposer}
use Rattle.rooms_words.specs.declared.event.Event.{Event}
use Rattle.rooms_words.specs.Heard.{after_hearing, taken_by_hearing}
use Rattle.rooms_words.specs.declared.view.Opening.{Opening}
use Rattle.rooms_words.specs.declared.proposer.ProposerWord.{ProposerWord}
use Rattle.rooms_meeting.specs.SeatState.{CanOpen, SeatState, no_proposer, opened_seat, seen_world}
use Rattle.rooms_words.specs.Steps.{Advances, Forgot}
use Rattle.rooms_words.specs.declared.view.View.{View}
use Rattle.rooms_words.specs.Views.{world_after}
use Rattle.rooms_meeting.specs.Would.{would, act_of, proposed_by_step, Acted}
use Rattle.rooms_meeting.specs.SeatAct.{SeatAct}
use Rattle.rooms_meeting.specs.SeatAct.TheVariants as act
use Rattle.rooms_meeting.proofs.HearLemmas.{me_hearing}
use Rattle.rooms_meeting.proofs.Moves.{kept_hearing, proposer_stays_seen}
use Rattle.rooms_meeting.proofs.Opened.{opened_sound}
use Rattle.rooms_words.proofs.RunLemmas.{legal_reached}
use Rattle.rooms_meeting.proofs.Told.{notes_of}
use Rattle.rooms_meeting.specs.Met.{told_by, HaveMet, IsKnown, LookedAtBoth, LookedAtFirst}
use Rattle.rooms_meeting.specs.RoomAt.{HasWords, RoomAt}
use Rattle.rooms_crash.specs.Calls.{CallsKeepRun, HasOfferedFor}
use Rattle.rooms_crash.specs.OfRun.{GoesOn, IsOfRun, StandsInRun}
use Rattle.rooms_crash.proofs.Offering.{LeaveOffer, act_leaves, hearing_leaves, restart_leaves, stood_before}

quorums_of : (q : Sizes) (w : World) (s : NodeState) → BelongsWithLateOffer q w s → s.quorums ≡ q
quorums_of q w s (inl h) = h.quorums
quorums_of q w s (inr h) = h.quorums

-- ---- a seat whose view has come to a longer run, by steps of its node and of others

module _ (old : SeatState) (h : StandsInRun old) (steps : List Label) (t : NodeState) (run : List Event)
    (a : Advances old.view steps t (record old.view { seen = run; node = t })) (node : NodeState) (tie : t ≡ offered node) where
  abbrev after : World
  after = world_after old.view.opening run

  mine : old.view.node.me ≡ old.node.me
  mine = ap (λ (s : NodeState). s.me) h.node

  -- what it had seen of proposers was sent there too
  still_seen : (j : ℕ) → j < old.view.opening.quorums.nodes → ProposerSeen (world_after old.view.opening run) j (get_or old.proposers j no_proposer)
  still_seen j lt = proposer_stays_seen old.view steps t (record old.view { seen = run; node = t }) a h.legal j (get_or old.proposers j no_proposer) (h.proposers j lt)

  -- an offer that stands there was made, where these steps offer nothing
  still_made : LeaveOffer old.view.node.me steps → node.me ≡ old.node.me → node.kept.offered ≡ old.node.kept.offered
      → IsTrue ((world_after old.view.opening run).nodes node.me).offered → IsTrue node.kept.offered
  still_made leave me kept o =
      let there : IsTrue ((world_after old.view.opening run).nodes old.view.node.me).offered =
      subst (λ (i : ℕ). IsTrue ((world_after old.view.opening run).nodes i).offered) (me ∙ sym mine) o in
      let before : IsTrue ((seen_world old).nodes old.node.me).offered =
      subst (λ (i : ℕ). IsTrue ((seen_world old).nodes i).offered) mine (stood_before old.view steps t (record old.view { seen = run; node = t }) a leave there) in
      subst (λ (b : Bool). IsTrue b) (sym kept) (h.made before)

  stands_after : (ps : List ProposerWord) → ((j : ℕ) → j < old.view.opening.quorums.nodes → ProposerSeen (world_after old.view.opening run) j (get_or ps j no_proposer))
      → (IsTrue ((world_after old.view.opening run).nodes node.me).offered → IsTrue node.kept.offered) → (p : Option ℕ) (bs : List AcceptorWord)
      → StandsInRun (record old { view = record old.view { seen = run; node = t }; node = node; proposed = p; proposers = ps; acceptors = bs })
  stands_after ps seen made p bs = record {
    quorums = ap (λ (s : NodeState). s.quorums) (sym tie) ∙ quorums_of old.view.opening.quorums (world_after old.view.opening run) t a.belongs;
    node = tie;
    legal = a.legal;
    belongs = a.belongs;
    proposers = seen;
    made = made;
  }

-- ---- the looks

set_or : (xs : List ProposerWord) (j i : ℕ) (x d : ProposerWord) (P : ProposerWord → Type 0) → (i ≡ j → P x) → P (get_or xs i d) → P (get_or (set xs j x) i d)
set_or [] j i x d P new old = old
set_or (y ∷ ys) zero zero x d P new old = new refl
set_or (y ∷ ys) zero (suc i) x d P new old = old
set_or (y ∷ ys) (suc j) zero x d P new old = old
set_or (y ∷ ys) (suc j) (suc i) x d P new old = set_or ys j i x d P (λ e. new (ap suc e)) old

module _ (j : ℕ) (x : ProposerWord) (old new : SeatState) (look : LookedAtProposer j x old new) (h : StandsInRun old) where
  seen_view : View
  seen_view = record old.view { seen = new.view.seen; node = old.view.node }

  seen_is : new ≡ record old { view = record old.view { seen = new.view.seen; node = old.view.node }; proposers = set old.proposers j x }
  seen_is = look.after ∙ ap (λ (z : View). record old { view = z; proposers = set old.proposers j x }) look.advances.stays

  adv : Advances old.view [] old.view.node (record old.view { seen = new.view.seen; node = old.view.node })
  adv = subst (λ (z : View). Advances old.view [] old.view.node z) look.advances.stays look.advances

  opening_is : new.view.opening ≡ old.view.opening
  opening_is = ap (λ (z : View). z.opening) look.advances.stays

  found : j < old.view.opening.quorums.nodes → ProposerSeen (world_after old.view.opening new.view.seen) j x
  found lt =
      proposer_seen old.view.opening.quorums (world_after old.view.opening new.view.seen) j x
      (legal_reached old.view.opening new.view.seen look.advances.legal) lt
      (look.started ∙ ap (λ (o : Opening). ((world_after o new.view.seen).nodes j).started) opening_is)
      (look.proposed ∙ ap (λ (o : Opening). proposed_by (world_after o new.view.seen) j) opening_is)

  proposer_looked : StandsInRun new
  proposer_looked =
      subst (λ (s : SeatState). StandsInRun s) (sym seen_is)
      (stands_after old h [] old.view.node new.view.seen adv old.node h.node (set old.proposers j x)
      (λ i lt.
      set_or old.proposers j i x no_proposer (λ (y : ProposerWord). ProposerSeen (world_after old.view.opening new.view.seen) i y)
      (λ e. subst (λ (k : ℕ). ProposerSeen (world_after old.view.opening new.view.seen) k x) (sym e)
      (found (subst (λ (k : ℕ). k < old.view.opening.quorums.nodes) e lt)))
      (still_seen old h [] old.view.node new.view.seen adv old.node h.node i lt))
      (still_made old h [] old.view.node new.view.seen adv old.node h.node tt refl refl) old.proposed old.acceptors)

module _ (j : ℕ) (x : AcceptorWord) (old new : SeatState) (look : LookedAtAcceptor j x old new) (h : StandsInRun old) where
  heard : NodeState
  heard = after_hearing old.view.node j x.promised x.accepted

  heard_is : new
      ≡ record old {
        view = record old.view { seen = new.view.seen; node = after_hearing old.view.node j x.promised x.accepted };
        node = after_hearing old.node j x.promised x.accepted;
        acceptors = set old.acceptors j x;
      }
  heard_is =
      look.after
      ∙ ap (λ (z : View). record old { view = z; node = after_hearing old.node j x.promised x.accepted; acceptors = set old.acceptors j x }) look.advances.stays

  heard_adv : Advances old.view (taken_by_hearing old.view.node j x.promised x.accepted) (after_hearing old.view.node j x.promised x.accepted)
      (record old.view { seen = new.view.seen; node = after_hearing old.view.node j x.promised x.accepted })
  heard_adv =
      subst (λ (z : View). Advances old.view (taken_by_hearing old.view.node j x.promised x.accepted) (after_hearing old.view.node j x.promised x.accepted) z)
      look.advances.stays look.advances

  heard_tie : after_hearing old.view.node j x.promised x.accepted ≡ offered (after_hearing old.node j x.promised x.accepted)
  heard_tie = ap (λ (s : NodeState). after_hearing s j x.promised x.accepted) h.node ∙ hearing_offered old.node j x.promised x.accepted

  acceptor_looked : StandsInRun new
  acceptor_looked =
      subst (λ (s : SeatState). StandsInRun s) (sym heard_is)
      (stands_after old h (taken_by_hearing old.view.node j x.promised x.accepted) (after_hearing old.view.node j x.promised x.accepted) new.view.seen heard_adv
      (after_hearing old.node j x.promised x.accepted) heard_tie old.proposers
      (still_seen old h (taken_by_hearing old.view.node j x.promised x.accepted) (after_hearing old.view.node j x.promised x.accepted) new.view.seen heard_adv
      (after_hearing old.node j x.promised x.accepted) heard_tie)
      (still_made old h (taken_by_hearing old.view.node j x.promised x.accepted) (after_hearing old.view.node j x.promised x.accepted) new.view.seen heard_adv
      (after_hearing old.node j x.promised x.accepted) heard_tie (hearing_leaves old.view.node.me old.view.node j x.promised x.accepted)
      (me_hearing old.node j x.promised x.accepted) (kept_hearing old.node j x.promised x.accepted (λ (k : KeptPart). k.offered)))
      old.proposed (set old.acceptors j x))

pub looked_at_proposer : (j : ℕ) (x : ProposerWord) (old new : SeatState) → LookedAtProposer j x old new → IsOfRun old → IsOfRun new
looked_at_proposer j x old new look h = record {
  stands = proposer_looked j x old new look h.stands;
  offered_first = λ b e.
      ap (λ (s : SeatState). s.node.kept.offered) look.after ∙ h.offered_first b (sym (ap (λ (s : SeatState). s.node.ballot) look.after) ∙ e);
}

pub looked_at_acceptor : (j : ℕ) (x : AcceptorWord) (old new : SeatState) → LookedAtAcceptor j x old new → IsOfRun old → IsOfRun new
looked_at_acceptor j x old new look h =
    let notes = notes_of j x old new look in
    record {
      stands = acceptor_looked j x old new look h.stands;
      offered_first = λ b e. ap (λ (k : KeptPart). k.offered) notes.kept ∙ h.offered_first b (sym notes.ballot ∙ e);
    }

-- ---- the acts

offered_if : (t : Bool) (s u : NodeState) → cond t (offered u) (offered s) ≡ offered (cond t u s)
offered_if true s u = refl
offered_if false s u = refl

-- an act of the node held as if it had offered is that of the node, a proposal where it would propose itself
abbrev WouldAs : CoreAct → NodeState → Type 0
WouldAs core_act.Start s = Unit {0}
WouldAs (core_act.Promise b) s = Unit {0}
WouldAs core_act.Propose s = (p : ℕ × ℕ) × (next_proposal s ≡ Some p)
WouldAs (core_act.Accept b v) s = Unit {0}

tied : (s : NodeState) (a : CoreAct) → WouldAs a s → after_act (offered s) a ≡ offered (after_act s a)
tied s core_act.Start h = offered_if (leb (next_ballot s) 65535) s (started s)
tied s (core_act.Promise b) h = message_offered s (Prepare b)
tied s core_act.Propose h = proposed_offered s h.0 h.1
tied s (core_act.Accept b v) h = message_offered s (Propose b v)

field_if : {A : Type 0} (f : NodeState → A) (t : Bool) (s u : NodeState) → f u ≡ f s → f (cond t u s) ≡ f s
field_if f true s u e = e
field_if f false s u e = refl

field_answer : {A : Type 0} (f : NodeState → A) (s : NodeState) (o : Option (ℕ × ℕ)) → f (record s { proposed = true }) ≡ f s
    → f (after_answer s (propose_message o)) ≡ f s
field_answer f s None e = refl
field_answer f s (Some p) e = e

me_act : (s : NodeState) (a : CoreAct) → (after_act s a).me ≡ s.me
me_act s core_act.Start = field_if (λ (n : NodeState). n.me) (leb (next_ballot s) 65535) s (started s) refl
me_act s (core_act.Promise b) = field_if (λ (n : NodeState). n.me) (promises s b) s _ refl
me_act s core_act.Propose = field_answer (λ (n : NodeState). n.me) s (next_proposal s) refl
me_act s (core_act.Accept b v) = field_if (λ (n : NodeState). n.me) (accepts s (vote b v)) s _ refl

offered_act : (s : NodeState) (a : CoreAct) → (after_act s a).kept.offered ≡ s.kept.offered
offered_act s core_act.Start = field_if (λ (n : NodeState). n.kept.offered) (leb (next_ballot s) 65535) s (started s) refl
offered_act s (core_act.Promise b) = field_if (λ (n : NodeState). n.kept.offered) (promises s b) s _ refl
offered_act s core_act.Propose = field_answer (λ (n : NodeState). n.kept.offered) s (next_proposal s) refl
offered_act s (core_act.Accept b v) = field_if (λ (n : NodeState). n.kept.offered) (accepts s (vote b v)) s _ refl

-- the ballot under way is as it was, but after a start
ballot_act : (s : NodeState) (a : CoreAct) → (a ≡ core_act.Start → ⊥) → (after_act s a).ballot ≡ s.ballot
ballot_act s core_act.Start other = absurd (other refl)
ballot_act s (core_act.Promise b) other = field_if (λ (n : NodeState). n.ballot) (promises s b) s _ refl
ballot_act s core_act.Propose other = field_answer (λ (n : NodeState). n.ballot) s (next_proposal s) refl
ballot_act s (core_act.Accept b v) other = field_if (λ (n : NodeState). n.ballot) (accepts s (vote b v)) s _ refl

-- who proposes has a ballot under way
has_ballot : (o : Option ℕ) (t : Bool) (c : Option ℕ) (p : ℕ × ℕ) → proposal_under o t c ≡ Some p → (b : ℕ) × (o ≡ Some b)
has_ballot None t c p e = absurd (cc)
has_ballot (Some b) t c p e = (b, refl)

proposes_offered : (s : SeatState) → IsOfRun s → (p : ℕ × ℕ) → next_proposal s.node ≡ Some p → s.node.kept.offered ≡ true
proposes_offered s h p e =
    let b = has_ballot s.node.ballot (may_propose s.node) (choice (highest_below s.node.quorums.nodes s.node.promises) s.node.kept.offered s.node.me) p e in
    h.offered_first b.0 b.1

module _ (a : CoreAct) (p : Option ℕ) (old new : SeatState) (did : Did a p old new) (h : IsOfRun old) (may : WouldAs a old.node) where
  t : NodeState
  t = after_act old.view.node a

  did_is : new ≡ record old { view = record old.view { seen = new.view.seen; node = after_act old.view.node a }; node = after_act old.node a; proposed = p }
  did_is = did.after ∙ ap (λ (z : View). record old { view = z; node = after_act old.node a; proposed = p }) did.took.advances.stays

  did_adv : Advances old.view did.took.steps (after_act old.view.node a) (record old.view { seen = new.view.seen; node = after_act old.view.node a })
  did_adv = subst (λ (z : View). Advances old.view did.took.steps (after_act old.view.node a) z) did.took.advances.stays did.took.advances

  did_tie : after_act old.view.node a ≡ offered (after_act old.node a)
  did_tie = ap (λ (s : NodeState). after_act s a) h.stands.node ∙ tied old.node a may

  -- a proposal is of a node that has offered, and with no other act it offers
  did_made : IsTrue ((world_after old.view.opening new.view.seen).nodes (after_act old.node a).me).offered → IsTrue (after_act old.node a).kept.offered
  did_made = by a refl may
    where
      others : (a ≡ core_act.Propose → ⊥) → IsTrue ((world_after old.view.opening new.view.seen).nodes (after_act old.node a).me).offered
          → IsTrue (after_act old.node a).kept.offered
      others other =
          still_made old h.stands did.took.steps (after_act old.view.node a) new.view.seen did_adv (after_act old.node a) did_tie
          (act_leaves old.view.node.me old.view.node a did.took.steps other did.took.taken) (me_act old.node a) (offered_act old.node a)

      by : (c : CoreAct) → a ≡ c → WouldAs c old.node → IsTrue ((world_after old.view.opening new.view.seen).nodes (after_act old.node a).me).offered
          → IsTrue (after_act old.node a).kept.offered
      by core_act.Start e w = others (λ (bad : a ≡ core_act.Propose). let no : core_act.Start ≡ core_act.Propose = sym e ∙ bad in absurd (cc))
      by (core_act.Promise b) e w = others (λ (bad : a ≡ core_act.Propose). let no : core_act.Promise b ≡ core_act.Propose = sym e ∙ bad in absurd (cc))
      by core_act.Propose e w = λ o. offered_act old.node a ∙ proposes_offered old h w.0 w.1
      by (core_act.Accept b v) e w = others (λ (bad : a ≡ core_act.Propose). let no : core_act.Accept b v ≡ core_act.Propose = sym e ∙ bad in absurd (cc))

  did_stands : StandsInRun new
  did_stands =
      subst (λ (s : SeatState). StandsInRun s) (sym did_is)
      (stands_after old h.stands did.took.steps (after_act old.view.node a) new.view.seen did_adv (after_act old.node a) did_tie old.proposers
      (still_seen old h.stands did.took.steps (after_act old.view.node a) new.view.seen did_adv (after_act old.node a) did_tie) did_made p old.acceptors)

  did_offered : new.node.kept.offered ≡ old.node.kept.offered
  did_offered = ap (λ (s : SeatState). s.node.kept.offered) did.after ∙ offered_act old.node a

  did_first : (a ≡ core_act.Start → old.node.kept.offered ≡ true) → (b : ℕ) → new.node.ballot ≡ Some b → new.node.kept.offered ≡ true
  did_first offered b e = by a refl
    where
      others : (a ≡ core_act.Start → ⊥) → new.node.kept.offered ≡ true
      others other =
          let same : new.node.ballot ≡ old.node.ballot = ap (λ (s : SeatState). s.node.ballot) did.after ∙ ballot_act old.node a other in
          did_offered ∙ h.offered_first b (sym same ∙ e)

      by : (c : CoreAct) → a ≡ c → new.node.kept.offered ≡ true
      by core_act.Start is = did_offered ∙ offered is
      by (core_act.Promise c) is = others (λ (bad : a ≡ core_act.Start). let no : core_act.Promise c ≡ core_act.Start = sym is ∙ bad in absurd (cc))
      by core_act.Propose is = others (λ (bad : a ≡ core_act.Start). let no : core_act.Propose ≡ core_act.Start = sym is ∙ bad in absurd (cc))
      by (core_act.Accept c v) is = others (λ (bad : a ≡ core_act.Start). let no : core_act.Accept c v ≡ core_act.Start = sym is ∙ bad in absurd (cc))

-- the step that the seat would take
some_parts : (p : ℕ × ℕ) (b v : ℕ) → step.Propose p.0 p.1 ≡ step.Propose b v → (p.0 ≡ b) × (p.1 ≡ v)
some_parts p b v e = (cc, cc)

proposal_told : (o : Option (ℕ × ℕ)) (s : Step) → option_map (λ (p : ℕ × ℕ). step.Propose p.0 p.1) o ≡ Some s → (p : ℕ × ℕ) × (o ≡ Some p) × (s ≡ step.Propose p.0 p.1)
proposal_told None s e = absurd (cc)
proposal_told (Some p) s e = (p, refl, cc)

start_told : (o : Option ℕ) (s : Step) → option_map step.Start o ≡ Some s → (b : ℕ) × (s ≡ step.Start b)
start_told None s e = absurd (cc)
start_told (Some b) s e = (b, cc)

promise_told : (o : Option ℕ) (s : Step) → option_map step.Promise o ≡ Some s → (b : ℕ) × (s ≡ step.Promise b)
promise_told None s e = absurd (cc)
promise_told (Some b) s e = (b, cc)

vote_told : (o : Option Vote) (s : Step) → option_map (λ (x : Vote). step.Accept x.ballot x.value) o ≡ Some s → (x : Vote) × (s ≡ step.Accept x.ballot x.value)
vote_told None s e = absurd (cc)
vote_told (Some x) s e = (x, cc)

-- what is asked, by the step that is taken
record Asked (a : SeatAct) (s : Step) (old : SeatState) : Type 0 where
  pub may : WouldAs (act_of s) old.node
  pub start : act_of s ≡ core_act.Start → a ≡ act.Start

asked : (a : SeatAct) (s : Step) (old : SeatState) → would old a ≡ Some s → Asked a s old
asked act.Start s old e =
    let told = start_told _ s e in
    subst (λ (x : Step). Asked act.Start x old) (sym told.1) (record { may = tt; start = λ is. refl })
asked (act.Promise j) s old e =
    let told = promise_told _ s e in
    subst (λ (x : Step). Asked (act.Promise j) x old) (sym told.1)
    (record { may = tt; start = λ is. let bad : core_act.Promise told.0 ≡ core_act.Start = is in absurd (cc) })
asked act.Propose s old e =
    let told = proposal_told _ s e in
    subst (λ (x : Step). Asked act.Propose x old) (sym told.2)
    (record { may = (told.0, told.1); start = λ is. let bad : core_act.Propose ≡ core_act.Start = is in absurd (cc) })
asked (act.Accept j) s old e =
    let told = vote_told _ s e in
    subst (λ (x : Step). Asked (act.Accept j) x old) (sym told.1)
    (record { may = tt; start = λ is. let bad : core_act.Accept told.0.ballot told.0.value ≡ core_act.Start = is in absurd (cc) })

module _ (a : SeatAct) (old new : SeatState) (acted : Acted a old new) (h : IsOfRun old) where
  did_of : (s : Step) → would old a ≡ Some s → Did (act_of s) (proposed_by_step s old.proposed) old new
  did_of s e = subst (λ (o : Option Step). IfSome o (λ x. Did (act_of x) (proposed_by_step x old.proposed) old new)) e acted.stepped

  stands_by : (o : Option Step) → would old a ≡ o → StandsInRun new
  stands_by None e = subst (λ (s : SeatState). StandsInRun s) (sym (acted.idle e)) h.stands
  stands_by (Some s) e = did_stands (act_of s) (proposed_by_step s old.proposed) old new (did_of s e) h (asked a s old e).may

  first_by : (o : Option Step) → would old a ≡ o → (a ≡ act.Start → old.node.kept.offered ≡ true) → (b : ℕ) → new.node.ballot ≡ Some b → new.node.kept.offered ≡ true
  first_by None e offered =
      subst (λ (s : SeatState). (b : ℕ) → s.node.ballot ≡ Some b → s.node.kept.offered ≡ true) (sym (acted.idle e)) h.offered_first
  first_by (Some s) e offered =
      let of = asked a s old e in
      did_first (act_of s) (proposed_by_step s old.proposed) old new (did_of s e) h of.may (λ is. offered (of.start is))

pub acted_stands : (a : SeatAct) (old new : SeatState) → Acted a old new → IsOfRun old → StandsInRun new
acted_stands a old new acted h = stands_by a old new acted h (would old a) refl

offered_for : (a : SeatAct) (s : SeatState) → HasOfferedFor a s → a ≡ act.Start → s.node.kept.offered ≡ true
offered_for act.Start s h e = h
offered_for (act.Promise j) s h e = absurd (cc)
offered_for act.Propose s h e = absurd (cc)
offered_for (act.Accept j) s h e = absurd (cc)

pub acted_of_run : (a : SeatAct) (old new : SeatState) → Acted a old new → HasOfferedFor a old → IsOfRun old → IsOfRun new
acted_of_run a old new acted offered h = record {
  stands = stands_by a old new acted h (would old a) refl;
  offered_first = first_by a old new acted h (would old a) refl (offered_for a old offered);
}

-- ---- the others

pub offered_of_run : (s : SeatState) → IsOfRun s → IsOfRun (record s { node = offered s.node })
offered_of_run s h = record {
  stands = record {
    quorums = h.stands.quorums;
    node = h.stands.node;
    legal = h.stands.legal;
    belongs = h.stands.belongs;
    proposers = h.stands.proposers;
    made = λ o. refl;
  };
  offered_first = λ b e. refl;
}

-- a load of an own word, with which the node forgets
forgot_once : (old : SeatState) (w : View) → StandsInRun old → Forgot old.view w → StandsInRun (record old { view = w; node = restarted old.node old.node.kept })
forgot_once old w h forgot =
    let adv : Advances old.view (taken_by_restart old.view.node) (restarted old.view.node old.view.node.kept) (record old.view { seen = w.seen; node = restarted old.view.node old.view.node.kept }) =
    subst (λ (z : View). Advances old.view (taken_by_restart old.view.node) (restarted old.view.node old.view.node.kept) z) forgot.stays forgot in
    let tie : restarted old.view.node old.view.node.kept ≡ offered (restarted old.node old.node.kept) = ap (λ (s : NodeState). restarted s s.kept) h.node in
    subst (λ (z : View). StandsInRun (record old { view = z; node = restarted old.node old.node.kept })) (sym forgot.stays)
    (stands_after old h (taken_by_restart old.view.node) (restarted old.view.node old.view.node.kept) w.seen adv (restarted old.node old.node.kept) tie old.proposers
    (still_seen old h (taken_by_restart old.view.node) (restarted old.view.node old.view.node.kept) w.seen adv (restarted old.node old.node.kept) tie)
    (still_made old h (taken_by_restart old.view.node) (restarted old.view.node old.view.node.kept) w.seen adv (restarted old.node old.node.kept) tie
    (restart_leaves old.view.node.me old.view.node) refl refl)
    old.proposed old.acceptors)

pub forgotten_of_run : (old new : SeatState) → Forgotten old new → StandsInRun old → IsOfRun new
forgotten_of_run old new f h =
    let mid : StandsInRun (record old { view = f.between; node = restarted old.node old.node.kept }) = forgot_once old f.between h f.first in
    subst (λ (s : SeatState). IsOfRun s) (sym f.after)
    (record {
      stands = forgot_once (record old { view = f.between; node = restarted old.node old.node.kept }) new.view mid f.second;
      offered_first = λ b e. let bad : None ≡ Some b = e in absurd (cc);
    })

-- ---- a meeting

looked_both : (j : ℕ) (old new : SeatState) → LookedAtBoth j old new → IsOfRun old → IsOfRun new
looked_both j old new both h = looked_at_acceptor j both.acceptor both.between new both.second (looked_at_proposer j both.proposer old both.between both.first h)

looked_first : (k : ℕ) (old new : SeatState) → LookedAtFirst k old new → IsOfRun old → IsOfRun new
looked_first zero old new e h = subst (λ (s : SeatState). IsOfRun s) (sym e) h
looked_first (suc k) old new (m, before, both) h = looked_both k m new both (looked_first k old m before h)

told_of_run : (a b : SeatState) → IsOfRun b → IsOfRun (told_by a b)
told_of_run a b h = record {
  stands = record {
    quorums = h.stands.quorums;
    node = h.stands.node;
    legal = h.stands.legal;
    belongs = h.stands.belongs;
    proposers = h.stands.proposers;
    made = h.stands.made;
  };
  offered_first = h.offered_first;
}

pub met_of_run : (a b a' b' : SeatState) → HaveMet a b a' b' → (IsOfRun a → IsOfRun a') × (IsOfRun b → IsOfRun b')
met_of_run a b a' b' met = (
  λ h. looked_first a.node.quorums.nodes (told_by b' a) a' met.first_looked (told_of_run b' a h),
  λ h. looked_first b.node.quorums.nodes (told_by a b) b' met.second_looked (told_of_run a b h),
)

-- ---- as a room opens

abbrev some_table : ℕ → RoomAt
some_table n = record {
  table = record { words = 2 * (n * 1); slots = 0; views_name = 0; atom = 0; block = 0; offset = 0; slot_names = [] };
  rooms = 1;
  room = 0;
  number = 0;
}

some_words : (n : ℕ) → n ≤ 7 → HasWords (some_table n) n
some_words n low = record { some = omega arith; few = omega arith; most = low; words = refl }

pub opened_of_run : (table : RoomAt) (o : Opening) (i : ℕ) → CanOpen o → i < o.quorums.nodes → IsOfRun (opened_seat table o i)
opened_of_run table o i can lt =
    let sound = opened_sound (some_table o.quorums.nodes) o i (some_words o.quorums.nodes can.sizes.most) can lt in
    record {
      stands = record {
        quorums = refl;
        node = refl;
        legal = sound.legal;
        belongs = sound.belongs;
        proposers = sound.proposers;
        made = λ o. o;
      };
      offered_first = λ b e. let bad : None ≡ Some b = e in absurd (cc);
    }

-- ---- what it knows

learned_there : (q : Sizes) (w : World) (s : NodeState) → BelongsWithLateOffer q w s → (v : ℕ) → s.learned ≡ Some v → Has (s.me, v) w.learned
learned_there q w s (inl h) v e = h.learned v e
learned_there q w s (inr h) v e = h.learned v e

pub stands_known : (s : SeatState) → StandsInRun s → IsKnown s
stands_known s h = record {
  legal = h.legal;
  belongs = h.belongs;
  learned = λ v e.
      subst (λ (i : ℕ). Has (i, v) (seen_world s).learned) (ap (λ (n : NodeState). n.me) h.node)
      (learned_there s.view.opening.quorums (seen_world s) s.view.node h.belongs v (ap (λ (n : NodeState). n.learned) h.node ∙ e));
}

-- ---- how a seat goes on

pub goes_same : (s : SeatState) → GoesOn s s
goes_same s = record { opening = refl; of_run = λ h. h }

pub goes_to : (s t : SeatState) → t ≡ s → GoesOn s t
goes_to s t e = subst (λ (u : SeatState). GoesOn s u) (sym e) (goes_same s)

pub goes_through : (a b c : SeatState) → GoesOn a b → GoesOn b c → GoesOn a c
goes_through a b c h k = record { opening = k.opening ∙ h.opening; of_run = λ x. k.of_run (h.of_run x) }

pub goes_looking_at_proposer : (j : ℕ) (x : ProposerWord) (old new : SeatState) → LookedAtProposer j x old new → GoesOn old new
goes_looking_at_proposer j x old new look = record {
  opening = ap (λ (z : View). z.opening) look.advances.stays;
  of_run = looked_at_proposer j x old new look;
}

pub goes_looking_at_acceptor : (j : ℕ) (x : AcceptorWord) (old new : SeatState) → LookedAtAcceptor j x old new → GoesOn old new
goes_looking_at_acceptor j x old new look = record {
  opening = ap (λ (z : View). z.opening) look.advances.stays;
  of_run = looked_at_acceptor j x old new look;
}

pub acted_opening : (a : SeatAct) (old new : SeatState) → Acted a old new → new.view.opening ≡ old.view.opening
acted_opening a old new acted = by (would old a) refl
  where
    by : (o : Option Step) → would old a ≡ o → new.view.opening ≡ old.view.opening
    by None e = ap (λ (s : SeatState). s.view.opening) (acted.idle e)
    by (Some s) e =
        let did : Did (act_of s) (proposed_by_step s old.proposed) old new =
        subst (λ (o : Option Step). IfSome o (λ x. Did (act_of x) (proposed_by_step x old.proposed) old new)) e acted.stepped in
        ap (λ (z : View). z.opening) did.took.advances.stays

pub goes_acting : (a : SeatAct) (old new : SeatState) → Acted a old new → HasOfferedFor a old → GoesOn old new
goes_acting a old new acted offered = record {
  opening = acted_opening a old new acted;
  of_run = acted_of_run a old new acted offered;
}

pub goes_offering : (s : SeatState) → GoesOn s (record s { node = offered s.node })
goes_offering s = record { opening = refl; of_run = offered_of_run s }

pub forgotten_opening : (old new : SeatState) → Forgotten old new → new.view.opening ≡ old.view.opening
forgotten_opening old new f = ap (λ (z : View). z.opening) f.second.stays ∙ ap (λ (z : View). z.opening) f.first.stays

pub goes_forgetting : (old new : SeatState) → Forgotten old new → GoesOn old new
goes_forgetting old new f = record {
  opening = forgotten_opening old new f;
  of_run = λ h. forgotten_of_run old new f h.stands;
}

pub goes_done : (a : SeatAct) (old between new : SeatState) → Acted a old between → Forgotten between new → GoesOn old new
goes_done a old between new acted f = record {
  opening = forgotten_opening between new f ∙ acted_opening a old between acted;
  of_run = λ h. forgotten_of_run between new f (acted_stands a old between acted h);
}

pub goes_meeting : (a b a' b' : SeatState) → HaveMet a b a' b' → GoesOn a a' × GoesOn b b'
goes_meeting a b a' b' met = (
  record { opening = met.first.opening; of_run = (met_of_run a b a' b' met).0 },
  record { opening = met.second.opening; of_run = (met_of_run a b a' b' met).1 },
)

pub calls_keep_run : CallsKeepRun
calls_keep_run = record {
  opened = opened_of_run;
  looked_at_proposer = goes_looking_at_proposer;
  looked_at_acceptor = goes_looking_at_acceptor;
  acted = goes_acting;
  offered = goes_offering;
  forgotten = goes_forgetting;
  done_and_forgotten = goes_done;
  met = goes_meeting;
}
