-- What the stores of a seat ask and leave.
use Rattle.std.proofs.Common.{◌≡◌, ℕ, ◌+◌, ◌*◌, ◌<◌, ◌≤◌, Bool, true, false, cond, leb, ltb, List, get_or, Option, Some, None, IfSome, refl, sym, ap, ◌∙◌, subst, inl, inr, arith}
use Rattle.std.proofs.lemmas.Bool.{and_parts, ltb-true, le-leb, cond-true}
use mathlib.Core.Option.{none}
use Rattle.rooms_table.specs.RoomAt.{RoomAt}
use Rattle.atomic_table.specs.Table.{Me, step, Allows}
use Rattle.paxos_core_world.specs.KeptPart.{KeptPart, with_promise, with_vote, vote}
use Rattle.paxos_core_world.specs.Quorum.{Sizes}
use Rattle.paxos_core_world.specs.Run.{reached}
use Rattle.paxos_core_world.specs.Settled.{is_given}
use Rattle.paxos_core_world.specs.Step.{Label, Promises, Accepts}
use Rattle.paxos_core_world.specs.World.{World, Has}
use Rattle.paxos_core_world.specs.declared.msg.Msg.{Msg}
use Rattle.paxos_core_world.specs.declared.msg.Msg.TheVariants.{Prepare, Propose}
use Rattle.paxos_core_world.specs.declared.vote.Vote.{Vote}
use Rattle.paxos_core_node_steps.specs.Acceptor.{is_vote, promises, accepts, after_prepare, after_propose}
use Rattle.paxos_core_node_steps.specs.Message.{after_message}
use Rattle.paxos_core_node_steps.specs.NodeState.{NodeState, offered}
use Rattle.paxos_core_node_steps.specs.Proposer.{next_ballot, started, next_proposal, propose_message, after_answer, after_proposal}
use Rattle.paxos_core_node_steps.specs.Reached.{IsReached}
use Rattle.paxos_core_node_steps.specs.Would.{after_act, next_promise, next_vote}
use Rattle.paxos_core_node_steps.specs.declared.step.Act.{Act}
use Rattle.paxos_core_node_steps.specs.declared.step.Act.TheVariants as act
use Rattle.rooms_words.specs.LateOffer.{taken_late_by_propose}
use Rattle.rooms_words.proofs.LateLemmas.{offers_may_be_late}
use Rattle.rooms_words.specs.Words.{proposed_in, IsProposerWord, IsAcceptorWord}
use Rattle.rooms_words.specs.declared.acceptor.AcceptorWord.{AcceptorWord}
use Rattle.rooms_words.specs.declared.proposer.ProposerWord.{ProposerWord}
use Rattle.rooms_words.specs.declared.view.Opening.{Opening}
use Rattle.rooms_words.specs.declared.view.View.{View}
use Rattle.rooms_words.specs.Rule.{RoomRule}
use Rattle.rooms_words.specs.Steps.{Advances, AreTakenBy, Took, StoresProposer, StoresAcceptor, StartStore, ProposeStore, PromiseStore, AcceptStore}
use Rattle.rooms_words.specs.Views.{world_after}
use Rattle.rooms_words.specs.WordsOf.{IsProposerOf}
use Rattle.rooms_steps.proofs.HearLemmas.{invariant_of}
use Rattle.rooms_steps.proofs.OfferLemmas.{message_offered, proposal_offered, proposed_offered}
use Rattle.rooms_words.proofs.RunLemmas.{legal_reached, reached_more, kept_of}
use Rattle.rooms_steps.proofs.Stores.{keeps_if, stores_promise, stores_vote, stores_start, stores_proposal}
use Rattle.rooms_seat_state.specs.SeatState.{SeatState, no_proposer, seen_world, vote_by}
use Rattle.rooms_seat_state.specs.Sound.{IsSound}
use Rattle.rooms_seat_state.proofs.Moves.{nodes_are, number_below, own_stays, store_sound}

-- ---- what answers tell

pub may_promise : (t : Bool) (b c : ℕ) → ◌≡◌ {A = Option ℕ} (Some b) (cond t (Some c) None) → (t ≡ true) × (b ≡ c)
may_promise true b c e = (refl, cc)
may_promise false b c e = absurd (cc)

may_vote : (t : Bool) (x y : Vote) → ◌≡◌ {A = Option Vote} (Some x) (cond t (Some y) None) → (t ≡ true) × (x ≡ y)
may_vote true x y e = (refl, cc)
may_vote false x y e = absurd (cc)

unless_given : (t : Bool) (x : Vote) (o : Option Vote) → Some x ≡ cond t None o → Some x ≡ o
unless_given true x o e = absurd (cc)
unless_given false x o e = e

-- the vote that the node would give for what it has seen: the proposal that it saw
pub vote_seen : (s : NodeState) (b : ℕ) (p : Option ℕ) (x : Vote) → Some x ≡ vote_by s b p → (accepts s x ≡ true) × (p ≡ Some x.value) × (x.ballot ≡ b)
vote_seen s b None x e = absurd (cc)
vote_seen s b (Some v) x e =
    let told = may_vote (accepts s (vote b v)) x (vote b v) (unless_given (is_given (vote b v) s.kept.accepted) x (next_vote s (vote b v)) e) in (
      subst (λ (y : Vote). accepts s y ≡ true) (sym told.1) told.0,
      ap (λ (y : Vote). Some y.value) (sym told.1),
      ap (λ (y : Vote). y.ballot) told.1,
    )

-- ---- what fits a word

module _ (s : SeatState) (sound : IsSound s) where
  n : ℕ
  n = s.view.opening.quorums.nodes

  r : IsReached s.view.opening.quorums (seen_world s)
  r = legal_reached s.view.opening s.view.seen sound.legal

  -- a vote that is kept is for a node of the room
  pub kept_value : (x : Vote) → s.node.kept.accepted ≡ Some x → x.value < 256
  kept_value x e =
      let lt : s.view.node.me < s.view.opening.quorums.nodes = number_below s.view.opening.quorums (seen_world s) s.view.node sound.belongs in
      let at : ((seen_world s).nodes s.view.node.me).accepted ≡ Some x =
      kept_of s.view.opening.quorums (seen_world s) s.view.node (λ (k : KeptPart). k.accepted) (λ k. refl) sound.belongs ∙ (ap (λ (t : NodeState). t.kept.accepted) sound.node ∙ e) in
      let all = invariant_of s.view.opening.quorums (seen_world s) r in
      let low : x.value < s.view.opening.quorums.nodes = (all.offered x.ballot x.value (inr (s.view.node.me, all.kept s.view.node.me x lt at))).0 in
      let count : s.node.quorums.nodes ≡ s.view.opening.quorums.nodes = nodes_are s sound in
      let most : s.node.quorums.nodes ≤ 7 = sound.most in
      omega arith

  pub given_value : (x : Vote) → accepts s.node x ≡ true → x.value < 256
  given_value x e =
      let parts = and_parts (is_vote s.node.quorums.nodes x) _ e in
      let low : x.value < s.node.quorums.nodes = ltb-true x.value s.node.quorums.nodes (and_parts (ltb 0 x.ballot) _ parts.0).1 in
      let most : s.node.quorums.nodes ≤ 7 = sound.most in
      omega arith

  pub given_ballot : (x : Vote) → accepts s.node x ≡ true → 1 ≤ x.ballot
  given_ballot x e =
      let parts = and_parts (is_vote s.node.quorums.nodes x) _ e in
      let low : 0 < x.ballot = ltb-true 0 x.ballot (and_parts (ltb 0 x.ballot) _ parts.0).0 in
      omega arith

  -- what is proposed is a node of the room
  pub proposed_value : (b v : ℕ) → next_proposal s.node ≡ Some (b, v) → v < 255
  proposed_value b v e =
      let own : next_proposal s.view.node ≡ Some (b, v) = ap next_proposal sound.node ∙ proposal_offered s.node (b, v) e in
      let done = offers_may_be_late.propose s.view.node s.view.opening.quorums (seen_world s) r sound.belongs in
      let steps = taken_late_by_propose (seen_world s) s.view.node in
      let sent : Has (Propose b v) (reached (seen_world s) (taken_late_by_propose (seen_world s) s.view.node)).sent =
      subst (λ (m : Option (ℕ × ℕ)). IfSome (propose_message m) (λ m. Has m (reached (seen_world s) (taken_late_by_propose (seen_world s) s.view.node)).sent)) own done.sent in
      let low : v < s.view.opening.quorums.nodes =
      ((invariant_of s.view.opening.quorums (reached (seen_world s) (taken_late_by_propose (seen_world s) s.view.node))
      (reached_more s.view.opening.quorums (seen_world s) (taken_late_by_propose (seen_world s) s.view.node) r done.run)).offered b v (inl sent)).0 in
      let count : s.node.quorums.nodes ≡ s.view.opening.quorums.nodes = nodes_are s sound in
      let most : s.node.quorums.nodes ≤ 7 = sound.most in
      omega arith

-- ---- what the stores ask

module _ {S : Type 0} (t : RoomAt) (o : Opening) (slots id : ℕ) (me : Me S View) (s : NodeState) (p : Option ℕ) (xs : List ProposerWord) (ys : List AcceptorWord)
    (sound : IsSound record { table = t; view = me.0; node = s; proposed = p; proposers = xs; acceptors = ys }) (place number : ℕ) (at : place ≡ s.me) where
  here : me.0.node.me ≡ place
  here = ap (λ (x : NodeState). x.me) sound.node ∙ sym at

  pub start_allowed : next_ballot s ≤ 65535 → IsProposerWord number (next_ballot s) None
      → Allows (RoomRule o) slots id me (2 * place) (λ _. number) (λ _. StartStore (step slots (2 * place) number 0 none) me number)
  start_allowed last word =
      subst (λ (i : ℕ). Allows (RoomRule o) slots id me (2 * i) (λ _. number) (λ _. StartStore (step slots (2 * i) number 0 none) me number)) here
      (stores_start o slots id me number s sound.node sound.seated last word)

  pub propose_allowed : (b v : ℕ) → next_proposal s ≡ Some (b, v) → IsProposerWord number s.kept.started (Some v)
      → Allows (RoomRule o) slots id me (2 * place) (λ _. number) (λ _. ProposeStore (step slots (2 * place) number 0 none) me number)
  propose_allowed b v e word =
      subst (λ (i : ℕ). Allows (RoomRule o) slots id me (2 * i) (λ _. number) (λ _. ProposeStore (step slots (2 * i) number 0 none) me number)) here
      (stores_proposal o slots id me number s sound.node sound.seated b v e word)

  -- j was seen to have started the ballot
  pub promise_allowed : (j b : ℕ) → j < s.quorums.nodes → Some b ≡ next_promise s (get_or xs j no_proposer).started → IsAcceptorWord number b s.kept.accepted
      → Allows (RoomRule o) slots id me (2 * place + 1) (λ _. number) (λ _. PromiseStore (step slots (2 * place + 1) number 0 none) me number)
  promise_allowed j b lt e word =
      let c : ℕ = (get_or xs j no_proposer).started in
      let told = may_promise (promises s (get_or xs j no_proposer).started) b (get_or xs j no_proposer).started e in
      let may : promises s b ≡ true = subst (λ (d : ℕ). promises s d ≡ true) (sym told.1) told.0 in
      let low : s.kept.promised < b = ltb-true s.kept.promised b may in
      let sent : Has (Prepare b) (world_after me.0.opening me.0.seen).sent =
      subst (λ (d : ℕ). Has (Prepare d) (world_after me.0.opening me.0.seen).sent) (sym told.1)
      ((sound.proposers j (subst (λ (m : ℕ). j < m) (ap (λ (q : Sizes). q.nodes) sound.quorums) lt)).prepare (subst (λ (d : ℕ). 1 ≤ d) told.1 (omega arith))) in
      let kept : (after_prepare s b).kept ≡ with_promise b s.kept = ap (λ (q : Bool). (cond q (record s { kept = with_promise b s.kept }) s).kept) may in
      subst (λ (i : ℕ). Allows (RoomRule o) slots id me (2 * i + 1) (λ _. number) (λ _. PromiseStore (step slots (2 * i + 1) number 0 none) me number)) here
      (stores_promise o slots id me number s sound.node sound.seated b may sent (subst (λ (k : KeptPart). IsAcceptorWord number k.promised k.accepted) (sym kept) word))

  -- j was seen to have proposed the value
  pub vote_allowed : (j : ℕ) (x : Vote) → j < s.quorums.nodes → Some x ≡ vote_by s (get_or xs j no_proposer).started (get_or xs j no_proposer).proposed → IsAcceptorWord number x.ballot (Some x)
      → Allows (RoomRule o) slots id me (2 * place + 1) (λ _. number) (λ _. AcceptStore (step slots (2 * place + 1) number 0 none) me number)
  vote_allowed j x lt e word =
      let told = vote_seen s (get_or xs j no_proposer).started (get_or xs j no_proposer).proposed x e in
      let sent : Has (Propose x.ballot x.value) (world_after me.0.opening me.0.seen).sent =
      subst (λ (d : ℕ). Has (Propose d x.value) (world_after me.0.opening me.0.seen).sent) (sym told.2)
      ((sound.proposers j (subst (λ (m : ℕ). j < m) (ap (λ (q : Sizes). q.nodes) sound.quorums) lt)).propose x.value told.1) in
      let kept : (after_propose s x).kept ≡ with_vote x s.kept = ap (λ (q : Bool). (cond q (record s { kept = with_vote x s.kept }) s).kept) told.0 in
      subst (λ (i : ℕ). Allows (RoomRule o) slots id me (2 * i + 1) (λ _. number) (λ _. AcceptStore (step slots (2 * i + 1) number 0 none) me number)) here
      (stores_vote o slots id me number s sound.node sound.seated x told.0 sent (subst (λ (k : KeptPart). IsAcceptorWord number k.promised k.accepted) (sym kept) word))

-- ---- what the stores leave

-- the seat after an act, whatever it now tells of its own proposer's word
act_sound : (old : SeatState) (sound : IsSound old) (a : Act) (w : View) (took : Took a old.view w) → after_act old.view.node a ≡ offered (after_act old.node a) → (after_act old.node a).me ≡ old.node.me
    → (number : ℕ) (p : Option ℕ) → IsProposerOf (world_after old.view.opening w.seen) old.view.node.me number → proposed_in number ≡ p
    → (t : RoomAt) → t ≡ old.table → (node : NodeState) → node ≡ after_act old.node a → IsSound (record old { table = t; view = w; node = node; proposed = p })
act_sound old sound a w took tie me number p own ep t et node en =
    subst (λ (u : RoomAt). IsSound (record old { table = u; view = w; node = node; proposed = p })) (sym et)
    (subst (λ (x : NodeState). IsSound (record old { view = w; node = x; proposed = p })) (sym en)
    (subst (λ (z : View). IsSound (record old { view = z; node = after_act old.node a; proposed = p })) (sym took.advances.stays)
    (store_sound old sound took.steps (after_act old.view.node a) w.seen
    (subst (λ (z : View). Advances old.view took.steps (after_act old.view.node a) z) took.advances.stays took.advances)
    (ap (λ (x : NodeState). x.me) tie ∙ (me ∙ sym (ap (λ (x : NodeState). x.me) sound.node))) (after_act old.node a) tie number own p ep)))

offered_if : (t : Bool) (s u : NodeState) → cond t (offered u) (offered s) ≡ offered (cond t u s)
offered_if true s u = refl
offered_if false s u = refl

me_if : (t : Bool) (s u : NodeState) → u.me ≡ s.me → (cond t u s).me ≡ s.me
me_if true s u e = e
me_if false s u e = refl

module _ (old : SeatState) (sound : IsSound old) (w : View) (number : ℕ) (t : RoomAt) (et : t ≡ old.table) (node : NodeState) where
  mine : old.view.node.me ≡ old.node.me
  mine = ap (λ (x : NodeState). x.me) sound.node

  pub start_sound : StoresProposer act.Start number old.view w → proposed_in number ≡ None → next_ballot old.node ≤ 65535 → node ≡ started old.node → IsSound (record old { table = t; view = w; node = node; proposed = None })
  start_sound h none_there last en =
      act_sound old sound act.Start w h.took
      (ap (λ (s : NodeState). after_act s act.Start) sound.node ∙ offered_if (leb (next_ballot old.node) 65535) old.node (started old.node))
      (me_if (leb (next_ballot old.node) 65535) old.node (started old.node) refl) number None h.shows none_there t et node
      (en ∙ sym (cond-true (leb (next_ballot old.node) 65535) (started old.node) old.node (le-leb (next_ballot old.node) 65535 last)))

  pub propose_sound : (b v : ℕ) → StoresProposer act.Propose number old.view w → proposed_in number ≡ Some v → next_proposal old.node ≡ Some (b, v) → node ≡ after_proposal old.node → IsSound (record old { table = t; view = w; node = node; proposed = Some v })
  propose_sound b v h there e en =
      act_sound old sound act.Propose w h.took
      (ap (λ (s : NodeState). after_act s act.Propose) sound.node ∙ proposed_offered old.node (b, v) e)
      (ap (λ (x : Option (ℕ × ℕ)). (after_answer old.node (propose_message x)).me) e) number (Some v) h.shows there t et node en

  -- the own proposer's word stays where the own acceptor's is stored
  kept_own : (a : Act) (m : Msg) (h : StoresAcceptor a number old.view w) → ((steps : List Label) → AreTakenBy old.view.node a steps → (x : World) (i k : ℕ) → IsProposerOf x i k → IsProposerOf (reached x steps) i k)
      → IsProposerOf (world_after old.view.opening w.seen) old.view.node.me sound.own_word
  kept_own a m h quiet =
      own_stays old.view h.took.steps (after_act old.view.node a) w h.took.advances sound.legal sound.own_word (number_below old.view.opening.quorums (seen_world old) old.view.node sound.belongs)
      (quiet h.took.steps h.took.taken) (subst (λ (i : ℕ). IsProposerOf (seen_world old) i sound.own_word) (sym mine) sound.own)

  pub promise_sound : (b : ℕ) → StoresAcceptor (act.Promise b) number old.view w → node ≡ after_message old.node (Prepare b) → IsSound (record old { table = t; view = w; node = node })
  promise_sound b h en =
      act_sound old sound (act.Promise b) w h.took
      (ap (λ (s : NodeState). after_message s (Prepare b)) sound.node ∙ message_offered old.node (Prepare b))
      (me_if (promises old.node b) old.node _ refl) sound.own_word old.proposed
      (kept_own (act.Promise b) (Prepare b) h (λ steps taken x i k g.
      elim taken [
        | inl e ↦ subst (λ (ls : List Label). IsProposerOf (reached x ls) i k) (sym e) (keeps_if (promises old.view.node b) (Promises old.view.node.me b) tt x i k g)
        | inr e ↦ absurd (apart_promise b e.0)
      ]))
      sound.proposed t et node en
    where
      apart_promise : (b : ℕ) → act.Promise b ≡ act.Propose → ⊥
      apart_promise b e = cc

  pub vote_sound : (x : Vote) → StoresAcceptor (act.Accept x.ballot x.value) number old.view w → node ≡ after_message old.node (Propose x.ballot x.value) → IsSound (record old { table = t; view = w; node = node })
  vote_sound x h en =
      act_sound old sound (act.Accept x.ballot x.value) w h.took
      (ap (λ (s : NodeState). after_message s (Propose x.ballot x.value)) sound.node ∙ message_offered old.node (Propose x.ballot x.value))
      (me_if (accepts old.node x) old.node _ refl) sound.own_word old.proposed
      (kept_own (act.Accept x.ballot x.value) (Propose x.ballot x.value) h (λ steps taken z i k g.
      elim taken [
        | inl e ↦ subst (λ (ls : List Label). IsProposerOf (reached z ls) i k) (sym e) (keeps_if (accepts old.view.node x) (Accepts old.view.node.me x.ballot x.value) tt z i k g)
        | inr e ↦ absurd (apart_vote x.ballot x.value e.0)
      ]))
      sound.proposed t et node en
    where
      apart_vote : (b v : ℕ) → act.Accept b v ≡ act.Propose → ⊥
      apart_vote b v e = cc
