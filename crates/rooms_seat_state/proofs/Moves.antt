-- What stays true of a seat through a word step.
use Rattle.std.proofs.Common.{◌≡◌, ℕ, ◌+◌, ◌*◌, ◌<◌, ◌≤◌, Bool, true, false, cond, List, [], ◌++◌, length, set, get_or, append_assoc, length-set, get_or-set_same, get_or-set_other, Option, Some, None, ◌⊎◌, refl, sym, ap, ◌∙◌, subst, inl, inr, arith}
use native.Mathlib.Decide.{ℕ_discrete}
use Rattle.paxos_core_world.specs.Ballot.{Owns}
use Rattle.paxos_core_world.specs.KeptPart.{KeptPart, with_offer, without_offer}
use Rattle.paxos_core_world.specs.Quorum.{Sizes}
use Rattle.paxos_core_world.specs.Run.{IsRun, reached}
use Rattle.paxos_core_world.specs.Step.{Label}
use Rattle.paxos_core_world.specs.World.{World}
use Rattle.paxos_core_world.specs.declared.vote.Vote.{Vote}
use Rattle.paxos_core_node_steps.specs.Learner.{after_promise, notes_promise, notes_vote}
use Rattle.paxos_core_node_steps.specs.NodeState.{NodeState, offered, restarted}
use Rattle.paxos_core_node_steps.specs.Reached.{IsReached}
use Rattle.paxos_core_node_steps.specs.Taken.{taken_by_restart}
use Rattle.rooms_words.specs.LateOffer.{BelongsWithLateOffer}
use Rattle.rooms_words.specs.Words.{started_in, proposed_in, promised_in, accepted_in}
use Rattle.rooms_words.specs.declared.acceptor.AcceptorWord.{AcceptorWord}
use Rattle.rooms_words.specs.declared.proposer.ProposerWord.{ProposerWord}
use Rattle.rooms_words.specs.declared.event.Event.{Event}
use Rattle.rooms_words.specs.declared.view.Opening.{Opening}
use Rattle.rooms_words.specs.declared.view.View.{View}
use Rattle.rooms_words.specs.Events.{labels_of, events_of}
use Rattle.rooms_words.specs.Heard.{after_hearing, after_shown_vote, taken_by_hearing}
use Rattle.rooms_words.specs.NotBelow.{ProposerNotBelow, AcceptorNotBelow}
use Rattle.rooms_words.specs.Sight.{ProposerSeen, AcceptorSeen}
use Rattle.rooms_words.specs.Steps.{Advances, LooksAtProposer, LooksAtAcceptor, Forgot, ForgotAt}
use Rattle.rooms_words.specs.Views.{world_after, IsLegal}
use Rattle.rooms_words.specs.WordsOf.{proposed_by, IsProposerOf, IsAcceptorOf}
use Rattle.rooms_words.proofs.Advance.{view_with}
use Rattle.rooms_steps.proofs.HearLemmas.{me_hearing}
use Rattle.rooms_steps.proofs.Looks.{vote_quiet}
use Rattle.rooms_steps.proofs.OfferLemmas.{hearing_offered}
use Rattle.rooms_words.proofs.RunLemmas.{world_after-events, world_after-append, legal_reached, legal_before, run_behind, started_own, kept_of}
use Rattle.rooms_steps.proofs.Stays.{proposer_seen_later, acceptor_seen_later, proposer_seen, acceptor_seen}
use Rattle.rooms_words.proofs.WordLemmas.{proposer_of_others}
use Rattle.rooms_table.specs.RoomAt.{RoomAt}
use Rattle.rooms_seat_state.specs.Did.{LookedAtAcceptor, LookedAtProposer, Forgotten}
use Rattle.rooms_seat_state.specs.SeatState.{SeatState, no_proposer, no_acceptor, proposer_of, acceptor_of, own_words, seen_world}
use Rattle.rooms_seat_state.specs.Sound.{IsSound}

pub number_below : (q : Sizes) (w : World) (s : NodeState) → BelongsWithLateOffer q w s → s.me < q.nodes
number_below q w s (inl h) = h.number
number_below q w s (inr h) = h.number

quorums_are : (q : Sizes) (w : World) (s : NodeState) → BelongsWithLateOffer q w s → s.quorums ≡ q
quorums_are q w s (inl h) = h.quorums
quorums_are q w s (inr h) = h.quorums

-- the room has as many nodes as the seat's node knows of
pub nodes_are : (s : SeatState) → IsSound s → s.node.quorums.nodes ≡ s.view.opening.quorums.nodes
nodes_are s sound = ap (λ (q : Sizes). q.nodes) sound.quorums

-- the worlds before and after
module _ (v : View) (steps : List Label) (t : NodeState) (w : View) (a : Advances v steps t w) (before : IsLegal v.opening v.seen) where
  abbrev more : List Event
  more = events_of steps ++ a.between

  seen_is : w.seen ≡ (events_of steps ++ a.between) ++ v.seen
  seen_is = a.seen ∙ sym (append_assoc (events_of steps) a.between v.seen)

  legal_is : IsLegal v.opening ((events_of steps ++ a.between) ++ v.seen)
  legal_is = subst (λ (r : List Event). IsLegal v.opening r) seen_is a.legal

  run_is : IsRun v.opening.quorums (world_after v.opening v.seen) (labels_of (events_of steps ++ a.between))
  run_is = run_behind v.opening (events_of steps ++ a.between) v.seen legal_is

  world_is : world_after v.opening w.seen ≡ reached (world_after v.opening v.seen) (labels_of (events_of steps ++ a.between))
  world_is = ap (λ (r : List Event). world_after v.opening r) seen_is ∙ world_after-append v.opening (events_of steps ++ a.between) v.seen

  -- what was seen of the words stays true
  pub proposer_stays_seen : (j : ℕ) (x : ProposerWord) → ProposerSeen (world_after v.opening v.seen) j x → ProposerSeen (world_after v.opening w.seen) j x
  proposer_stays_seen j x h =
      subst (λ (z : World). ProposerSeen z j x) (sym world_is)
      (proposer_seen_later v.opening.quorums (world_after v.opening v.seen) (labels_of (events_of steps ++ a.between)) j x run_is h)

  pub acceptor_stays_seen : (j : ℕ) (x : AcceptorWord) → j < v.opening.quorums.nodes → AcceptorSeen (world_after v.opening v.seen) j x → AcceptorSeen (world_after v.opening w.seen) j x
  acceptor_stays_seen j x lt h =
      subst (λ (z : World). AcceptorSeen z j x) (sym world_is)
      (acceptor_seen_later v.opening.quorums (world_after v.opening v.seen) (labels_of (events_of steps ++ a.between)) j x (legal_reached v.opening v.seen before) lt run_is h)

  pub reached_after : IsReached v.opening.quorums (world_after v.opening w.seen)
  reached_after = legal_reached v.opening w.seen a.legal

  -- the own proposer's word stays, unless the steps change it
  pub own_stays : (number : ℕ) → v.node.me < v.opening.quorums.nodes → ((x : World) (i k : ℕ) → IsProposerOf x i k → IsProposerOf (reached x steps) i k) → IsProposerOf (world_after v.opening v.seen) v.node.me number → IsProposerOf (world_after v.opening w.seen) v.node.me number
  own_stays number lt quiet h =
      let legal : IsLegal v.opening (events_of steps ++ (a.between ++ v.seen)) = subst (λ (r : List Event). IsLegal v.opening r) a.seen a.legal in
      let run = run_behind v.opening a.between v.seen (legal_before v.opening (events_of steps) (a.between ++ v.seen) legal) in
      let there : IsProposerOf (world_after v.opening (a.between ++ v.seen)) v.node.me number =
      subst (λ (z : World). IsProposerOf z v.node.me number) (sym (world_after-append v.opening a.between v.seen))
      (proposer_of_others v.opening.quorums (world_after v.opening v.seen) (labels_of a.between) v.node.me number (legal_reached v.opening v.seen before) lt run a.others h) in
      subst (λ (z : World). IsProposerOf z v.node.me number) (sym (ap (λ (r : List Event). world_after v.opening r) a.seen ∙ world_after-events v.opening steps (a.between ++ v.seen)))
      (quiet (world_after v.opening (a.between ++ v.seen)) v.node.me number there)

-- ---- sights of all nodes, with one of them new

proposers_with : (w : World) (n : ℕ) (xs : List ProposerWord) (j : ℕ) (x : ProposerWord) → j < length xs → ProposerSeen w j x → ((i : ℕ) → i < n → ProposerSeen w i (get_or xs i no_proposer)) → (i : ℕ) → i < n → ProposerSeen w i (get_or (set xs j x) i no_proposer)
proposers_with w n xs j x lt h all i il = at (ℕ_discrete i j)
  where
    at : Dec (i ≡ j) → ProposerSeen w i (get_or (set xs j x) i no_proposer)
    at (yes e) = subst (λ (k : ℕ). ProposerSeen w k (get_or (set xs j x) k no_proposer)) (sym e) (subst (λ (y : ProposerWord). ProposerSeen w j y) (sym (get_or-set_same xs j x no_proposer lt)) h)
    at (no d) = subst (λ (y : ProposerWord). ProposerSeen w i y) (sym (get_or-set_other xs j i x no_proposer d)) (all i il)

-- what is seen started, is the node's own
owned_with : (n : ℕ) (xs : List ProposerWord) (j : ℕ) (x : ProposerWord) → j < length xs → (x.started ≡ 0) ⊎ Owns n j x.started
    → ((i : ℕ) → i < n → ((get_or xs i no_proposer).started ≡ 0) ⊎ Owns n i (get_or xs i no_proposer).started)
    → (i : ℕ) → i < n → ((get_or (set xs j x) i no_proposer).started ≡ 0) ⊎ Owns n i (get_or (set xs j x) i no_proposer).started
owned_with n xs j x lt h all i il = at (ℕ_discrete i j)
  where
    at : Dec (i ≡ j) → ((get_or (set xs j x) i no_proposer).started ≡ 0) ⊎ Owns n i (get_or (set xs j x) i no_proposer).started
    at (yes e) = subst (λ (k : ℕ). ((get_or (set xs j x) k no_proposer).started ≡ 0) ⊎ Owns n k (get_or (set xs j x) k no_proposer).started) (sym e) (subst (λ (y : ProposerWord). (y.started ≡ 0) ⊎ Owns n j y.started) (sym (get_or-set_same xs j x no_proposer lt)) h)
    at (no d) = subst (λ (y : ProposerWord). (y.started ≡ 0) ⊎ Owns n i y.started) (sym (get_or-set_other xs j i x no_proposer d)) (all i il)

acceptors_with : (w : World) (n : ℕ) (xs : List AcceptorWord) (j : ℕ) (x : AcceptorWord) → j < length xs → AcceptorSeen w j x → ((i : ℕ) → i < n → AcceptorSeen w i (get_or xs i no_acceptor)) → (i : ℕ) → i < n → AcceptorSeen w i (get_or (set xs j x) i no_acceptor)
acceptors_with w n xs j x lt h all i il = at (ℕ_discrete i j)
  where
    at : Dec (i ≡ j) → AcceptorSeen w i (get_or (set xs j x) i no_acceptor)
    at (yes e) = subst (λ (k : ℕ). AcceptorSeen w k (get_or (set xs j x) k no_acceptor)) (sym e) (subst (λ (y : AcceptorWord). AcceptorSeen w j y) (sym (get_or-set_same xs j x no_acceptor lt)) h)
    at (no d) = subst (λ (y : AcceptorWord). AcceptorSeen w i y) (sym (get_or-set_other xs j i x no_acceptor d)) (all i il)

-- ---- the looks

-- what a look at j's proposer makes of the seat
abbrev pub after_proposer_look : SeatState → View → ℕ → ProposerWord → SeatState
after_proposer_look s w j x = record s { view = w; proposers = set s.proposers j x }

module _ (old : SeatState) (sound : IsSound old) (j number : ℕ) (lt : j < old.node.quorums.nodes) (x : ProposerWord) (es : x.started ≡ started_in number) (ep : x.proposed ≡ proposed_in number) where
  low : j < old.view.opening.quorums.nodes
  low = subst (λ (n : ℕ). j < n) (nodes_are old sound) lt

  room : j < length old.proposers
  room = let a : length old.proposers ≡ 7 = sound.proposer_row in let b : old.node.quorums.nodes ≤ 7 = sound.most in omega arith

  me_is : old.view.node.me ≡ old.node.me
  me_is = ap (λ (s : NodeState). s.me) sound.node

  module _ (run : List Event) (h : LooksAtProposer j number old.view (view_with old.view run old.view.node)) where
    new : SeatState
    new = after_proposer_look old (view_with old.view run old.view.node) j x

    own_word_stays : IsProposerOf (world_after old.view.opening run) old.view.node.me sound.own_word
    own_word_stays =
        own_stays old.view [] old.view.node (view_with old.view run old.view.node) h.advances sound.legal sound.own_word
        (number_below old.view.opening.quorums (seen_world old) old.view.node sound.belongs) (λ z i k g. g)
        (subst (λ (i : ℕ). IsProposerOf (seen_world old) i sound.own_word) (sym me_is) sound.own)

    started_is : x.started ≡ ((world_after old.view.opening run).nodes j).started
    started_is = es ∙ h.shows.tells_started

    proposed_is : x.proposed ≡ proposed_by (world_after old.view.opening run) j
    proposed_is = ep ∙ h.shows.tells_proposed

    sight : ProposerSeen (world_after old.view.opening run) j x
    sight = proposer_seen old.view.opening.quorums (world_after old.view.opening run) j x (reached_after old.view [] old.view.node (view_with old.view run old.view.node) h.advances sound.legal) low started_is proposed_is

    pub proposer_look_sound : IsSound (after_proposer_look old (view_with old.view run old.view.node) j x)
    proposer_look_sound =
        record {
          words = sound.words;
          quorums = sound.quorums;
          most = sound.most;
          proposer_row = length-set old.proposers j x ∙ sound.proposer_row;
          acceptor_row = sound.acceptor_row;
          seated = record { live = sound.seated.live; first = sound.seated.first; last = sound.seated.last };
          node = sound.node;
          legal = h.advances.legal;
          belongs = h.advances.belongs;
          own_word = sound.own_word;
          own = subst (λ (i : ℕ). IsProposerOf (world_after old.view.opening run) i sound.own_word) me_is own_word_stays;
          proposed = sound.proposed;
          proposers = proposers_with (world_after old.view.opening run) old.view.opening.quorums.nodes old.proposers j x room sight
              (λ i il. proposer_stays_seen old.view [] old.view.node (view_with old.view run old.view.node) h.advances sound.legal i _ (sound.proposers i il));
          acceptors = λ i il. acceptor_stays_seen old.view [] old.view.node (view_with old.view run old.view.node) h.advances sound.legal i _ il (sound.acceptors i il);
          owned = owned_with old.view.opening.quorums.nodes old.proposers j x room
              (subst (λ (b : ℕ). (b ≡ 0) ⊎ Owns old.view.opening.quorums.nodes j b) (sym started_is)
              (started_own old.view.opening.quorums (world_after old.view.opening run) j (reached_after old.view [] old.view.node (view_with old.view run old.view.node) h.advances sound.legal) low))
              sound.owned;
        }

    pub proposer_looked : LookedAtProposer j x old (after_proposer_look old (view_with old.view run old.view.node) j x)
    proposer_looked =
        record {
          advances = h.advances;
          after = refl;
          started = started_is;
          proposed = proposed_is;
          below =
              let held = proposer_stays_seen old.view [] old.view.node (view_with old.view run old.view.node) h.advances sound.legal j _ (sound.proposers j low) in
              subst (λ (c : ℕ). ProposerNotBelow c x.proposed (proposer_of old j).started (proposer_of old j).proposed) (sym started_is)
              (subst (λ (p : Option ℕ). ProposerNotBelow ((world_after old.view.opening run).nodes j).started p (proposer_of old j).started (proposer_of old j).proposed) (sym proposed_is) held.below);
          own = λ e.
              let mine : j ≡ old.view.node.me = e ∙ sym me_is in (
                started_is ∙ (ap (λ (i : ℕ). ((world_after old.view.opening run).nodes i).started) mine
                    ∙ (kept_of old.view.opening.quorums (world_after old.view.opening run) old.view.node (λ (k : KeptPart). k.started) (λ k. refl) h.advances.belongs
                    ∙ ap (λ (s : NodeState). s.kept.started) sound.node)),
                proposed_is ∙ (ap (λ (i : ℕ). proposed_by (world_after old.view.opening run) i) mine ∙ (sym own_word_stays.tells_proposed ∙ sound.proposed)),
              );
        }

-- the same at whatever view the look left, and where the node's place and the seat's table are told otherwise
pub proposer_look : (old : SeatState) → IsSound old → (place j number : ℕ) → place ≡ j → place < old.node.quorums.nodes → (x : ProposerWord) → x.started ≡ started_in number → x.proposed ≡ proposed_in number
    → (t : RoomAt) → t ≡ old.table → (w : View) → LooksAtProposer place number old.view w
    → IsSound (record old { table = t; view = w; proposers = set old.proposers place x }) × LookedAtProposer j x old (record old { table = t; view = w; proposers = set old.proposers place x })
proposer_look old sound place j number at lt x es ep t et w h =
    let e : w ≡ view_with old.view w.seen old.view.node = h.advances.stays in
    let h' : LooksAtProposer place number old.view (view_with old.view w.seen old.view.node) = subst (λ (z : View). LooksAtProposer place number old.view z) e h in
    subst (λ (u : RoomAt). IsSound (record old { table = u; view = w; proposers = set old.proposers place x }) × LookedAtProposer j x old (record old { table = u; view = w; proposers = set old.proposers place x })) (sym et)
    (subst (λ (z : View). IsSound (after_proposer_look old z place x) × LookedAtProposer j x old (after_proposer_look old z place x)) (sym e) (
      proposer_look_sound old sound place number lt x es ep w.seen h',
      subst (λ (i : ℕ). LookedAtProposer i x old (after_proposer_look old (view_with old.view w.seen old.view.node) place x)) at (proposer_looked old sound place number lt x es ep w.seen h'),
    ))

-- ---- a step of the seat's node

-- the seat stays sound, whatever it now holds of the acceptors' words, its node and its own proposer's word
module _ (old : SeatState) (sound : IsSound old) (steps : List Label) (t : NodeState) (run : List Event) (a : Advances old.view steps t (view_with old.view run t))
    (me : t.me ≡ old.view.node.me) (node : NodeState) (tie : t ≡ offered node) (number : ℕ) (own : IsProposerOf (world_after old.view.opening run) old.view.node.me number) (p : Option ℕ) (ep : proposed_in number ≡ p) where
  abbrev stepped : List AcceptorWord → SeatState
  stepped xs = record old { view = view_with old.view run t; node = node; proposed = p; acceptors = xs }

  node_me : node.me ≡ old.view.node.me
  node_me = ap (λ (s : NodeState). s.me) (sym tie) ∙ me

  node_quorums : node.quorums ≡ old.view.opening.quorums
  node_quorums = ap (λ (s : NodeState). s.quorums) (sym tie) ∙ quorums_are old.view.opening.quorums (world_after old.view.opening run) t a.belongs

  pub step_sound : (xs : List AcceptorWord) → length xs ≡ 7 → ((i : ℕ) → i < old.view.opening.quorums.nodes → AcceptorSeen (world_after old.view.opening run) i (get_or xs i no_acceptor))
      → IsSound (record old { view = view_with old.view run t; node = node; proposed = p; acceptors = xs })
  step_sound xs len seen =
      let most : old.node.quorums.nodes ≤ 7 = sound.most in
      let same : node.quorums.nodes ≡ old.node.quorums.nodes = ap (λ (q : Sizes). q.nodes) node_quorums ∙ sym (nodes_are old sound) in
      let last : old.view.end ≡ old.view.node.me + 1 = sound.seated.last in
      let moved : t.me ≡ old.view.node.me = me in
      record {
        words = sound.words;
        quorums = node_quorums;
        most = omega arith;
        proposer_row = sound.proposer_row;
        acceptor_row = len;
        seated = record { live = sound.seated.live; first = sound.seated.first ∙ sym me; last = omega arith };
        node = tie;
        legal = a.legal;
        belongs = a.belongs;
        own_word = number;
        own = subst (λ (i : ℕ). IsProposerOf (world_after old.view.opening run) i number) (sym node_me) own;
        proposed = ep;
        proposers = λ i il. proposer_stays_seen old.view steps t (view_with old.view run t) a sound.legal i _ (sound.proposers i il);
        acceptors = seen;
        owned = sound.owned;
      }

  pub store_sound : IsSound (record old { view = view_with old.view run t; node = node; proposed = p })
  store_sound = step_sound old.acceptors sound.acceptor_row (λ i il. acceptor_stays_seen old.view steps t (view_with old.view run t) a sound.legal i _ il (sound.acceptors i il))

-- ---- a look at an acceptor

kept_if : {A : Type 0} (f : KeptPart → A) (t : Bool) (s u : NodeState) → f u.kept ≡ f s.kept → f (cond t u s).kept ≡ f s.kept
kept_if f true s u e = e
kept_if f false s u e = refl

kept_shown : {A : Type 0} (s : NodeState) (j : ℕ) (y : Option Vote) (f : KeptPart → A) → f (after_shown_vote s j y).kept ≡ f s.kept
kept_shown s j None f = refl
kept_shown s j (Some y) f = kept_if f (notes_vote s j y) s _ refl

-- hearing changes nothing that is kept
pub kept_hearing : {A : Type 0} (s : NodeState) (j p : ℕ) (y : Option Vote) (f : KeptPart → A) → f (after_hearing s j p y).kept ≡ f s.kept
kept_hearing s j p y f = kept_shown (after_promise s j p y) j y f ∙ kept_if f (notes_promise s j p y) s _ refl

pub acceptor_look : (old : SeatState) → IsSound old → (place j number : ℕ) → place ≡ j → place < old.node.quorums.nodes → (x : AcceptorWord) → x.promised ≡ promised_in number → x.accepted ≡ accepted_in number
    → (t : RoomAt) → t ≡ old.table → (w : View) → LooksAtAcceptor place number old.view w → (node : NodeState) → node ≡ after_hearing old.node j x.promised x.accepted
    → IsSound (record old { table = t; view = w; node = node; acceptors = set old.acceptors place x }) × LookedAtAcceptor j x old (record old { table = t; view = w; node = node; acceptors = set old.acceptors place x })
acceptor_look old sound place j number at lt x ep ea t et w h node en =
    subst (λ (u : RoomAt). IsSound (record old { table = u; view = w; node = node; acceptors = set old.acceptors place x }) × LookedAtAcceptor j x old (record old { table = u; view = w; node = node; acceptors = set old.acceptors place x })) (sym et)
    (subst (λ (s : NodeState). IsSound (record old { view = w; node = s; acceptors = set old.acceptors place x }) × LookedAtAcceptor j x old (record old { view = w; node = s; acceptors = set old.acceptors place x })) (sym en)
    (subst (λ (z : View). IsSound (record old { view = z; node = after_hearing old.node j x.promised x.accepted; acceptors = set old.acceptors place x }) × LookedAtAcceptor j x old (record old { view = z; node = after_hearing old.node j x.promised x.accepted; acceptors = set old.acceptors place x })) (sym e)
    (sound_after, looked)))
  where
    n : ℕ
    n = old.view.opening.quorums.nodes

    after : NodeState
    after = after_hearing old.view.node j x.promised x.accepted

    -- the step at what the word tells
    adv : Advances old.view (taken_by_hearing old.view.node j x.promised x.accepted) (after_hearing old.view.node j x.promised x.accepted) w
    adv =
        subst (λ (q : Option Vote). Advances old.view (taken_by_hearing old.view.node j x.promised q) (after_hearing old.view.node j x.promised q) w) (sym ea)
        (subst (λ (q : ℕ). Advances old.view (taken_by_hearing old.view.node j q (accepted_in number)) (after_hearing old.view.node j q (accepted_in number)) w) (sym ep)
        (subst (λ (i : ℕ). Advances old.view (taken_by_hearing old.view.node i (promised_in number) (accepted_in number)) (after_hearing old.view.node i (promised_in number) (accepted_in number)) w) at h.advances))

    e : w ≡ view_with old.view w.seen (after_hearing old.view.node j x.promised x.accepted)
    e = adv.stays

    here : Advances old.view (taken_by_hearing old.view.node j x.promised x.accepted) (after_hearing old.view.node j x.promised x.accepted) (view_with old.view w.seen (after_hearing old.view.node j x.promised x.accepted))
    here = subst (λ (z : View). Advances old.view (taken_by_hearing old.view.node j x.promised x.accepted) (after_hearing old.view.node j x.promised x.accepted) z) e adv

    low : j < old.view.opening.quorums.nodes
    low = subst (λ (i : ℕ). i < old.view.opening.quorums.nodes) at (subst (λ (m : ℕ). place < m) (nodes_are old sound) lt)

    me_is : old.view.node.me ≡ old.node.me
    me_is = ap (λ (s : NodeState). s.me) sound.node

    tie : after_hearing old.view.node j x.promised x.accepted ≡ offered (after_hearing old.node j x.promised x.accepted)
    tie = ap (λ (s : NodeState). after_hearing s j x.promised x.accepted) sound.node ∙ hearing_offered old.node j x.promised x.accepted

    quiet : (z : World) (i k : ℕ) → IsProposerOf z i k → IsProposerOf (reached z (taken_by_hearing old.view.node j x.promised x.accepted)) i k
    quiet z = (vote_quiet (after_promise old.view.node j x.promised x.accepted) j x.accepted z).0

    own : IsProposerOf (world_after old.view.opening w.seen) old.view.node.me sound.own_word
    own =
        own_stays old.view _ _ _ here sound.legal sound.own_word (number_below old.view.opening.quorums (seen_world old) old.view.node sound.belongs) quiet
        (subst (λ (i : ℕ). IsProposerOf (seen_world old) i sound.own_word) (sym me_is) sound.own)

    shows : IsAcceptorOf (world_after old.view.opening w.seen) j number
    shows = subst (λ (i : ℕ). IsAcceptorOf (world_after old.view.opening w.seen) i number) at h.shows

    promised_is : x.promised ≡ ((world_after old.view.opening w.seen).nodes j).promised
    promised_is = ep ∙ shows.tells_promised

    accepted_is : x.accepted ≡ ((world_after old.view.opening w.seen).nodes j).accepted
    accepted_is = ea ∙ shows.tells_accepted

    sight : AcceptorSeen (world_after old.view.opening w.seen) j x
    sight = acceptor_seen old.view.opening.quorums (world_after old.view.opening w.seen) j x (reached_after old.view _ _ _ here sound.legal) low promised_is accepted_is

    room : place < length old.acceptors
    room = let a : length old.acceptors ≡ 7 = sound.acceptor_row in let b : old.node.quorums.nodes ≤ 7 = sound.most in omega arith

    kept_seen : (i : ℕ) → i < old.view.opening.quorums.nodes → AcceptorSeen (world_after old.view.opening w.seen) i (get_or old.acceptors i no_acceptor)
    kept_seen i il = acceptor_stays_seen old.view _ _ _ here sound.legal i _ il (sound.acceptors i il)

    sound_after : IsSound (record old { view = view_with old.view w.seen (after_hearing old.view.node j x.promised x.accepted); node = after_hearing old.node j x.promised x.accepted; acceptors = set old.acceptors place x })
    sound_after =
        step_sound old sound (taken_by_hearing old.view.node j x.promised x.accepted) (after_hearing old.view.node j x.promised x.accepted) w.seen here (me_hearing old.view.node j x.promised x.accepted)
        (after_hearing old.node j x.promised x.accepted) tie sound.own_word own old.proposed sound.proposed (set old.acceptors place x) (length-set old.acceptors place x ∙ sound.acceptor_row)
        (acceptors_with (world_after old.view.opening w.seen) old.view.opening.quorums.nodes old.acceptors place x room (subst (λ (i : ℕ). AcceptorSeen (world_after old.view.opening w.seen) i x) (sym at) sight) kept_seen)

    kept_is : {A : Type 0} (f : KeptPart → A) → ((k : KeptPart) → f (without_offer k) ≡ f k) → ((k : KeptPart) → f (with_offer k) ≡ f k) → j ≡ old.node.me
        → f ((world_after old.view.opening w.seen).nodes j) ≡ f (after_hearing old.node j x.promised x.accepted).kept
    kept_is f g o mine =
        ap (λ (i : ℕ). f ((world_after old.view.opening w.seen).nodes i)) (mine ∙ (sym me_is ∙ sym (me_hearing old.view.node j x.promised x.accepted)))
        ∙ (kept_of old.view.opening.quorums (world_after old.view.opening w.seen) (after_hearing old.view.node j x.promised x.accepted) f g here.belongs
        ∙ (ap (λ (s : NodeState). f s.kept) tie ∙ o (after_hearing old.node j x.promised x.accepted).kept))

    looked : LookedAtAcceptor j x old (record old { view = view_with old.view w.seen (after_hearing old.view.node j x.promised x.accepted); node = after_hearing old.node j x.promised x.accepted; acceptors = set old.acceptors place x })
    looked =
        record {
          advances = here;
          after = subst (λ (i : ℕ). record old { view = view_with old.view w.seen (after_hearing old.view.node j x.promised x.accepted); node = after_hearing old.node j x.promised x.accepted; acceptors = set old.acceptors place x }
              ≡ record old { view = view_with old.view w.seen (after_hearing old.view.node j x.promised x.accepted); node = after_hearing old.node j x.promised x.accepted; acceptors = set old.acceptors i x }) at refl;
          promised = promised_is;
          accepted = accepted_is;
          below =
              subst (λ (c : ℕ). AcceptorNotBelow c x.accepted (acceptor_of old j).promised (acceptor_of old j).accepted) (sym promised_is)
              (subst (λ (q : Option Vote). AcceptorNotBelow ((world_after old.view.opening w.seen).nodes j).promised q (acceptor_of old j).promised (acceptor_of old j).accepted) (sym accepted_is) (kept_seen j low).below);
          own = λ mine. (
            promised_is ∙ (kept_is (λ (k : KeptPart). k.promised) (λ k. refl) (λ k. refl) mine ∙ kept_hearing old.node j x.promised x.accepted (λ (k : KeptPart). k.promised)),
            accepted_is ∙ (kept_is (λ (k : KeptPart). k.accepted) (λ k. refl) (λ k. refl) mine ∙ kept_hearing old.node j x.promised x.accepted (λ (k : KeptPart). k.accepted)),
          );
        }

-- ---- to forget

-- after a load of an own word, with which the node forgot
pub forgot_sound : (old : SeatState) → IsSound old → (t : RoomAt) → t ≡ old.table → (w : View) → Forgot old.view w
    → IsSound (record old { table = t; view = w; node = restarted old.node old.node.kept })
forgot_sound old sound t et w h =
    let mine : old.view.node.me ≡ old.node.me = ap (λ (s : NodeState). s.me) sound.node in
    let e : w ≡ view_with old.view w.seen (restarted old.view.node old.view.node.kept) = h.stays in
    let adv = subst (λ (z : View). Advances old.view (taken_by_restart old.view.node) (restarted old.view.node old.view.node.kept) z) e h in
    subst (λ (u : RoomAt). IsSound (record old { table = u; view = w; node = restarted old.node old.node.kept })) (sym et)
    (subst (λ (z : View). IsSound (record old { view = z; node = restarted old.node old.node.kept })) (sym e)
    (store_sound old sound (taken_by_restart old.view.node) (restarted old.view.node old.view.node.kept) w.seen adv refl (restarted old.node old.node.kept)
    (ap (λ (s : NodeState). restarted s s.kept) sound.node) sound.own_word
    (own_stays old.view (taken_by_restart old.view.node) (restarted old.view.node old.view.node.kept) (view_with old.view w.seen (restarted old.view.node old.view.node.kept)) adv sound.legal sound.own_word
    (number_below old.view.opening.quorums (seen_world old) old.view.node sound.belongs) (λ z i k g. g)
    (subst (λ (i : ℕ). IsProposerOf (seen_world old) i sound.own_word) (sym mine) sound.own))
    old.proposed sound.proposed))

-- after both loads
pub forgotten : (old : SeatState) → IsSound old → (t u : RoomAt) → t ≡ old.table → u ≡ t → (mid w : View) → Forgot old.view mid → Forgot mid w
    → (node : NodeState) → node ≡ restarted old.node old.node.kept
    → IsSound (record old { table = u; view = w; node = node }) × Forgotten old (record old { table = u; view = w; node = node })
forgotten old sound t u et eu mid w h k node en =
    subst (λ (s : NodeState). IsSound (record old { table = u; view = w; node = s }) × Forgotten old (record old { table = u; view = w; node = s })) (sym en) (
      forgot_sound (record old { table = t; view = mid; node = restarted old.node old.node.kept }) (forgot_sound old sound t et mid h) u eu w k,
      subst (λ (x : RoomAt). Forgotten old (record old { table = x; view = w; node = restarted old.node old.node.kept })) (sym (eu ∙ et))
          record { between = mid; first = h; second = k; after = refl },
    )

-- what stands in the own words is what the node keeps, and what it has proposed
pub own_proposer : (s : SeatState) → IsSound s → (number : ℕ) → IsProposerOf (seen_world s) s.node.me number → (started_in number ≡ s.node.kept.started) × (proposed_in number ≡ s.proposed)
own_proposer s h number p =
    let mine : s.view.node.me ≡ s.node.me = ap (λ (t : NodeState). t.me) h.node in (
      p.tells_started
          ∙ (ap (λ (i : ℕ). ((seen_world s).nodes i).started) (sym mine)
          ∙ (kept_of s.view.opening.quorums (seen_world s) s.view.node (λ (k : KeptPart). k.started) (λ k. refl) h.belongs ∙ ap (λ (t : NodeState). t.kept.started) h.node)),
      p.tells_proposed ∙ (sym h.own.tells_proposed ∙ h.proposed),
    )

pub own_acceptor : (s : SeatState) → IsSound s → (number : ℕ) → IsAcceptorOf (seen_world s) s.node.me number → (promised_in number ≡ s.node.kept.promised) × (accepted_in number ≡ s.node.kept.accepted)
own_acceptor s h number p =
    let mine : s.view.node.me ≡ s.node.me = ap (λ (t : NodeState). t.me) h.node in (
      p.tells_promised
          ∙ (ap (λ (i : ℕ). ((seen_world s).nodes i).promised) (sym mine)
          ∙ (kept_of s.view.opening.quorums (seen_world s) s.view.node (λ (k : KeptPart). k.promised) (λ k. refl) h.belongs ∙ ap (λ (t : NodeState). t.kept.promised) h.node)),
      p.tells_accepted
          ∙ (ap (λ (i : ℕ). ((seen_world s).nodes i).accepted) (sym mine)
          ∙ (kept_of s.view.opening.quorums (seen_world s) s.view.node (λ (k : KeptPart). k.accepted) (λ k. refl) h.belongs ∙ ap (λ (t : NodeState). t.kept.accepted) h.node)),
    )

-- the two loads of a seat that forgets find its own words
pub found_own : (old : SeatState) → IsSound old → (t u : RoomAt) → t ≡ old.table → u ≡ t → (mid w : View) (place : ℕ) → place ≡ old.node.me → place < old.node.quorums.nodes → (m n : ℕ)
    → ForgotAt (2 * place) m old.view mid → ForgotAt (2 * place + 1) n mid w → (x : ProposerWord) (y : AcceptorWord)
    → x.started ≡ started_in m → x.proposed ≡ proposed_in m → y.promised ≡ promised_in n → y.accepted ≡ accepted_in n → (x, y) ≡ own_words old
found_own old sound t u et eu mid w place at lt m n h k x y es ep em ea =
    let first = forgot_sound old sound t et mid h.forgot in
    let second = forgot_sound (record old { table = t; view = mid; node = restarted old.node old.node.kept }) first u eu w k.forgot in
    let low : place < old.view.opening.quorums.nodes = subst (λ (c : ℕ). place < c) (nodes_are old sound) lt in
    let opening : mid.opening ≡ old.view.opening = ap (λ (v : View). v.opening) h.forgot.stays in
    let last : w.opening ≡ mid.opening = ap (λ (v : View). v.opening) k.forgot.stays in
    let p = own_proposer (record old { table = t; view = mid; node = restarted old.node old.node.kept }) first m
    (subst (λ (o : Opening). IsProposerOf (world_after o mid.seen) old.node.me m) (sym opening) (subst (λ (i : ℕ). IsProposerOf (world_after old.view.opening mid.seen) i m) at (h.proposer place refl low))) in
    let a = own_acceptor (record old { table = u; view = w; node = restarted old.node old.node.kept }) second n
    (subst (λ (o : Opening). IsAcceptorOf (world_after o w.seen) old.node.me n) (sym last) (subst (λ (i : ℕ). IsAcceptorOf (world_after mid.opening w.seen) i n) at (k.acceptor place refl (subst (λ (o : Opening). place < o.quorums.nodes) (sym opening) low)))) in
    λ i. (record { started = (es ∙ p.0) i; proposed = (ep ∙ p.1) i }, record { promised = (em ∙ a.0) i; accepted = (ea ∙ a.1) i })

-- after the node's offer
pub offer_sound : (old : SeatState) → IsSound old → IsSound (record old { node = offered old.node })
offer_sound old sound =
    record {
      words = sound.words;
      quorums = sound.quorums;
      most = sound.most;
      proposer_row = sound.proposer_row;
      acceptor_row = sound.acceptor_row;
      seated = sound.seated;
      node = sound.node;
      legal = sound.legal;
      belongs = sound.belongs;
      own_word = sound.own_word;
      own = sound.own;
      proposed = sound.proposed;
      proposers = sound.proposers;
      acceptors = sound.acceptors;
      owned = sound.owned;
    }
