-- What looks at the words of a room leave of a seat, and what it has seen then.
use Rattle.std.proofs.Common.{◌≡◌, ◌≢◌, ℕ, zero, suc, ◌+◌, ◌<◌, ◌≤◌, Bool, true, false, cond, List, [], ◌++◌, append_assoc, length, set, get_or, length-set, get_or-set_other, get_or-set_same, Option, Some, None, refl, sym, ap, ◌∙◌, subst, arith}
use native.Mathlib.Decide.{ℕ_discrete}
use Rattle.paxos_core_world.specs.KeptPart.{KeptPart}
use Rattle.paxos_core_world.specs.Quorum.{Sizes}
use Rattle.paxos_core_world.specs.Step.{Label}
use Rattle.paxos_core_world.specs.World.{World}
use Rattle.paxos_core_world.specs.declared.vote.Vote.{Vote}
use Rattle.rooms_seat_state.specs.Learner.{after_promise, notes_promise, notes_vote}
use Rattle.rooms_seat_state.specs.NodeState.{NodeState}
use Rattle.rooms_words.specs.declared.acceptor.AcceptorWord.{AcceptorWord}
use Rattle.rooms_words.specs.declared.proposer.ProposerWord.{ProposerWord}
use Rattle.rooms_words.specs.declared.event.Event.{Event}
use Rattle.rooms_words.specs.declared.view.Opening.{Opening}
use Rattle.rooms_words.specs.declared.view.View.{View}
use Rattle.rooms_words.specs.Events.{labels_of, events_of}
use Rattle.rooms_words.specs.Heard.{after_shown_vote, after_hearing}
use Rattle.rooms_words.specs.Steps.{Advances}
use Rattle.rooms_words.specs.Views.{world_after, BeginsWith, IsLegal}
use Rattle.rooms_rights.proofs.HearLemmas.{me_hearing}
use Rattle.rooms_words.proofs.RunLemmas.{world_after-append, begins_through, legal_reached, run_behind}
use Rattle.rooms_words.specs.NotBelow.{AcceptorNotBelow, ProposerNotBelow}
use Rattle.rooms_words.specs.Sight.{AcceptorSeen, ProposerSeen}
use Rattle.rooms_words.specs.WordsOf.{proposed_by}
use Rattle.rooms_rights.proofs.Stays.{acceptor_seen_later, proposer_seen_later}
use Rattle.paxos_core_world.specs.Run.{reached}
use Rattle.rooms_seat_state.specs.Did.{LookedAtAcceptor, LookedAtProposer}
use Rattle.rooms_meeting.specs.Met.{HasSeenNoLess, LookedAtAll, LookedAtBoth, LookedAtFirst, LookedOn}
use Rattle.rooms_seat_state.specs.SeatState.{SeatState, acceptor_of, no_acceptor, no_proposer, proposer_of, seen_world}
use Rattle.rooms_seat_state.specs.Sound.{IsSound}
use Rattle.rooms_seat_state.proofs.Moves.{kept_hearing}
use Rattle.rooms_seat_state.proofs.Told.{notes_of}

-- ---- looks

quorums_if : (t : Bool) (s u : NodeState) → u.quorums ≡ s.quorums → (cond t u s).quorums ≡ s.quorums
quorums_if true s u e = e
quorums_if false s u e = refl

quorums_shown : (s : NodeState) (j : ℕ) (x : Option Vote) → (after_shown_vote s j x).quorums ≡ s.quorums
quorums_shown s j None = refl
quorums_shown s j (Some x) = quorums_if (notes_vote s j x) s _ refl

pub quorums_hearing : (s : NodeState) (j p : ℕ) (x : Option Vote) → (after_hearing s j p x).quorums ≡ s.quorums
quorums_hearing s j p x = quorums_shown (after_promise s j p x) j x ∙ quorums_if (notes_promise s j p x) s _ refl

proposed_if : (t : Bool) (s u : NodeState) → u.proposed ≡ s.proposed → (cond t u s).proposed ≡ s.proposed
proposed_if true s u e = e
proposed_if false s u e = refl

proposed_shown : (s : NodeState) (j : ℕ) (x : Option Vote) → (after_shown_vote s j x).proposed ≡ s.proposed
proposed_shown s j None = refl
proposed_shown s j (Some x) = proposed_if (notes_vote s j x) s _ refl

pub proposed_hearing : (s : NodeState) (j p : ℕ) (x : Option Vote) → (after_hearing s j p x).proposed ≡ s.proposed
proposed_hearing s j p x = proposed_shown (after_promise s j p x) j x ∙ proposed_if (notes_promise s j p x) s _ refl

seen_more : (v : View) (steps : List Label) (t : NodeState) (w : View) → Advances v steps t w → BeginsWith w.seen v.seen
seen_more v steps t w a = (events_of steps ++ a.between, a.seen ∙ sym (append_assoc (events_of steps) a.between v.seen))

pub on_proposer : (j : ℕ) (x : ProposerWord) (old new : SeatState) → LookedAtProposer j x old new → LookedOn old new
on_proposer j x old new h =
    record {
      seen = seen_more old.view [] old.view.node new.view h.advances;
      told = h.advances.told;
      told_by = h.advances.told_by;
      still = ap (λ (v : View). v.told) h.advances.stays;
      opening = ap (λ (v : View). v.opening) h.advances.stays;
      table = ap (λ (s : SeatState). s.table) h.after;
      me = ap (λ (s : SeatState). s.node.me) h.after;
      quorums = ap (λ (s : SeatState). s.node.quorums) h.after;
      kept = ap (λ (s : SeatState). s.node.kept) h.after;
      ballot = ap (λ (s : SeatState). s.node.ballot) h.after;
      under_it = ap (λ (s : SeatState). s.node.proposed) h.after;
      proposed = ap (λ (s : SeatState). s.proposed) h.after;
      learned = λ v e. ap (λ (s : SeatState). s.node.learned) h.after ∙ e;
    }

pub on_acceptor : (j : ℕ) (x : AcceptorWord) (old new : SeatState) → LookedAtAcceptor j x old new → LookedOn old new
on_acceptor j x old new h =
    record {
      seen = seen_more old.view _ _ new.view h.advances;
      told = h.advances.told;
      told_by = h.advances.told_by;
      still = ap (λ (v : View). v.told) h.advances.stays;
      opening = ap (λ (v : View). v.opening) h.advances.stays;
      table = ap (λ (s : SeatState). s.table) h.after;
      me = ap (λ (s : SeatState). s.node.me) h.after ∙ me_hearing old.node j x.promised x.accepted;
      quorums = ap (λ (s : SeatState). s.node.quorums) h.after ∙ quorums_hearing old.node j x.promised x.accepted;
      kept = ap (λ (s : SeatState). s.node.kept) h.after ∙ kept_hearing old.node j x.promised x.accepted (λ (k : KeptPart). k);
      ballot = (notes_of j x old new h).ballot;
      under_it = ap (λ (s : SeatState). s.node.proposed) h.after ∙ proposed_hearing old.node j x.promised x.accepted;
      proposed = ap (λ (s : SeatState). s.proposed) h.after;
      learned = (notes_of j x old new h).learned;
    }

pub on_through : (a b c : SeatState) → LookedOn a b → LookedOn b c → LookedOn a c
on_through a b c h k =
    record {
      seen = begins_through c.view.seen b.view.seen a.view.seen k.seen h.seen;
      told = begins_through c.view.seen b.view.seen a.view.told k.seen h.told;
      told_by = h.told_by;
      still = k.still ∙ h.still;
      opening = k.opening ∙ h.opening;
      table = k.table ∙ h.table;
      me = k.me ∙ h.me;
      quorums = k.quorums ∙ h.quorums;
      kept = k.kept ∙ h.kept;
      ballot = k.ballot ∙ h.ballot;
      under_it = k.under_it ∙ h.under_it;
      proposed = k.proposed ∙ h.proposed;
      learned = λ v e. k.learned v (h.learned v e);
    }

pub on_both : (j : ℕ) (old new : SeatState) → LookedAtBoth j old new → LookedOn old new
on_both j old new h =
    on_through old h.between new (on_proposer j h.proposer old h.between h.first) (on_acceptor j h.acceptor h.between new h.second)

-- what is looked at behind the first nodes
pub on_then : (k : ℕ) (first s t : SeatState) → LookedAtFirst k first s → LookedOn s t → LookedOn first t
on_then zero first s t e on = subst (λ (z : SeatState). LookedOn z t) e on
on_then (suc k) first s t (m, h, both) on = on_then k first m t h (on_through m s t (on_both k m s both) on)

pub on_first : (k : ℕ) (old new : SeatState) → 0 < k → LookedAtFirst k old new → LookedOn old new
on_first zero old new lt h = absurd (omega arith)
on_first (suc k) old new lt (m, h, both) = on_then k old m new h (on_both k m new both)

-- the sizes of quorums stay
pub same_quorums : (k : ℕ) (old new : SeatState) → LookedAtFirst k old new → new.node.quorums ≡ old.node.quorums
same_quorums zero old new e = ap (λ (s : SeatState). s.node.quorums) e
same_quorums (suc k) old new (m, h, both) = (on_both k m new both).quorums ∙ same_quorums k old m h

pub same_table : (k : ℕ) (old new : SeatState) → LookedAtFirst k old new → new.table ≡ old.table
same_table zero old new e = ap (λ (s : SeatState). s.table) e
same_table (suc k) old new (m, h, both) = (on_both k m new both).table ∙ same_table k old m h

-- one node more
pub one_more : (k : ℕ) (old mid new : SeatState) → LookedAtFirst k old mid → LookedAtBoth k mid new → LookedAtFirst (k + 1) old new
one_more k old mid new h both =
    let e : suc k ≡ k + 1 = omega arith in
    subst (λ (n : ℕ). LookedAtFirst n old new) e (mid, h, both)

-- ---- what was seen is not below what any seat had seen whose run was a beginning

-- the later seat's run goes on from the earlier one's
module _ (s m n : SeatState) (j : ℕ) (sound : IsSound s) (same : s.view.opening ≡ m.view.opening) (lt : j < s.view.opening.quorums.nodes)
    (begins : BeginsWith n.view.seen s.view.seen) (opening : n.view.opening ≡ m.view.opening) (legal : IsLegal m.view.opening n.view.seen) where
  legal_on : IsLegal s.view.opening (begins.0 ++ s.view.seen)
  legal_on = subst (λ (r : List Event). IsLegal s.view.opening r) begins.1 (subst (λ (o : Opening). IsLegal o n.view.seen) (sym same) legal)

  world_on : seen_world n ≡ reached (seen_world s) (labels_of begins.0)
  world_on =
      (λ i. world_after ((opening ∙ sym same) i) (begins.1 i)) ∙ world_after-append s.view.opening begins.0 s.view.seen

  proposer_seen_on : ProposerSeen (seen_world n) j (proposer_of s j)
  proposer_seen_on =
      subst (λ (w : World). ProposerSeen w j (proposer_of s j)) (sym world_on)
      (proposer_seen_later s.view.opening.quorums (seen_world s) (labels_of begins.0) j (proposer_of s j) (run_behind s.view.opening begins.0 s.view.seen legal_on) (sound.proposers j lt))

  acceptor_seen_on : AcceptorSeen (seen_world n) j (acceptor_of s j)
  acceptor_seen_on =
      subst (λ (w : World). AcceptorSeen w j (acceptor_of s j)) (sym world_on)
      (acceptor_seen_later s.view.opening.quorums (seen_world s) (labels_of begins.0) j (acceptor_of s j) (legal_reached s.view.opening s.view.seen sound.legal) lt (run_behind s.view.opening begins.0 s.view.seen legal_on) (sound.acceptors j lt))

  pub proposer_no_less : (x : ProposerWord) → x.started ≡ ((seen_world n).nodes j).started → x.proposed ≡ proposed_by (seen_world n) j
      → ProposerNotBelow x.started x.proposed (proposer_of s j).started (proposer_of s j).proposed
  proposer_no_less x es ep =
      subst (λ (b : ℕ). ProposerNotBelow b x.proposed (proposer_of s j).started (proposer_of s j).proposed) (sym es)
      (subst (λ (p : Option ℕ). ProposerNotBelow ((seen_world n).nodes j).started p (proposer_of s j).started (proposer_of s j).proposed) (sym ep) proposer_seen_on.below)

  pub acceptor_no_less : (x : AcceptorWord) → x.promised ≡ ((seen_world n).nodes j).promised → x.accepted ≡ ((seen_world n).nodes j).accepted
      → AcceptorNotBelow x.promised x.accepted (acceptor_of s j).promised (acceptor_of s j).accepted
  acceptor_no_less x ep ea =
      subst (λ (b : ℕ). AcceptorNotBelow b x.accepted (acceptor_of s j).promised (acceptor_of s j).accepted) (sym ep)
      (subst (λ (o : Option Vote). AcceptorNotBelow ((seen_world n).nodes j).promised o (acceptor_of s j).promised (acceptor_of s j).accepted) (sym ea) acceptor_seen_on.below)

less : (j k : ℕ) → j < suc k → j ≢ k → j < k
less j k lt d = omega arith

abbrev NoLessAt : SeatState → SeatState → ℕ → Type 0
NoLessAt s t j =
    ProposerNotBelow (proposer_of t j).started (proposer_of t j).proposed (proposer_of s j).started (proposer_of s j).proposed
    × AcceptorNotBelow (acceptor_of t j).promised (acceptor_of t j).accepted (acceptor_of s j).promised (acceptor_of s j).accepted

-- the rows are whole, and of each of the first k nodes no less was seen
record SeenNoLess (s t : SeatState) (k : ℕ) : Type 0 where
  pub proposer_row : length t.proposers ≡ 7
  pub acceptor_row : length t.acceptors ≡ 7
  pub each : (j : ℕ) → j < k → NoLessAt s t j

module _ (s start : SeatState) (sound : IsSound s) (first : IsSound start) (same : s.view.opening ≡ start.view.opening)
    (begins : (m : SeatState) → LookedOn start m → BeginsWith m.view.seen s.view.seen) where
  nodes_same : start.node.quorums.nodes ≡ s.view.opening.quorums.nodes
  nodes_same = ap (λ (q : Sizes). q.nodes) first.quorums ∙ sym (ap (λ (o : Opening). o.quorums.nodes) same)

  one_seen : (k : ℕ) → k < start.node.quorums.nodes → (m t : SeatState) → LookedAtFirst k start m → SeenNoLess s m k → LookedAtBoth k m t → SeenNoLess s t (suc k)
  one_seen k few m t h had both =
      record { proposer_row = ap length proposers ∙ (length-set m.proposers k both.proposer ∙ had.proposer_row); acceptor_row = ap length acceptors ∙ (length-set m.acceptors k both.acceptor ∙ had.acceptor_row); each = λ j lt. at j lt (ℕ_discrete j k) }
    where
      proposers : t.proposers ≡ set m.proposers k both.proposer
      proposers = ap (λ (x : SeatState). x.proposers) both.second.after ∙ ap (λ (x : SeatState). x.proposers) both.first.after

      acceptors : t.acceptors ≡ set m.acceptors k both.acceptor
      acceptors =
          ap (λ (x : SeatState). x.acceptors) both.second.after
          ∙ ap (λ (x : SeatState). set x.acceptors k both.acceptor) both.first.after

      low : k < s.view.opening.quorums.nodes
      low = subst (λ (n : ℕ). k < n) nodes_same few

      few_rows : k < 7
      few_rows = let most : start.node.quorums.nodes ≤ 7 = first.most in omega arith

      on_one : LookedOn start both.between
      on_one = on_then k start m both.between h (on_proposer k both.proposer m both.between both.first)

      on_two : LookedOn start t
      on_two = on_then k start m t h (on_both k m t both)

      proposer_here : ProposerNotBelow both.proposer.started both.proposer.proposed (proposer_of s k).started (proposer_of s k).proposed
      proposer_here =
          proposer_no_less s both.between both.between k sound (same ∙ sym on_one.opening) low (begins both.between on_one) refl
          (subst (λ (o : Opening). IsLegal o both.between.view.seen) (sym (ap (λ (v : View). v.opening) both.first.advances.stays)) both.first.advances.legal)
          both.proposer both.first.started both.first.proposed

      acceptor_here : AcceptorNotBelow both.acceptor.promised both.acceptor.accepted (acceptor_of s k).promised (acceptor_of s k).accepted
      acceptor_here =
          acceptor_no_less s t t k sound (same ∙ sym on_two.opening) low (begins t on_two) refl
          (subst (λ (o : Opening). IsLegal o t.view.seen) (sym (ap (λ (v : View). v.opening) both.second.advances.stays)) both.second.advances.legal)
          both.acceptor both.second.promised both.second.accepted

      proposer_there : proposer_of t k ≡ both.proposer
      proposer_there =
          ap (λ (xs : List ProposerWord). get_or xs k no_proposer) proposers
          ∙ get_or-set_same m.proposers k both.proposer no_proposer (subst (λ (n : ℕ). k < n) (sym had.proposer_row) few_rows)

      acceptor_there : acceptor_of t k ≡ both.acceptor
      acceptor_there =
          ap (λ (xs : List AcceptorWord). get_or xs k no_acceptor) acceptors
          ∙ get_or-set_same m.acceptors k both.acceptor no_acceptor (subst (λ (n : ℕ). k < n) (sym had.acceptor_row) few_rows)

      here : NoLessAt s t k
      here = (
        subst (λ (x : ProposerWord). ProposerNotBelow x.started x.proposed (proposer_of s k).started (proposer_of s k).proposed) (sym proposer_there) proposer_here,
        subst (λ (x : AcceptorWord). AcceptorNotBelow x.promised x.accepted (acceptor_of s k).promised (acceptor_of s k).accepted) (sym acceptor_there) acceptor_here,
      )

      other : (j : ℕ) → j ≢ k → NoLessAt s m j → NoLessAt s t j
      other j d (p, a) = (
        subst (λ (x : ProposerWord). ProposerNotBelow x.started x.proposed (proposer_of s j).started (proposer_of s j).proposed)
            (sym (ap (λ (xs : List ProposerWord). get_or xs j no_proposer) proposers ∙ get_or-set_other m.proposers k j both.proposer no_proposer d)) p,
        subst (λ (x : AcceptorWord). AcceptorNotBelow x.promised x.accepted (acceptor_of s j).promised (acceptor_of s j).accepted)
            (sym (ap (λ (xs : List AcceptorWord). get_or xs j no_acceptor) acceptors ∙ get_or-set_other m.acceptors k j both.acceptor no_acceptor d)) a,
      )

      below : (j : ℕ) → j < suc k → j ≢ k → j < k
      below j lt d = less j k lt d

      at : (j : ℕ) → j < suc k → Dec (j ≡ k) → NoLessAt s t j
      at j lt (yes e) = subst (λ (i : ℕ). NoLessAt s t i) (sym e) here
      at j lt (no d) = other j d (had.each j (below j lt d))

  all_seen : (k : ℕ) → k ≤ start.node.quorums.nodes → (t : SeatState) → LookedAtFirst k start t → SeenNoLess s t k
  all_seen zero few t e =
      record {
        proposer_row = ap (λ (x : SeatState). length x.proposers) e ∙ first.proposer_row;
        acceptor_row = ap (λ (x : SeatState). length x.acceptors) e ∙ first.acceptor_row;
        each = λ j lt. absurd (omega arith);
      }
  all_seen (suc k) few t (m, h, both) = one_seen k (omega arith) m t h (all_seen k (omega arith) m h) both

  pub seen_no_less : (t : SeatState) → LookedAtAll start t → HasSeenNoLess s t
  seen_no_less t h =
      let all = all_seen start.node.quorums.nodes (omega arith) t h in
      let same : t.node.quorums.nodes ≡ start.node.quorums.nodes = ap (λ (q : Sizes). q.nodes) (same_quorums start.node.quorums.nodes start t h) in
      record {
        proposers = λ j lt. (all.each j (subst (λ (n : ℕ). j < n) same lt)).0;
        acceptors = λ j lt. (all.each j (subst (λ (n : ℕ). j < n) same lt)).1;
      }
