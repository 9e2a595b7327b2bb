-- What a sweep of the words leaves of a seat.
use Rattle.std.proofs.Common.{◌≡◌, ℕ, zero, suc, ◌<◌, ◌≤◌, ◌⊎◌, List, [], ◌∷◌, Option, length, map, set, get_or, get_or-set_other, get_or-set_same, refl, sym, ap, ◌∙◌, subst, inl, inr, arith}
use native.Mathlib.Decide.{ℕ_discrete}
use Rattle.std.proofs.lemmas.List.{length-map, map-set, set-get_or}
use Rattle.rooms_seat_state.specs.NodeState.{NodeState}
use Rattle.rooms_rights.specs.RoomAt.{RoomAt}
use Rattle.rooms_rights.specs.declared.seen.SeenWords.{SeenWords}
use Rattle.rooms_rights.specs.Sweep.{none_seen, seen_of, with_proposer, LookedAtNode, FoundChanged, FoundUnchanged}
use Rattle.rooms_words.specs.declared.acceptor.AcceptorWord.{AcceptorWord}
use Rattle.rooms_words.specs.declared.proposer.ProposerWord.{ProposerWord}
use Rattle.rooms_words.specs.declared.view.View.{View}
use Rattle.rooms_words.specs.Heard.{after_hearing}
use Rattle.rooms_words.specs.Steps.{LooksAtAcceptor, LooksAtProposer}
use Rattle.rooms_words.specs.Words.{accepted_in, promised_in, proposed_in, started_in}
use Rattle.rooms_seat_state.specs.Did.{LookedAtAcceptor, LookedAtProposer}
use Rattle.rooms_seat_state.specs.SeatState.{acceptor_of, SeatState, no_acceptor, no_proposer}
use Rattle.rooms_seat_state.specs.Sound.{IsSound}
use Rattle.rooms_seat_state.proofs.Moves.{acceptor_look, proposer_look}
use Rattle.rooms_meeting.specs.Met.{LookedAtBoth, LookedAtFirst}
use Rattle.rooms_meeting.specs.Seen.{acceptor_shown, acceptors_shown, proposer_shown, proposers_shown, with_acceptor, heard_with, IsHeard, IsKept}
use Rattle.rooms_meeting.proofs.Hearing.{heard_before, heard_now, heard_other, heard_still, hears_again, SameNotes}

-- ---- the rows of words

pub shown_at : {A B : Type 0} (f : A → B) (xs : List A) (j : ℕ) (d : A) → get_or (map f xs) j (f d) ≡ f (get_or xs j d)
shown_at f [] j d = refl
shown_at f (x ∷ xs) zero d = refl
shown_at f (x ∷ xs) (suc j) d = shown_at f xs j d

-- what was last seen of node j, by the numbers
pub acceptor_at : (xs : List SeenWords) (j : ℕ) → get_or (acceptors_shown xs) j no_acceptor ≡ acceptor_shown (seen_of xs j)
acceptor_at xs j = shown_at acceptor_shown xs j none_seen

pub proposer_at : (xs : List SeenWords) (j : ℕ) → get_or (proposers_shown xs) j no_proposer ≡ proposer_shown (seen_of xs j)
proposer_at xs j = shown_at proposer_shown xs j none_seen

-- a number that is put down is shown, and the other words stay
proposer_put : (xs : List SeenWords) (j n : ℕ) → proposers_shown (with_proposer xs j n) ≡ set (proposers_shown xs) j (record { started = started_in n; proposed = proposed_in n })
proposer_put xs j n = map-set proposer_shown xs j _

acceptors_stay : (xs : List SeenWords) (j n : ℕ) → acceptors_shown (with_proposer xs j n) ≡ acceptors_shown xs
acceptors_stay xs j n =
    map-set acceptor_shown xs j _
    ∙ (ap (λ (y : AcceptorWord). set (acceptors_shown xs) j y) (sym (acceptor_at xs j)) ∙ set-get_or (acceptors_shown xs) j no_acceptor)

acceptor_put : (xs : List SeenWords) (j n : ℕ) → acceptors_shown (with_acceptor xs j n) ≡ set (acceptors_shown xs) j (record { promised = promised_in n; accepted = accepted_in n })
acceptor_put xs j n = map-set acceptor_shown xs j _

proposers_stay : (xs : List SeenWords) (j n : ℕ) → proposers_shown (with_acceptor xs j n) ≡ proposers_shown xs
proposers_stay xs j n =
    map-set proposer_shown xs j _
    ∙ (ap (λ (y : ProposerWord). set (proposers_shown xs) j y) (sym (proposer_at xs j)) ∙ set-get_or (proposers_shown xs) j no_proposer)

-- the number that stands there already
same_put : (xs : List SeenWords) (j : ℕ) → with_acceptor xs j (seen_of xs j).acceptor ≡ xs
same_put xs j = set-get_or xs j none_seen

-- ---- the looks at one node

-- a seat of these parts
abbrev pub seat_of : RoomAt → View → NodeState → Option ℕ → List SeenWords → SeatState
seat_of table v node p seen =
    record { table = table; view = v; node = node; proposed = p; proposers = proposers_shown seen; acceptors = acceptors_shown seen }

module _ (table : RoomAt) (p : Option ℕ) where
  abbrev after : RoomAt → View → NodeState → List ProposerWord → List AcceptorWord → SeatState
  after u w node ps xs = record { table = u; view = w; node = node; proposed = p; proposers = ps; acceptors = xs }

  -- the number found of a proposer is put down
  pub proposer_found : (v : View) (node : NodeState) (s : List SeenWords) → IsSound (seat_of table v node p s) → (place j n : ℕ) → place ≡ j → place < node.quorums.nodes → (x : ProposerWord) → x.started ≡ started_in n → x.proposed ≡ proposed_in n
      → (u : RoomAt) → u ≡ table → (w : View) → LooksAtProposer place n v w
      → IsSound (seat_of u w node p (with_proposer s place n)) × LookedAtProposer j x (seat_of table v node p s) (seat_of u w node p (with_proposer s place n))
  proposer_found v node s sound place j n at lt x es ep u eu w h =
      let word : x ≡ record { started = started_in n; proposed = proposed_in n } = λ i. record { started = es i; proposed = ep i } in
      let row : set (proposers_shown s) place x ≡ proposers_shown (with_proposer s place n) = ap (λ (y : ProposerWord). set (proposers_shown s) place y) word ∙ sym (proposer_put s place n) in
      subst (λ (z : SeatState). IsSound z × LookedAtProposer j x (seat_of table v node p s) z) (λ i. after u w node (row i) (sym (acceptors_stay s place n) i))
      (proposer_look (seat_of table v node p s) sound place j n at lt x es ep u eu w h)

  -- the number found of an acceptor is put down, and the node hears it
  pub acceptor_found : (v : View) (node : NodeState) (s : List SeenWords) → IsSound (seat_of table v node p s) → (place j n : ℕ) → place ≡ j → place < node.quorums.nodes → (x : AcceptorWord) → x.promised ≡ promised_in n → x.accepted ≡ accepted_in n
      → (u : RoomAt) → u ≡ table → (w : View) → LooksAtAcceptor place n v w → (heard : NodeState) → heard ≡ after_hearing node j x.promised x.accepted
      → IsSound (seat_of u w heard p (with_acceptor s place n)) × LookedAtAcceptor j x (seat_of table v node p s) (seat_of u w heard p (with_acceptor s place n))
  acceptor_found v node s sound place j n at lt x es ep u eu w h heard eh =
      let word : x ≡ record { promised = promised_in n; accepted = accepted_in n } = λ i. record { promised = es i; accepted = ep i } in
      let row : set (acceptors_shown s) place x ≡ acceptors_shown (with_acceptor s place n) = ap (λ (y : AcceptorWord). set (acceptors_shown s) place y) word ∙ sym (acceptor_put s place n) in
      subst (λ (z : SeatState). IsSound z × LookedAtAcceptor j x (seat_of table v node p s) z) (λ i. after u w heard (sym (proposers_stay s place n) i) (row i))
      (acceptor_look (seat_of table v node p s) sound place j n at lt x es ep u eu w h heard eh)

  -- a look at a proposer leaves what was heard
  pub proposer_kept : (heard : ℕ) (v : View) (node : NodeState) (s : List SeenWords) → IsKept heard (seat_of table v node p s) → (place j n : ℕ) → place ≡ j → place < node.quorums.nodes → (x : ProposerWord) → x.started ≡ started_in n → x.proposed ≡ proposed_in n
      → (u : RoomAt) → u ≡ table → (w : View) → LooksAtProposer place n v w
      → IsKept heard (seat_of u w node p (with_proposer s place n)) × LookedAtProposer j x (seat_of table v node p s) (seat_of u w node p (with_proposer s place n))
  proposer_kept heard v node s kept place j n at lt x es ep u eu w h =
      let found = proposer_found v node s kept.sound place j n at lt x es ep u eu w h in (
        record {
          sound = found.0;
          heard_so = λ i il. subst (λ (xs : List AcceptorWord). IsHeard node i (get_or xs i no_acceptor)) (sym (acceptors_stay s place n)) (kept.heard_so i il);
        },
        found.1,
      )

  -- so does one at an acceptor whose word is heard, where the number is found again that was seen last
  pub acceptor_again : (heard : ℕ) (v : View) (node : NodeState) (s : List SeenWords) → IsKept heard (seat_of table v node p s) → (place j n : ℕ) → place ≡ j → place < node.quorums.nodes → j < heard → (x : AcceptorWord) → x.promised ≡ promised_in n → x.accepted ≡ accepted_in n
      → (u : RoomAt) → u ≡ table → (w : View) → LooksAtAcceptor place n v w → n ≡ (seen_of s place).acceptor
      → IsKept heard (seat_of u w node p s) × LookedAtAcceptor j x (seat_of table v node p s) (seat_of u w node p s)
  acceptor_again heard v node s kept place j n at lt low x es ep u eu w h again =
      let word : get_or (acceptors_shown s) place no_acceptor ≡ x =
      acceptor_at s place ∙ (λ i. record { promised = (ap (λ (m : ℕ). promised_in m) (sym again) ∙ sym es) i; accepted = (ap (λ (m : ℕ). accepted_in m) (sym again) ∙ sym ep) i }) in
      let had : IsHeard node j x = subst (λ (y : AcceptorWord). IsHeard node j y) (ap (λ (i : ℕ). get_or (acceptors_shown s) i no_acceptor) (sym at) ∙ word) (kept.heard_so j low) in
      let found = acceptor_found v node s kept.sound place j n at lt x es ep u eu w h node (sym (hears_again node j x had)) in
      let same : with_acceptor s place n ≡ s = ap (λ (m : ℕ). with_acceptor s place m) again ∙ same_put s place in (
        record { sound = subst (λ (xs : List SeenWords). IsSound (seat_of u w node p xs)) same found.0; heard_so = kept.heard_so },
        subst (λ (xs : List SeenWords). LookedAtAcceptor j x (seat_of table v node p s) (seat_of u w node p xs)) same found.1,
      )

  -- what was heard before is heard still once node j's word is, and that is heard
  still_heard : (heard now : ℕ) (v : View) (node : NodeState) (s : List SeenWords) → IsKept heard (seat_of table v node p s) → (j n : ℕ) → j < node.quorums.nodes
      → ((k : ℕ) → k < now → (k ≡ j) ⊎ (k < heard))
      → (k : ℕ) → k < now → IsHeard (after_hearing node j (promised_in n) (accepted_in n)) k (get_or (acceptors_shown (with_acceptor s j n)) k no_acceptor)
  still_heard heard now v node s kept j n lt which k low = by_case (ℕ_discrete k j) (which k low)
    where
      hears : NodeState
      hears = after_hearing node j (promised_in n) (accepted_in n)

      room : j < length (acceptors_shown s)
      room = let row : length (acceptors_shown s) ≡ 7 = kept.sound.acceptor_row in let most : node.quorums.nodes ≤ 7 = kept.sound.most in omega arith

      now_there : get_or (acceptors_shown (with_acceptor s j n)) j no_acceptor ≡ record { promised = promised_in n; accepted = accepted_in n }
      now_there = ap (λ (xs : List AcceptorWord). get_or xs j no_acceptor) (acceptor_put s j n) ∙ get_or-set_same (acceptors_shown s) j _ no_acceptor room

      as_before : (k ≡ j → ⊥) → get_or (acceptors_shown (with_acceptor s j n)) k no_acceptor ≡ get_or (acceptors_shown s) k no_acceptor
      as_before d = ap (λ (xs : List AcceptorWord). get_or xs k no_acceptor) (acceptor_put s j n) ∙ get_or-set_other (acceptors_shown s) j k _ no_acceptor d

      by_case : Dec (k ≡ j) → (k ≡ j) ⊎ (k < heard) → IsHeard hears k (get_or (acceptors_shown (with_acceptor s j n)) k no_acceptor)
      by_case (yes e) _ =
          subst (λ (i : ℕ). IsHeard hears i (get_or (acceptors_shown (with_acceptor s j n)) i no_acceptor)) (sym e)
          (subst (λ (x : AcceptorWord). IsHeard hears j x) (sym now_there) (heard_now node j (record { promised = promised_in n; accepted = accepted_in n })))
      by_case (no d) (inl e) = absurd (d e)
      by_case (no d) (inr before) =
          subst (λ (x : AcceptorWord). IsHeard hears k x) (sym (as_before d)) (heard_other node k j (get_or (acceptors_shown s) k no_acceptor) (promised_in n) (accepted_in n) d (kept.heard_so k before))

  -- a number is put down, and the node hears it
  pub acceptor_noted : (heard now : ℕ) (v : View) (node : NodeState) (s : List SeenWords) → IsKept heard (seat_of table v node p s) → (place j n : ℕ) → place ≡ j → place < node.quorums.nodes → (x : AcceptorWord) → x.promised ≡ promised_in n → x.accepted ≡ accepted_in n
      → (u : RoomAt) → u ≡ table → (w : View) → LooksAtAcceptor place n v w → (hears : NodeState) → hears ≡ after_hearing node j (promised_in n) (accepted_in n) → (put : SeenWords) → put ≡ record (seen_of s place) { acceptor = n } → now ≡ heard_with heard j
      → IsKept now (seat_of u w hears p (set s place put)) × LookedAtAcceptor j x (seat_of table v node p s) (seat_of u w hears p (set s place put))
  acceptor_noted heard now v node s kept place j n at lt x es ep u eu w h hears eh put is en =
      let same : hears ≡ after_hearing node j x.promised x.accepted = eh ∙ (λ i. after_hearing node j (sym es i) (sym ep i)) in
      let found = acceptor_found v node s kept.sound place j n at lt x es ep u eu w h hears same in
      let which : (k : ℕ) → k < now → (k ≡ j) ⊎ (k < heard) = λ k low. heard_before heard j k (subst (λ (m : ℕ). k < m) en low) in
      let low : j < node.quorums.nodes = subst (λ (i : ℕ). i < node.quorums.nodes) at lt in
      let all : (k : ℕ) → k < now → IsHeard hears k (get_or (acceptors_shown (with_acceptor s place n)) k no_acceptor) = λ k l.
      subst (λ (i : ℕ). IsHeard hears k (get_or (acceptors_shown (with_acceptor s i n)) k no_acceptor)) (sym at)
      (subst (λ (z : NodeState). IsHeard z k (get_or (acceptors_shown (with_acceptor s j n)) k no_acceptor)) (sym eh) (still_heard heard now v node s kept j n low which k l)) in
      subst (λ (y : SeenWords). IsKept now (seat_of u w hears p (set s place y)) × LookedAtAcceptor j x (seat_of table v node p s) (seat_of u w hears p (set s place y))) (sym is)
      (record { sound = found.0; heard_so = all }, found.1)

  -- both words of a node were looked at
  pub node_found : (v : View) (node : NodeState) (s : List SeenWords) → IsSound (seat_of table v node p s) → (j number : ℕ) → j < node.quorums.nodes → (w : View) (t : List SeenWords) → LookedAtNode j number v s w t
      → (heard : NodeState) → heard ≡ after_hearing node j (promised_in number) (accepted_in number) → (r : List SeenWords) → r ≡ with_acceptor t j number
      → IsSound (seat_of table w heard p r) × LookedAtBoth j (seat_of table v node p s) (seat_of table w heard p r)
  node_found v node s sound j number lt w t h heard eh r er =
      let first = proposer_found v node s sound j j h.found refl lt (record { started = started_in h.found; proposed = proposed_in h.found }) refl refl table refl h.between h.proposer in
      let sound' = subst (λ (xs : List SeenWords). IsSound (seat_of table h.between node p xs)) (sym h.put) first.0 in
      let second = acceptor_found h.between node t sound' j j number refl lt (record { promised = promised_in number; accepted = accepted_in number }) refl refl table refl w h.acceptor heard eh in
      let on : LookedAtProposer j (record { started = started_in h.found; proposed = proposed_in h.found }) (seat_of table v node p s) (seat_of table h.between node p t) =
      subst (λ (xs : List SeenWords). LookedAtProposer j (record { started = started_in h.found; proposed = proposed_in h.found }) (seat_of table v node p s) (seat_of table h.between node p xs)) (sym h.put) first.1 in
      subst (λ (xs : List SeenWords). IsSound (seat_of table w heard p xs) × LookedAtBoth j (seat_of table v node p s) (seat_of table w heard p xs)) (sym er) (
        second.0,
        record {
          proposer = record { started = started_in h.found; proposed = proposed_in h.found };
          acceptor = record { promised = promised_in number; accepted = accepted_in number };
          between = seat_of table h.between node p t;
          first = on;
          second = second.1;
        },
      )

  -- ---- the looks of a sweep, which found nothing new

  -- what they leave
  pub record SweptOn (v : View) (node : NodeState) (s : List SeenWords) (j : ℕ) (w : View) (t : List SeenWords) : Type 0 where
    pub sound : IsSound (seat_of table w node p t)
    pub same : acceptors_shown t ≡ acceptors_shown s
    pub looked : LookedAtFirst j (seat_of table v node p s) (seat_of table w node p t)

  -- the number that was seen last is put down again
  shown_again : (r t : List SeenWords) (j found : ℕ) → j < length r → t ≡ with_proposer r j found → t ≡ with_acceptor t j (seen_of r j).acceptor
  shown_again r t j found lt e =
      let there : (seen_of t j).acceptor ≡ (seen_of r j).acceptor =
      ap (λ (xs : List SeenWords). (seen_of xs j).acceptor) e ∙ ap (λ (y : SeenWords). y.acceptor) (get_or-set_same r j _ none_seen lt) in
      sym (same_put t j) ∙ ap (λ (n : ℕ). with_acceptor t j n) there

  length_shown : (r : List SeenWords) → length (proposers_shown r) ≡ length r
  length_shown r = length-map r proposer_shown

  pub swept_on : (heard : ℕ) (v : View) (node : NodeState) (s : List SeenWords) → IsKept heard (seat_of table v node p s) → node.quorums.nodes ≤ heard → (j : ℕ) → j ≤ node.quorums.nodes → (w : View) (t : List SeenWords) → FoundUnchanged j v s w t → SweptOn v node s j w t
  swept_on heard v node s kept all zero most w t h =
      record {
        sound = subst (λ (z : View). IsSound (seat_of table z node p t)) (sym h.0) (subst (λ (xs : List SeenWords). IsSound (seat_of table v node p xs)) (sym h.1) kept.sound);
        same = ap acceptors_shown h.1;
        looked = λ i. seat_of table (h.0 i) node p (h.1 i);
      }
  swept_on heard v node s kept all (suc j) most w t (u, r, h, k) =
      let before = swept_on heard v node s kept all j (omega arith) u r h in
      let word : get_or (acceptors_shown s) j no_acceptor ≡ acceptor_shown (seen_of r j) = sym (ap (λ (xs : List AcceptorWord). get_or xs j no_acceptor) before.same) ∙ acceptor_at r j in
      let had : IsHeard node j (acceptor_shown (seen_of r j)) = subst (λ (y : AcceptorWord). IsHeard node j y) word (kept.heard_so j (omega arith)) in
      let row : length r ≡ 7 = sym (length_shown r) ∙ before.sound.proposer_row in
      let few : node.quorums.nodes ≤ 7 = before.sound.most in
      let both = node_found u node r before.sound j (seen_of r j).acceptor (omega arith) w t k node (sym (hears_again node j (acceptor_shown (seen_of r j)) had)) t (shown_again r t j k.found (omega arith) k.put) in
      record {
        sound = both.0;
        same = ap acceptors_shown k.put ∙ (acceptors_stay r j k.found ∙ before.same);
        looked = (seat_of table u node p r, before.looked, both.1);
      }

  -- all nodes were looked at
  pub all_swept : (heard : ℕ) (v : View) (node : NodeState) (s : List SeenWords) → IsKept heard (seat_of table v node p s) → node.quorums.nodes ≤ heard → (w : View) (t : List SeenWords) → FoundUnchanged node.quorums.nodes v s w t
      → IsKept heard (seat_of table w node p t) × LookedAtFirst node.quorums.nodes (seat_of table v node p s) (seat_of table w node p t)
  all_swept heard v node s kept all w t h =
      let on = swept_on heard v node s kept all node.quorums.nodes (omega arith) w t h in (
        record { sound = on.sound; heard_so = λ j lt. subst (λ (xs : List AcceptorWord). IsHeard node j (get_or xs j no_acceptor)) (sym on.same) (kept.heard_so j lt) },
        on.looked,
      )

  -- it stopped at a node, and heard what was found
  pub swept_until : (heard : ℕ) (v : View) (node : NodeState) (s : List SeenWords) → IsKept heard (seat_of table v node p s) → node.quorums.nodes ≤ heard → (j number : ℕ) (w : View) (t : List SeenWords) → FoundChanged j number node.quorums.nodes v s w t
      → (hears : NodeState) → hears ≡ after_hearing node j (promised_in number) (accepted_in number) → (r : List SeenWords) → r ≡ with_acceptor t j number
      → IsKept heard (seat_of table w hears p r) × LookedAtFirst (suc j) (seat_of table v node p s) (seat_of table w hears p r)
  swept_until heard v node s kept all j number w t h hears eh r er =
      let below : j < node.quorums.nodes = h.node in
      let before = swept_on heard v node s kept all j (omega arith) h.before h.seen h.swept in
      let last = node_found h.before node h.seen before.sound j number below w t h.looked hears eh r er in
      let kept' : IsKept heard (seat_of table h.before node p h.seen) =
      record { sound = before.sound; heard_so = λ k lt. subst (λ (xs : List AcceptorWord). IsHeard node k (get_or xs k no_acceptor)) (sym before.same) (kept.heard_so k lt) } in
      let shown : acceptors_shown r ≡ acceptors_shown (with_acceptor h.seen j number) =
      ap acceptors_shown er ∙ (acceptor_put t j number ∙ (ap (λ (xs : List AcceptorWord). set xs j (record { promised = promised_in number; accepted = accepted_in number })) (ap acceptors_shown h.looked.put ∙ acceptors_stay h.seen j h.looked.found) ∙ sym (acceptor_put h.seen j number))) in
      let each : (k : ℕ) → k < heard → IsHeard hears k (get_or (acceptors_shown r) k no_acceptor) = λ k lt.
      subst (λ (xs : List AcceptorWord). IsHeard hears k (get_or xs k no_acceptor)) (sym shown)
      (subst (λ (z : NodeState). IsHeard z k (get_or (acceptors_shown (with_acceptor h.seen j number)) k no_acceptor)) (sym eh)
      (still_heard heard heard h.before node h.seen kept' j number below (λ i il. inr il) k lt)) in
      (record { sound = last.0; heard_so = each }, (seat_of table h.before node p h.seen, before.looked, last.1))

-- a seat that has heard no word that it saw last
pub none_heard : (s : SeatState) → IsSound s → IsKept 0 s
none_heard s sound = record { sound = sound; heard_so = λ j lt. absurd (omega arith) }

-- a seat keeps what it has heard where nothing of its notes changes, nor what it saw of acceptors
pub kept_heard : (heard : ℕ) (s t : SeatState) → IsKept heard s → IsSound t → t.acceptors ≡ s.acceptors → SameNotes s.node t.node → IsKept heard t
kept_heard heard s t kept sound same notes =
    record {
      sound = sound;
      heard_so = λ j lt. subst (λ (xs : List AcceptorWord). IsHeard t.node j (get_or xs j no_acceptor)) (sym same) (heard_still s.node t.node notes j (acceptor_of s j) (kept.heard_so j lt));
    }
