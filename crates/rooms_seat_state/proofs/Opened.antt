-- The seats of a room that has just been opened.
use Rattle.std.proofs.Common.{◌≡◌, ℕ, zero, suc, ◌/◌, ◌%◌, ◌<◌, ◌≤◌, ◌⊎◌, List, [], ◌∷◌, length, map, get_or, Option, Some, None, IfSome, refl, sym, ap, ◌∙◌, subst, inl, inr, arith}
use Rattle.std.proofs.lemmas.Bool.{cases_lt}
use Rattle.rooms_table.specs.RoomAt.{HasWords, RoomAt}
use Rattle.paxos_core_world.specs.Ballot.{Owns}
use Rattle.paxos_core_world.specs.KeptPart.{KeptPart, nothing_kept}
use Rattle.paxos_core_world.specs.Quorum.{AreQuorums, Sizes}
use Rattle.paxos_core_world.specs.Settled.{Settled}
use Rattle.paxos_core_world.specs.World.{nodes_of}
use Rattle.paxos_core_world.specs.declared.vote.Vote.{Vote}
use Rattle.rooms_words.specs.declared.acceptor.AcceptorWord.{AcceptorWord}
use Rattle.rooms_words.specs.declared.proposer.ProposerWord.{ProposerWord}
use Rattle.rooms_words.specs.declared.view.Opening.{Opening}
use Rattle.rooms_words.specs.Views.{world_after, IsLegal}
use Rattle.rooms_words.specs.Words.{IsProposerWord, IsVoteInWord, decoded}
use Rattle.rooms_words.proofs.Deal.{opens_with, opening_word, none_proposed_yet}
use Rattle.rooms_words.proofs.RunLemmas.{legal_reached}
use Rattle.rooms_steps.proofs.Stays.{proposer_seen, acceptor_seen}
use Rattle.rooms_seat_state.specs.SeatState.{CanOpen, opening_of, opened_proposer, opened_acceptor, opened_seat, no_proposer, no_acceptor}
use Rattle.rooms_seat_state.specs.Sound.{IsSound}

-- ---- the kept parts

beyond : {A : Type 0} (xs : List A) (j : ℕ) (d : A) → length xs ≤ j → get_or xs j d ≡ d
beyond [] j d h = refl
beyond (x ∷ xs) zero d h = absurd (omega arith)
beyond (x ∷ xs) (suc j) d h = beyond xs j d (omega arith)

same_node : (q : Sizes) (kept : List KeptPart) → length kept ≤ 7 → (i : ℕ) → nodes_of (opening_of q kept).kept i ≡ nodes_of kept i
same_node q kept most zero = refl
same_node q kept most (suc zero) = refl
same_node q kept most (suc (suc zero)) = refl
same_node q kept most (suc (suc (suc zero))) = refl
same_node q kept most (suc (suc (suc (suc zero)))) = refl
same_node q kept most (suc (suc (suc (suc (suc zero))))) = refl
same_node q kept most (suc (suc (suc (suc (suc (suc zero)))))) = refl
same_node q kept most (suc (suc (suc (suc (suc (suc (suc i))))))) = sym (beyond kept (suc (suc (suc (suc (suc (suc (suc i))))))) nothing_kept (omega arith))

-- the room that is opened has the nodes whose parts were given
pub same_nodes : (q : Sizes) (kept : List KeptPart) → length kept ≤ 7 → nodes_of (opening_of q kept).kept ≡ nodes_of kept
same_nodes q kept most = λ k i. same_node q kept most i k

pub can_open : (q : Sizes) (kept : List KeptPart) → AreQuorums q → length kept ≡ q.nodes → Settled q (nodes_of kept) → CanOpen (opening_of q kept)
can_open q kept sizes size settled =
    record {
      sizes = sizes;
      settled = subst (λ (nodes : ℕ → KeptPart). Settled q nodes) (sym (same_nodes q kept most)) settled;
      row = refl;
      beyond = λ i h. same_node q kept most i ∙ beyond kept i nothing_kept (subst (λ (n : ℕ). n ≤ i) (sym size) h);
    }
  where
    most : length kept ≤ 7
    most = subst (λ (n : ℕ). n ≤ 7) (sym size) sizes.most

-- what is seen of node j, in the row of all
at_map : {A B : Type 0} (f : A → B) (xs : List A) (j : ℕ) (d : A) (e : B) → j < length xs → get_or (map f xs) j e ≡ f (get_or xs j d)
at_map f [] j d e lt = absurd (omega arith)
at_map f (x ∷ xs) zero d e lt = refl
at_map f (x ∷ xs) (suc j) d e lt = at_map f xs j d e (omega arith)

length-map : {A B : Type 0} (f : A → B) (xs : List A) → length (map f xs) ≡ length xs
length-map f [] = refl
length-map f (x ∷ xs) = ap suc (length-map f xs)

-- a row of seven, one by one
pub seven : {A B : Type 0} (f : A → B) (d : A) (xs : List A) → length xs ≡ 7
    → f (get_or xs 0 d) ∷ f (get_or xs 1 d) ∷ f (get_or xs 2 d) ∷ f (get_or xs 3 d) ∷ f (get_or xs 4 d) ∷ f (get_or xs 5 d) ∷ f (get_or xs 6 d) ∷ [] ≡ map f xs
seven f d [] e = absurd (omega arith)
seven f d (x0 ∷ []) e = absurd (omega arith)
seven f d (x0 ∷ x1 ∷ []) e = absurd (omega arith)
seven f d (x0 ∷ x1 ∷ x2 ∷ []) e = absurd (omega arith)
seven f d (x0 ∷ x1 ∷ x2 ∷ x3 ∷ []) e = absurd (omega arith)
seven f d (x0 ∷ x1 ∷ x2 ∷ x3 ∷ x4 ∷ []) e = absurd (omega arith)
seven f d (x0 ∷ x1 ∷ x2 ∷ x3 ∷ x4 ∷ x5 ∷ []) e = absurd (omega arith)
seven f d (x0 ∷ x1 ∷ x2 ∷ x3 ∷ x4 ∷ x5 ∷ x6 ∷ []) e = refl
seven f d (x0 ∷ x1 ∷ x2 ∷ x3 ∷ x4 ∷ x5 ∷ x6 ∷ x7 ∷ xs) e = absurd (omega arith)

-- ---- a seat

-- the ballot itself is the word of a proposer without a proposal
bare_word : (started : ℕ) → started ≤ 65535 → IsProposerWord started started None
bare_word started low =
    let rest : started % 65536 ≡ started = omega arith in
    let none : started / 65536 ≡ 0 = omega arith in
    record {
      packed = omega arith;
      tells_started = rest;
      tells_proposed = ap (λ (code : ℕ). decoded (code % 256)) none;
    }

low_ballot : (n i b : ℕ) → (b ≡ 0) ⊎ Owns n i b → b ≤ 65535
low_ballot n i b (inl e) = omega arith
low_ballot n i b (inr own) = own.last

pub opened_sound : (t : RoomAt) (o : Opening) (i : ℕ) → HasWords t o.quorums.nodes → CanOpen o → i < o.quorums.nodes → IsSound (opened_seat t o i)
opened_sound t o i words can lt =
    record {
      words = words;
      quorums = refl;
      most = can.sizes.most;
      proposer_row = length-map opened_proposer o.kept ∙ can.row;
      acceptor_row = length-map opened_acceptor o.kept ∙ can.row;
      seated = record { live = refl; first = refl; last = refl };
      node = refl;
      legal = legal;
      belongs = opens_with o i can.sizes can.settled lt;
      own_word = (nodes_of o.kept i).started;
      own = opening_word o i (nodes_of o.kept i).started (bare_word (nodes_of o.kept i).started (low_ballot o.quorums.nodes i (nodes_of o.kept i).started (can.settled.ballots i lt).own));
      proposed = (bare_word (nodes_of o.kept i).started (low_ballot o.quorums.nodes i (nodes_of o.kept i).started (can.settled.ballots i lt).own)).tells_proposed;
      proposers = λ j jl.
          proposer_seen o.quorums (world_after o []) j (get_or (map opened_proposer o.kept) j no_proposer) (legal_reached o [] legal) jl
          (ap (λ (x : ProposerWord). x.started) (proposer_at_j j jl)) (ap (λ (x : ProposerWord). x.proposed) (proposer_at_j j jl) ∙ sym (none_proposed_yet o j));
      acceptors = λ j jl.
          acceptor_seen o.quorums (world_after o []) j (get_or (map opened_acceptor o.kept) j no_acceptor) (legal_reached o [] legal) jl
          (ap (λ (x : AcceptorWord). x.promised) (acceptor_at_j j jl)) (ap (λ (x : AcceptorWord). x.accepted) (acceptor_at_j j jl));
      owned = λ j jl. subst (λ (x : ProposerWord). (x.started ≡ 0) ⊎ Owns o.quorums.nodes j x.started) (sym (proposer_at_j j jl)) (can.settled.ballots j jl).own;
    }
  where
    legal : IsLegal o []
    legal = record { sizes = can.sizes; settled = can.settled; run = tt }

    below : (j : ℕ) → j < o.quorums.nodes → j < length o.kept
    below j jl = let most : o.quorums.nodes ≤ 7 = can.sizes.most in let row : length o.kept ≡ 7 = can.row in omega arith

    proposer_at_j : (j : ℕ) → j < o.quorums.nodes → get_or (map opened_proposer o.kept) j no_proposer ≡ opened_proposer (nodes_of o.kept j)
    proposer_at_j j jl = at_map opened_proposer o.kept j nothing_kept no_proposer (below j jl)

    acceptor_at_j : (j : ℕ) → j < o.quorums.nodes → get_or (map opened_acceptor o.kept) j no_acceptor ≡ opened_acceptor (nodes_of o.kept j)
    acceptor_at_j j jl = at_map opened_acceptor o.kept j nothing_kept no_acceptor (below j jl)

-- ---- the words

-- a vote of kept parts with which a room opens fits a word
pub vote_fits : (o : Opening) → CanOpen o → (i : ℕ) → IfSome (nodes_of o.kept i).accepted IsVoteInWord
vote_fits o can i = elim (cases_lt i o.quorums.nodes) [
  | inl lt ↦ fits lt (nodes_of o.kept i).accepted refl
  | inr ge ↦ subst (λ (k : KeptPart). IfSome k.accepted IsVoteInWord) (sym (can.beyond i ge)) tt
]
  where
    fits : i < o.quorums.nodes → (a : Option Vote) → (nodes_of o.kept i).accepted ≡ a → IfSome a IsVoteInWord
    fits lt None e = tt
    fits lt (Some x) e =
        let most : o.quorums.nodes ≤ 7 = can.sizes.most in
        let number : x.value < o.quorums.nodes = (can.settled.vote i x lt e).offered.0 in
        let within = subst (λ (a : Option Vote). IfSome a (λ y. (1 ≤ y.ballot) × (y.ballot ≤ (nodes_of o.kept i).promised))) e (can.settled.within i lt) in (within.0, omega arith)
