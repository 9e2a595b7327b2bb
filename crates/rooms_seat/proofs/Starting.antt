-- A seat as its room opens.
use Rattle.std.proofs.Common.{◌≡◌, ℕ, zero, suc, ◌<◌, List, [], ◌∷◌, length, map, get_or, None, IfSome, refl, sym, ap, ◌∙◌, subst, arith}
use Rattle.paxos_core_world.specs.KeptPart.{KeptPart, nothing_kept}
use Rattle.paxos_core_world.specs.World.{nodes_of}
use Rattle.rooms_words.specs.NodeState.{NodeState, new_node, node_with, restarted}
use Rattle.rooms_words.specs.Deal.{dealt}
use Rattle.rooms_words.specs.declared.acceptor.AcceptorWord.{AcceptorWord}
use Rattle.rooms_words.specs.declared.proposer.ProposerWord.{ProposerWord}
use Rattle.rooms_words.specs.declared.view.Opening.{Opening}
use Rattle.rooms_words.specs.declared.view.View.{View}
use Rattle.rooms_meeting.specs.RoomAt.{RoomAt}
use Rattle.rooms_meeting.specs.SeatState.{opened_acceptor, opened_proposer, opened_seat, CanOpen, SeatState}
use Rattle.rooms_words.specs.Words.{IsVoteInWord}
use Rattle.rooms_meeting.proofs.Opened.{vote_fits}

-- what stands in a row, whatever stands for what is not there
any_default : {A : Type 0} (xs : List A) (j : ℕ) (d e : A) → j < length xs → get_or xs j d ≡ get_or xs j e
any_default [] j d e lt = absurd (omega arith)
any_default (x ∷ xs) zero d e lt = refl
any_default (x ∷ xs) (suc j) d e lt = any_default xs j d e (omega arith)

-- the image of what stands at a place
pub image_at : {A B : Type 0} (f : A → B) (xs : List A) (j : ℕ) (x d : A) (y : B) → j < length xs → y ≡ f (get_or xs j x) → y ≡ f (get_or xs j d)
image_at f xs j x d y lt e = e ∙ ap f (any_default xs j x d lt)

-- what a node keeps, read at its place
pub kept_at : (kept : List KeptPart) (place i : ℕ) (d : KeptPart) → place ≡ i → i < length kept → get_or kept place d ≡ nodes_of kept i
kept_at kept place i d at lt = ap (λ (j : ℕ). get_or kept j d) at ∙ any_default kept i d nothing_kept lt

-- a vote that the node has kept fits a word
pub kept_fits : (o : Opening) → CanOpen o → (i : ℕ) (d : KeptPart) → i < 7 → IfSome (get_or o.kept i d).accepted IsVoteInWord
kept_fits o can i d lt =
    subst (λ (k : KeptPart). IfSome k.accepted IsVoteInWord) (sym (kept_at o.kept i i d refl (subst (λ (n : ℕ). i < n) (sym can.row) lt))) (vote_fits o can i)

pub is_opened : (table : RoomAt) (v : View) (o : Opening) (i : ℕ) (node fresh : NodeState) (k : KeptPart) (ps : List ProposerWord) (xs : List AcceptorWord) → v ≡ dealt o i → fresh ≡ new_node i o.quorums
    → node ≡ restarted fresh k → k ≡ nodes_of o.kept i → ps ≡ map opened_proposer o.kept → xs ≡ map opened_acceptor o.kept
    → ◌≡◌ {A = SeatState} record { table = table; view = v; node = node; proposed = None; proposers = ps; acceptors = xs } (opened_seat table o i)
is_opened table v o i node fresh k ps xs ev ef en ek ep ea =
    let e : node ≡ node_with i o.quorums (nodes_of o.kept i) = en ∙ (ap (λ (s : NodeState). restarted s k) ef ∙ ap (λ (x : KeptPart). node_with i o.quorums x) ek) in
    λ j. record { table = table; view = ev j; node = e j; proposed = None; proposers = ep j; acceptors = ea j }
