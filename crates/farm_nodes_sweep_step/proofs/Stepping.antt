-- What is staged and taken in one room: what its record goes on from, and what it leaves.
use Rattle.std.proofs.Common.{◌≡◌, ◌≢◌, ℕ, ◌<◌, List, [], ◌∷◌, Option, Some, None, IfSome, refl, sym, ap, ◌∙◌, subst}
use Rattle.std.specs.Prelude.{All}
use Rattle.std.proofs.lemmas.List.Elements.{All-nil, All-cons, All-head, All-tail}
use Rattle.paxos_core_node_steps.specs.declared.step.Step.{Step}
use Rattle.acceptor_log_form.specs.declared.record.Record.{Record}
use Rattle.acceptor_log_form.specs.Text.{room_of}
use Rattle.acceptor_log_form.specs.Leaves.{proposed_in}
use Rattle.acceptor_log_form.specs.Order.{MayComeNext}
use Rattle.rooms_crash.specs.SeatAct.{SeatAct}
use Rattle.rooms_crash.specs.AcceptorWord.{AcceptorWord}
use Rattle.rooms_crash.specs.ProposerWord.{ProposerWord}
use Rattle.rooms_crash.specs.Did.{LookedAtAcceptor, LookedAtProposer}
use Rattle.rooms_crash.specs.SeatState.{SeatState}
use Rattle.rooms_crash.specs.Would.{would, Acted, IsAmong}
use Rattle.farm_nodes_turn_order.specs.Meeting.{IsBounded}
use Rattle.farm_nodes_turn_order.specs.Ordered.{IsUnproposed}
use Rattle.farm_nodes_turn_order.specs.Recorded.{record_of}
use Rattle.farm_nodes_turn_order.proofs.Looked.{looked_acceptor, looked_proposer}
use Rattle.farm_nodes_turn_order.proofs.Orders.{step_follows, step_goes}
use Rattle.farm_nodes_turn_order.proofs.Records.{room_of_step}
use Rattle.farm_nodes_turn_step.proofs.Answering.{heard_acceptor, heard_proposer, heard_same, heard_through}
use Rattle.farm_nodes_turn_step.proofs.Steps.{step_kept}
use Rattle.farm_nodes_sweep_records.specs.Pending.{ArePending, MayPut, Seats, StandFor, TakesStep}
use Rattle.farm_nodes_sweep_step.specs.Staged.{HasLooked, MayStep, Steps}
use Rattle.farm_nodes_sweep_step.specs.StepLaws.{HaveLooked, IsStillAt}

pub looked_same : (s : SeatState) → HasLooked s s
looked_same s = record { heard = heard_same s; kept = refl; proposed = refl }

-- a look more at both words of a node
pub looked_more : (j : ℕ) (x : ProposerWord) (y : AcceptorWord) (s m u t : SeatState) → HasLooked s m → LookedAtProposer j x m u → LookedAtAcceptor j y u t → HasLooked s t
looked_more j x y s m u t before first second =
    let one = looked_proposer j x m u first in
    let two = looked_acceptor j y u t second in
    record {
      heard = heard_through s u t (heard_through s m u before.heard (heard_proposer j x m u first)) (heard_acceptor j y u t second);
      kept = two.kept ∙ one.kept ∙ before.kept;
      proposed = two.proposed ∙ one.proposed ∙ before.proposed;
    }

-- the record of what the seat would do
pub may_step : (room : ℕ) (s : SeatState) (a : SeatAct) (x : Step) (r : Record) → IsBounded s → IsAmong s.node.quorums.nodes a → Some x ≡ would s a → r ≡ record_of room x → MayStep room s r
may_step room s a x r bounds among told is = record {
  own = ap room_of is ∙ room_of_step room x;
  goes = λ last fresh. subst (λ (q : Record). MayComeNext s.node.quorums.nodes s.node.me s.node.kept last q) (sym is) (step_goes room s bounds last fresh a x among told);
}

-- and what taking it leaves
steps : (room : ℕ) (s t : SeatState) (a : SeatAct) (x : Step) → IsBounded s → IsAmong s.node.quorums.nodes a → Some x ≡ would s a → Acted a s t → Steps room s t (record_of room x)
steps room s t a x bounds among told acted =
    let r = record_of room x in
    let follows = step_follows room s t a x r bounds among told refl acted (step_kept room s t a x r told refl acted) in
    record { own = follows.own; kept = follows.step; me = follows.me; quorums = follows.quorums; leaves = follows.leaves }

steps_by : (room : ℕ) (s t : SeatState) (a : SeatAct) → IsBounded s → IsAmong s.node.quorums.nodes a → Acted a s t → (o : Option Step) → o ≡ would s a → IfSome o (λ x. Steps room s t (record_of room x))
steps_by room s t a bounds among acted None told = tt
steps_by room s t a bounds among acted (Some x) told = steps room s t a x bounds among told acted

pub all_steps : (s t : SeatState) (a : SeatAct) → IsBounded s → IsAmong s.node.quorums.nodes a → Acted a s t → (room : ℕ) → IfSome (would s a) (λ x. Steps room s t (record_of room x))
all_steps s t a bounds among acted room = steps_by room s t a bounds among acted (would s a) refl

-- ---- of all rooms

module _ (before after : Seats) (n i rooms : ℕ) where
  looked_unproposed : (last : ℕ) (s t : SeatState) → HasLooked s t → IsUnproposed last s → IsUnproposed last t
  looked_unproposed last s t looked fresh b is none = fresh b (sym looked.heard.ballot ∙ is) (sym looked.proposed ∙ none)

  stand_looked : (rs : List Record) → StandFor before n i rooms rs → HaveLooked before after → StandFor after n i rooms rs
  stand_looked rs stand looked = record {
    in_order = stand.in_order;
    kept = λ m t at. let was = looked m t at in stand.kept m was.0 was.1 ∙ sym was.2.kept;
    unproposed = λ m t at.
        let was = looked m t at in
        looked_unproposed (proposed_in rs m) was.0 t was.2 (stand.unproposed m was.0 was.1);
  }

  may_still : (r : Record) → IsStillAt before after r → MayPut before n i rooms r → MayPut after n i rooms r
  may_still r still may = record { seat = may.seat; there = still ∙ may.there; low = may.low; goes = may.goes }

  all_still : (pending : List Record) → All (IsStillAt before after) pending → All (λ (r : Record). MayPut before n i rooms r) pending
      → All (λ (r : Record). MayPut after n i rooms r) pending
  all_still [] still may = All-nil (λ (r : Record). MayPut after n i rooms r)
  all_still (r ∷ rs) still may =
      All-cons (λ (q : Record). MayPut after n i rooms q) r rs
      (may_still r (All-head (IsStillAt before after) r rs still) (All-head (λ (q : Record). MayPut before n i rooms q) r rs may))
      (all_still rs (All-tail (IsStillAt before after) r rs still) (All-tail (λ (q : Record). MayPut before n i rooms q) r rs may))

  pub pending_still : (rs pending : List Record) → ArePending before n i rooms rs pending → HaveLooked before after
      → All (IsStillAt before after) pending → ArePending after n i rooms rs pending
  pending_still rs pending are looked still = record {
    stand = stand_looked rs are.stand looked;
    in_order = are.in_order;
    may = all_still pending still are.may;
    apart = are.apart;
  }

pub may_put : (seats : Seats) (rooms room : ℕ) (s : SeatState) (r : Record) → seats room ≡ Some s → room < rooms → MayStep room s r → MayPut seats s.node.quorums.nodes s.node.me rooms r
may_put seats rooms room s r at low may = record {
  seat = s;
  there = ap seats may.own ∙ at;
  low = subst (λ (m : ℕ). m < rooms) (sym may.own) low;
  goes = may.goes;
}

pub takes_step : (before after : Seats) (room : ℕ) (s t : SeatState) (r : Record) → before room ≡ Some s → after room ≡ Some t
    → ((m : ℕ) → m ≢ room → after m ≡ before m) → Steps room s t r → TakesStep before after r
takes_step before after room s t r at is others steps = record {
  others = λ m other. others m (λ same. other (same ∙ sym steps.own));
  was = s;
  at = ap before steps.own ∙ at;
  now = t;
  is = ap after steps.own ∙ is;
  step = steps.kept;
  leaves = steps.leaves;
}
