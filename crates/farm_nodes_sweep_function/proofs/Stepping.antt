-- What a step of a batch leaves of the seat in its room.
use Rattle.std.proofs.Common.{◌≡◌, ℕ, Bool, true, List, [], ◌∷◌, ◌++◌, Option, Some, None, IfSome, refl, sym, ap, ◌∙◌, subst}
use Rattle.acceptor_log_form.specs.declared.record.Record.{Record}
use Rattle.acceptor_log_form.specs.Text.{room_of}
use Rattle.paxos_core_node_steps.specs.declared.step.Step.{Step as CoreStep}
use Rattle.rooms_crash.specs.SeatAct.{SeatAct}
use Rattle.rooms_crash.specs.SeatAct.TheVariants as act
use Rattle.rooms_crash.specs.SeatState.{SeatState}
use Rattle.rooms_crash.specs.Would.{would, Acted}
use Rattle.farm_nodes_turn_order.specs.Recorded.{record_of, records_of}
use Rattle.farm_nodes_turn_order.proofs.Told.{offer_acted, offer_own}
use Rattle.farm_nodes_turn_step.proofs.Answering.{heard_promised, heard_same, heard_voted}
use Rattle.farm_nodes_turn_leading.specs.Leading.{StaysInRoom, may_start}
use Rattle.farm_nodes_turn_leading.proofs.Ballots.{leaves_proposing, leaves_starting, stays_hearing, stays_leading}
use Rattle.farm_nodes_turn_offer.proofs.Leavings.{offer_follows}
use Rattle.farm_nodes_turn_room.proofs.Turns.{held_offered, held_same, own_seeing, stays_held, stays_on}
use Rattle.farm_nodes_turn_function.specs.SeatValue.{SeatValue, offer_of}
use Rattle.farm_nodes_turn_function.specs.Offers.{IsConstants, IsExpressions, IsAllocation, IsOrder}
use Rattle.farm_nodes_turn_function.specs.Played.{StaysInTurn}
use Rattle.farm_nodes_turn_function.specs.Told.{IsOwnText, IsToldAs, last_offer_in, offer_by}
use Rattle.farm_nodes_sweep_step.specs.Staged.{Steps}
use Rattle.farm_nodes_sweep_function.specs.declared.planned.Step.{Step}
use Rattle.farm_nodes_sweep_function.specs.Due.{Does, DoesIn, IsDue, IsDueIn, MayDo, MayDoIn}
use Rattle.farm_nodes_sweep_function.specs.Staged.{Plans, PlansIn}
use Rattle.farm_nodes_sweep_function.specs.RoomSeat.{Acts, Foreign, Lays, Task, RoomSeat, InConstants, InExpressions, InAllocation, InOrder, words_in, for_constants, for_expressions, for_allocation, for_order}
use Rattle.farm_nodes_sweep_function.specs.Stays.{IsOwnIn, StaysSeat}

acted_steps : (s t : SeatState) (r : Record) (o : Option CoreStep) → records_of (room_of r) o ≡ r ∷ []
    → IfSome o (λ x. Steps (room_of r) s t (record_of (room_of r) x)) → Steps (room_of r) s t r
acted_steps s t r None e has = absurd (cc)
acted_steps s t r (Some x) e has = let same : record_of (room_of r) x ≡ r = cc in subst (λ (q : Record). Steps (room_of r) s t q) same has

pub remains : (s t : SeatState) (a : SeatAct) → (a ≡ act.Start → may_start s.node ≡ true) → Acted a s t → StaysInRoom s t
remains s t act.Start starts acted = stays_leading s s t (heard_same s) (leaves_starting s t (starts refl) acted)
remains s t (act.Promise j) starts acted = stays_hearing s t (heard_promised j s t acted)
remains s t act.Propose starts acted = stays_leading s s t (heard_same s) (leaves_proposing s t acted)
remains s t (act.Accept j) starts acted = stays_hearing s t (heard_voted j s t acted)

module _ {T : Type 0} (IsText : List ℕ → T → Type 0) (s t : SeatValue T) (r : Record) where
  -- what its record leaves
  steps_of : (x : Task T) → IsDue IsText s r x → Does s t x → Steps (room_of r) s.words t.words r
  steps_of (Acts a) due does = acted_steps s.words t.words r (would s.words a) due.entry (does.steps (room_of r))
  steps_of (Lays x) due does =
      let follows = offer_follows (room_of r) due.text x r s t due.entry does.0 in
      record { own = follows.own; kept = follows.step; me = follows.me; quorums = follows.quorums; leaves = follows.leaves }
  steps_of Foreign due does = absurd due

  -- what a turn leaves
  stays_of : (x : Task T) → IsDue IsText s r x → Does s t x → StaysInTurn s t
  stays_of (Acts a) due does = stays_on s s t (held_same s s refl) (remains s.words t.words a due.starts does.acted) does.sights
  stays_of (Lays x) due does = stays_held s t (held_offered x s t does.0 does.1)
  stays_of Foreign due does = absurd due

  -- the text of its offer
  told_of : (x : Task T) (rs : List Record) → IsDue IsText s r x → Does s t x
      → (s.words.node.kept.offered ≡ true → IsToldAs (IsOwnText IsText s) (last_offer_in rs (room_of r)))
      → t.words.node.kept.offered ≡ true → IsToldAs (IsOwnText IsText t) (last_offer_in (rs ++ r ∷ []) (room_of r))
  told_of (Acts a) rs due does told now =
      let stays = stays_of (Acts a) due does in
      let before = told (sym (remains s.words t.words a due.starts does.acted).offered ∙ now) in (
        before.0,
        offer_own rs r (room_of r) refl ∙ (offer_acted (last_offer_in rs (room_of r)) (room_of r) (would s.words a) r due.entry ∙ before.1),
        own_seeing IsText s t stays.me stays.seen before.0 before.2,
      )
  told_of (Lays x) rs due does told now = (
    due.text,
    offer_own rs r (room_of r) refl ∙ ap (λ (q : Record). offer_by (last_offer_in rs (room_of r)) q) due.entry,
    (x, ap (λ (u : SeatState). offer_of t u.node.me) does.0.words ∙ does.0.own, due.told),
  )
  told_of Foreign rs due does told now = absurd due

-- ---- of the seat of any pass

pub steps_in : (u v : RoomSeat) (r : Record) (x : Step) → IsDueIn u r x → DoesIn x u v → Steps (room_of r) (words_in u) (words_in v) r
steps_in (InConstants s) (InConstants t) r x due does = steps_of IsConstants s t r (for_constants x) due does
steps_in (InExpressions s) (InExpressions t) r x due does = steps_of IsExpressions s t r (for_expressions x) due does
steps_in (InAllocation s) (InAllocation t) r x due does = steps_of IsAllocation s t r (for_allocation x) due does
steps_in (InOrder s) (InOrder t) r x due does = steps_of IsOrder s t r (for_order x) due does
steps_in one other r x due does = absurd does

pub stays_in : (u v : RoomSeat) (r : Record) (x : Step) → IsDueIn u r x → DoesIn x u v → StaysSeat u v
stays_in (InConstants s) (InConstants t) r x due does = stays_of IsConstants s t r (for_constants x) due does
stays_in (InExpressions s) (InExpressions t) r x due does = stays_of IsExpressions s t r (for_expressions x) due does
stays_in (InAllocation s) (InAllocation t) r x due does = stays_of IsAllocation s t r (for_allocation x) due does
stays_in (InOrder s) (InOrder t) r x due does = stays_of IsOrder s t r (for_order x) due does
stays_in one other r x due does = absurd does

pub told_in : (u v : RoomSeat) (r : Record) (x : Step) (rs : List Record) → IsDueIn u r x → DoesIn x u v
    → ((words_in u).node.kept.offered ≡ true → IsToldAs (IsOwnIn u) (last_offer_in rs (room_of r)))
    → (words_in v).node.kept.offered ≡ true → IsToldAs (IsOwnIn v) (last_offer_in (rs ++ r ∷ []) (room_of r))
told_in (InConstants s) (InConstants t) r x rs due does told now = told_of IsConstants s t r (for_constants x) rs due does told now
told_in (InExpressions s) (InExpressions t) r x rs due does told now = told_of IsExpressions s t r (for_expressions x) rs due does told now
told_in (InAllocation s) (InAllocation t) r x rs due does told now = told_of IsAllocation s t r (for_allocation x) rs due does told now
told_in (InOrder s) (InOrder t) r x rs due does told now = told_of IsOrder s t r (for_order x) rs due does told now
told_in one other r x rs due does told now = absurd does

-- ---- what is due may be asked for

may_do_of : {T : Type 0} (IsText : List ℕ → T → Type 0) (s : SeatValue T) (r : Record) (x : Task T) → IsDue IsText s r x → MayDo s x
may_do_of IsText s r (Acts a) due = due.among
may_do_of IsText s r (Lays x) due = tt
may_do_of IsText s r Foreign due = absurd due

pub may_do : (u : RoomSeat) (r : Record) (x : Step) → IsDueIn u r x → MayDoIn u x
may_do (InConstants s) r x due = may_do_of IsConstants s r (for_constants x) due
may_do (InExpressions s) r x due = may_do_of IsExpressions s r (for_expressions x) due
may_do (InAllocation s) r x due = may_do_of IsAllocation s r (for_allocation x) due
may_do (InOrder s) r x due = may_do_of IsOrder s r (for_order x) due

-- ---- what is planned is of the room

own_of : {T : Type 0} (IsText : List ℕ → T → Type 0) (room : ℕ) (b : Bool) (s : SeatValue T) (r : Record) (x : Task T) → Plans IsText room b s r x → room_of r ≡ room
own_of IsText room b s r (Acts a) plans = plans.may.own
own_of IsText room b s r (Lays x) plans = plans.may.own
own_of IsText room b s r Foreign plans = absurd plans

pub plans_own : (room : ℕ) (b : Bool) (u : RoomSeat) (r : Record) (x : Step) → PlansIn room b u r x → room_of r ≡ room
plans_own room b (InConstants s) r x plans = own_of IsConstants room b s r (for_constants x) plans
plans_own room b (InExpressions s) r x plans = own_of IsExpressions room b s r (for_expressions x) plans
plans_own room b (InAllocation s) r x plans = own_of IsAllocation room b s r (for_allocation x) plans
plans_own room b (InOrder s) r x plans = own_of IsOrder room b s r (for_order x) plans
