-- A step that may be done in the room of a pass is done with the seat of that pass.
use Rattle.std.proofs.Common.{◌≡◌, Option, Some, None, Result, Ok, Err, OnOk, OnErr}
use Rattle.rooms_crash.specs.SeatAct.{SeatAct}
use Rattle.rooms_crash.specs.Would.{IsAmong}
use Rattle.farm_nodes_turn_passes.specs.Fours.{words_of}
use Rattle.farm_nodes_turn_passes.specs.declared.which.Which.{Which}
use Rattle.farm_nodes_turn_passes.specs.declared.which.Which.TheVariants.{Constants, Expressions, Allocation, Order}
use Rattle.farm_nodes_sweep_function.specs.Due.{MayDoIn}
use Rattle.farm_nodes_sweep_function.specs.RoomSeat.{Fours, seat_of}
use Rattle.farm_nodes_sweep_function.specs.declared.planned.Step.{Step}
use Rattle.farm_nodes_sweep_function.specs.declared.planned.Step.TheVariants.{Act, First, Second, Third, Fourth}

pub may_act : (p : Which) (s : Fours) (a : SeatAct) → MayDoIn (seat_of s p) (Act a) → IsAmong (words_of s p).node.quorums.nodes a
may_act Constants s a may = may
may_act Expressions s a may = may
may_act Allocation s a may = may
may_act Order s a may = may

pub ok_both : {A E : Type 0} (r : Result A E) (P Q R : Type 0) → (P → Q → R) → OnOk r P → Q → OnOk r R
ok_both (Ok a) P Q R f p q = f p q
ok_both (Err e) P Q R f p q = tt

pub err_map : {A E : Type 0} (r : Result A E) (P Q : Type 0) → (P → Q) → OnErr r P → OnErr r Q
err_map (Ok a) P Q f p = tt
err_map (Err e) P Q f p = f p

-- the pass of whose room an offer is
abbrev pub pass_for : Step → Option Which
pass_for (Act a) = None
pass_for (First offer) = Some Constants
pass_for (Second offer) = Some Expressions
pass_for (Third offer) = Some Allocation
pass_for (Fourth offer) = Some Order

pub own_pass : (p : Which) (s : Fours) (x : Step) (q : Which) → pass_for x ≡ Some q → MayDoIn (seat_of s p) x → q ≡ p
own_pass p s (Act a) q e may = absurd (cc)
own_pass Constants s (First offer) q e may = cc
own_pass Expressions s (Second offer) q e may = cc
own_pass Allocation s (Third offer) q e may = cc
own_pass Order s (Fourth offer) q e may = cc
own_pass p s other q e may = absurd may
