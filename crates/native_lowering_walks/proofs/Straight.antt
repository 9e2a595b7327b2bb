-- The instructions that go on below, where they go on.
use Rattle.std.proofs.Common.{◌≡◌, ℕ, zero, suc, ◌+◌, Bool, true, false, length, Option, Some, None, refl, sym, ap, ◌∙◌}
use Rattle.std.specs.Prelude.{if◌then◌else◌}
use Rattle.std.specs.Option.{option_map}
use Rattle.x86_syntax.specs.declared.condition.Condition.{Condition}
use Rattle.x86_syntax.specs.declared.instruction.Instruction.TheVariants.{Label, Skip, Copy, Set, Take, Keep, Do, DoWith, Turn, Shift, ShiftBy, Extend, Divide, DivideU, Compare, CompareWith, Flag, StopIf, Load, Store, LoadAt, StoreAt, Room, Grow, Shrink, Put}
use Rattle.x86_syntax.specs.declared.operators.Operator.{Operator}
use Rattle.x86_syntax.specs.declared.operators.Shifting.{Shifting}
use Rattle.x86_syntax.specs.declared.operators.Turning.{Turning}
use Rattle.x86_syntax.specs.declared.operators.Turning.TheVariants.{Neg, Not}
use Rattle.x86_syntax.specs.declared.register.Register.{Register}
use Rattle.x86_state.specs.State.{State, Goes, Stops, Fills, goes_on, does}
use Rattle.x86.specs.Comparing.{asked}
use Rattle.x86.specs.Framing.{has_room, with_cell, with_cells}
use Rattle.x86.specs.Jumping.{takes_if}
use Rattle.native_lowering_walks.specs.Walks.{GoesBelow}

-- the same function and place
pub record IsHere (s x : State) : Type 0 where
  pub function : x.function ≡ s.function
  pub place : x.place ≡ s.place

abbrev IsBelow : State → State → Type 0
IsBelow s t = (t.function ≡ s.function) × (t.place ≡ s.place + 1)

here : (s : State) → IsHere s s
here s = record { function = refl; place = refl }

below_goes : (s x t : State) → IsHere s x → goes_on x ≡ Goes t → IsBelow s t
below_goes s x t same e =
    let it : record x { place = x.place + 1 } ≡ t = cc in
    (ap (λ (y : State). y.function) (sym it) ∙ same.function, ap (λ (y : State). y.place) (sym it) ∙ ap (λ n. n + 1) same.place)

below_does : {A : Type 0} (s t : State) (f : A → State) (o : Option A) → ((a : A) → IsHere s (f a)) → does (option_map f o) ≡ Goes t → IsBelow s t
below_does s t f None same e = cc
below_does s t f (Some a) same e = below_goes s (f a) t (same a) e

below_if : (s t : State) (o : Option Bool) → takes_if o Stops s ≡ Goes t → IsBelow s t
below_if s t None e = cc
below_if s t (Some true) e = cc
below_if s t (Some false) e = below_goes s s t (here s) e

pub label_below : (label : ℕ) → GoesBelow (Label label)
label_below label = λ functions room code s t e. below_goes s s t (here s) e

pub skip_below : GoesBelow Skip
skip_below = λ functions room code s t e. below_goes s s t (here s) e

pub copy_below : (target source : Register) → GoesBelow (Copy target source)
copy_below target source = λ functions room code s t e. below_goes s _ t (record { function = refl; place = refl }) e

pub set_below : (target : Register) (w : ℕ) → GoesBelow (Set target w)
set_below target w = λ functions room code s t e. below_goes s _ t (record { function = refl; place = refl }) e

pub take_below : (target : Register) (cell : ℕ) → GoesBelow (Take target cell)
take_below target cell = λ functions room code s t e. below_does s t _ _ (λ w. record { function = refl; place = refl }) e

pub keep_below : (cell : ℕ) (source : Register) → GoesBelow (Keep cell source)
keep_below cell source = λ functions room code s t e. below_does s t _ _ (λ cells. record { function = refl; place = refl }) e

pub do_below : (op : Operator) (target source : Register) → GoesBelow (Do op target source)
do_below op target source = λ functions room code s t e. below_goes s _ t (record { function = refl; place = refl }) e

pub do_with_below : (op : Operator) (target : Register) (w : ℕ) → GoesBelow (DoWith op target w)
do_with_below op target w = λ functions room code s t e. below_goes s _ t (record { function = refl; place = refl }) e

pub turn_below : (op : Turning) (target : Register) → GoesBelow (Turn op target)
turn_below Neg target = λ functions room code s t e. below_goes s _ t (record { function = refl; place = refl }) e
turn_below Not target = λ functions room code s t e. below_goes s _ t (record { function = refl; place = refl }) e

pub shift_below : (op : Shifting) (target : Register) (count : ℕ) → GoesBelow (Shift op target count)
shift_below op target count = λ functions room code s t e. below_does s t _ _ (λ w. record { function = refl; place = refl }) e

pub shift_by_below : (op : Shifting) (target : Register) → GoesBelow (ShiftBy op target)
shift_by_below op target = λ functions room code s t e. below_does s t _ _ (λ w. record { function = refl; place = refl }) e

pub extend_below : GoesBelow Extend
extend_below = λ functions room code s t e. below_goes s _ t (record { function = refl; place = refl }) e

pub divide_below : (divisor : Register) → GoesBelow (Divide divisor)
divide_below divisor = λ functions room code s t e. below_does s t _ _ (λ p. record { function = refl; place = refl }) e

pub divide_unsigned_below : (divisor : Register) → GoesBelow (DivideU divisor)
divide_unsigned_below divisor = λ functions room code s t e. below_does s t _ _ (λ p. record { function = refl; place = refl }) e

pub compare_below : (left right : Register) → GoesBelow (Compare left right)
compare_below left right = λ functions room code s t e. below_goes s _ t (record { function = refl; place = refl }) e

pub compare_with_below : (left : Register) (w : ℕ) → GoesBelow (CompareWith left w)
compare_with_below left w = λ functions room code s t e. below_goes s _ t (record { function = refl; place = refl }) e

pub flag_below : (condition : Condition) (target : Register) → GoesBelow (Flag condition target)
flag_below condition target = λ functions room code s t e. below_does s t _ _ (λ answer. record { function = refl; place = refl }) e

pub stop_if_below : (condition : Condition) → GoesBelow (StopIf condition)
stop_if_below condition = λ functions room code s t e. below_if s t (asked condition s) e

pub load_below : (target : Register) (global : ℕ) (index : Register) → GoesBelow (Load target global index)
load_below target global index = λ functions room code s t e. below_does s t _ _ (λ w. record { function = refl; place = refl }) e

pub store_below : (global : ℕ) (index source : Register) → GoesBelow (Store global index source)
store_below global index source = λ functions room code s t e. below_does s t _ _ (λ cells. record { function = refl; place = refl }) e

pub load_at_below : (target : Register) (global cell : ℕ) → GoesBelow (LoadAt target global cell)
load_at_below target global cell = λ functions room code s t e. below_does s t _ _ (λ w. record { function = refl; place = refl }) e

pub store_at_below : (global cell : ℕ) (source : Register) → GoesBelow (StoreAt global cell source)
store_at_below global cell source = λ functions room code s t e. below_does s t _ _ (λ cells. record { function = refl; place = refl }) e

below_room : (s t x : State) (b : Bool) → IsHere s x → (if b then goes_on x else Fills) ≡ Goes t → IsBelow s t
below_room s t x true same e = below_goes s x t same e
below_room s t x false same e = cc

pub room_below : GoesBelow Room
room_below = λ functions room code s t e. below_room s t _ (has_room room (length s.stack)) (record { function = refl; place = refl }) e

here_cells : (n : ℕ) (s : State) → IsHere s (with_cells n s)
here_cells zero s = here s
here_cells (suc n) s = let so = here_cells n (with_cell s) in record { function = so.function; place = so.place }

pub grow_below : (count : ℕ) → GoesBelow (Grow count)
grow_below count = λ functions room code s t e.
    let so = here_cells count s in
    below_goes s _ t (record { function = so.function; place = so.place }) e

pub shrink_below : (count : ℕ) → GoesBelow (Shrink count)
shrink_below count = λ functions room code s t e. below_does s t _ _ (λ cells. record { function = refl; place = refl }) e

pub put_below : GoesBelow Put
put_below = λ functions room code s t e. below_goes s _ t (record { function = refl; place = refl }) e
