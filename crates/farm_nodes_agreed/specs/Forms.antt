-- The function forms that the passes begin with, as a node knows them.
use Rattle.std.specs.Prelude.{ℕ, List, Option, Some, option_map}
use Rattle.std.specs.Global.{Vec}
use Rattle.rooms_hall.specs.declared.hall.Naming as naming
use Rattle.rtl_language.specs.Function as rtl
use Rattle.rtl_language.specs.Spelling as rtl_form
use Rattle.ltl.specs.Spelling as ltl_form
use Rattle.farm_nodes_turn_passes.specs.NumberedSeat.{NumberedSeat}
use Rattle.farm_nodes_turn_passes.specs.declared.which.Which.{Which}
use Rattle.farm_nodes_turn_passes.specs.declared.which.Which.TheVariants.{Constants, Expressions, Allocation, Order}
use Rattle.farm_nodes_meet_seats.specs.Learned.{learned_offer}

-- the bytes, where there are any
abbrev pub bytes_in : Option (Vec ℕ) → Option (List ℕ)
bytes_in form = option_map (λ bytes. bytes.items) form

module _ {H : Type 0} {h : naming.Ghosts H} where
  -- What a pass of the function begins with, in bytes: the function, or the output of the offer that is learned in the pass before, where it has
  -- been seen.
  abbrev pub form_of : rtl.FunctionData → NumberedSeat H h → Which → Option (List ℕ)
  form_of function s Constants = Some (rtl_form.spelling function)
  form_of function s Expressions = option_map (λ offer. rtl_form.spelling offer.output) (learned_offer s.seat.first)
  form_of function s Allocation = option_map (λ offer. rtl_form.spelling offer.output) (learned_offer s.seat.second)
  form_of function s Order = option_map (λ offer. ltl_form.spelling offer.output) (learned_offer s.seat.third)
