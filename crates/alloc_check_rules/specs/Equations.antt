-- Equations between registers of the input and locations of the output, carried backward (Rideau and Leroy 2010).
use Rattle.std.specs.Prelude.{ℕ, List, [], ◌∷◌, Bool, false, nat_eq, nat_lt, if◌then◌else◌}
use Rattle.locations.specs.declared.location.Location.{Location}
use Rattle.locations.specs.declared.location.Location.TheVariants.{InRegister, InSlot}
use Rattle.locations.specs.declared.location.Move.{Move}
use Rattle.locations.specs.Reading.{same_location}
use Rattle.ltl.specs.declared.block.Body.{Body}
use Rattle.ltl.specs.declared.block.Body.TheVariants.{Call}
use Rattle.ltl.specs.Function.{after_of}
use Rattle.alloc_check_rules.specs.declared.equation.Equation.{Equation}
use Rattle.alloc_check_rules.specs.declared.change.Change.{Change}
use Rattle.alloc_check_rules.specs.declared.change.Change.TheVariants.{Nothing, Defines, Drops, Copies}
use Rattle.alloc_check_rules.specs.declared.demand.Demand.{Demand}
use Rattle.alloc_check_rules.specs.declared.demand.Demand.TheVariants.{Met, Refused, Needs}

-- where the word that a location holds behind a move lay before it
abbrev pub back_move : Move → Location → Location
back_move m l = if same_location m.target l then m.source else l

-- so before moves that are done one after the other: the last is gone back through first
abbrev pub back : List Move → Location → Location
back [] l = l
back (m ∷ ms) l = back_move m (back ms l)

abbrev pub back_equation : List Move → Equation → Equation
back_equation ms e = record e { location = back ms e.location }

-- Where a register and a location got one word, that equation is met; another of either would tie it to an older word.
abbrev pub through_result : ℕ → Location → Equation → Demand
through_result r k e =
    if nat_eq r e.register then (if same_location k e.location then Met else Refused)
    else (if same_location k e.location then Refused else Needs e)

-- what an equation behind an instruction and its body demands in front of them
abbrev pub through : Change → Equation → Demand
through Nothing e = Needs e
through (Defines r k) e = through_result r k e
through (Drops r) e = if nat_eq r e.register then Refused else Needs e
through (Copies target source) e = if nat_eq target e.register then Needs (record e { register = source }) else Needs e

-- r0 to r3 are lost over a call
abbrev pub is_lost : Location → Bool
is_lost (InRegister r) = nat_lt r 4
is_lost (InSlot s) = false

abbrev pub over_call : Demand → Demand
over_call Met = Met
over_call Refused = Refused
over_call (Needs e) = if is_lost e.location then Refused else Needs e

abbrev pub through_body : Body → Change → Equation → Demand
through_body (Call function arguments target after successor) change e = over_call (through change e)
through_body _ change e = through change e

-- what an equation behind a body, with the moves behind its instruction, demands behind the block's first moves
abbrev pub demand : Body → Change → Equation → Demand
demand body change e = through_body body change (back_equation (after_of body) e)
