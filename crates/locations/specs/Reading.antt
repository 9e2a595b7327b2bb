-- How locations, and what is made of them, are read.
use Rattle.std.specs.Prelude.{ℕ, ◌^◌, Bool, true, false, not, ◌&&◌, List, [], ◌∷◌, Option, nat_lt, nat_le, ◌==◌}
use Rattle.std.specs.Int.{w16}
use Rattle.std.specs.List.{list_any, list_all}
use Rattle.lang_helpers.specs.FormError.TheVariants.{NotCanonical, TooLarge}
use Rattle.lang_helpers.specs.Reading.{Reading, byte, number, made, tested, below, up_to, both, counted, Table, follow, unknown, coded, optional}
use Rattle.locations.specs.declared.location.Location.{Location}
use Rattle.locations.specs.declared.location.Location.TheVariants.{InRegister, InSlot}
use Rattle.locations.specs.declared.location.Move.{Move}
use Rattle.lang_helpers.specs.Limits.{function_number}
use Rattle.locations.specs.Fits.{parameter_limit, slot_limit}

unfoldable pub register : Reading ℕ
register bytes = below 8 byte bytes

-- a register, or none
unfoldable pub value : Reading (Option ℕ)
value bytes = optional register bytes

-- a location among so many slots
abbrev pub locations : ℕ → Table Location
locations slots = (0, made (λ r. InRegister r) register) ∷ (1, made (λ s. InSlot s) (below slots (number w16))) ∷ []

unfoldable pub location : ℕ → Reading Location
location slots bytes = coded (follow (locations slots) unknown) bytes

abbrev pub is_slot : Location → Bool
is_slot (InRegister r) = false
is_slot (InSlot s) = true

-- a target, then a source: not both of them slots
unfoldable pub one_move : ℕ → Reading Move
one_move slots bytes = made (λ p. record { target = p.0; source = p.1 }) (tested (λ p. not (is_slot p.0 && is_slot p.1)) NotCanonical (both (location slots) (λ target. location slots))) bytes

unfoldable pub moves : ℕ → Reading (List Move)
moves slots bytes = counted byte (λ before. one_move slots) bytes

-- ---- what a call names

-- a location, or none
unfoldable pub target : ℕ → Reading (Option Location)
target slots bytes = optional (location slots) bytes

unfoldable pub arguments : ℕ → Reading (List Location)
arguments slots bytes = counted byte (λ before. location slots) bytes

-- a function, where the arguments lie, and where the result goes
unfoldable pub call : ℕ → Reading (ℕ × (List Location × Option Location))
call slots bytes = both function_number (λ f. both (arguments slots) (λ names. target slots)) bytes

-- ---- where parameters lie

abbrev pub same_location : Location → Location → Bool
same_location (InRegister r) (InRegister q) = r == q
same_location (InRegister r) (InSlot s) = false
same_location (InSlot s) (InRegister r) = false
same_location (InSlot s) (InSlot t) = s == t

-- a location where no parameter before it lies; the slots are counted behind it
unfoldable pub parameter : List Location → Reading Location
parameter before bytes = tested (λ l. not (list_any (λ k. same_location k l) before)) NotCanonical (location (2 ^ 16)) bytes

unfoldable pub parameters : Reading (List Location)
parameters bytes = counted (up_to parameter_limit byte) parameter bytes

-- a register, or one of so many slots
abbrev pub lies_within : ℕ → Location → Bool
lies_within slots (InRegister r) = true
lies_within slots (InSlot s) = nat_lt s slots

-- the parameters and the number of slots: a slot beyond it is the earlier fault
unfoldable pub frame : Reading (List Location × ℕ)
frame bytes = tested (λ f. nat_le f.1 slot_limit) TooLarge (tested (λ f. list_all (lies_within f.1) f.0) NotCanonical (both parameters (λ ps. number w16))) bytes
