-- The bytes of locations and of what is made of them.
use Rattle.std.specs.Prelude.{ℕ, List, [], ◌∷◌, ◌++◌, Option}
use Rattle.std.specs.Int.{w16, to_be_bytes}
use Rattle.lang_helpers.specs.Texts.{optional_text, counted_text}
use Rattle.locations.specs.declared.location.Location.{Location}
use Rattle.locations.specs.declared.location.Location.TheVariants.{InRegister, InSlot}
use Rattle.locations.specs.declared.location.Move.{Move}

-- a count, a register and a function take a byte
abbrev pub byte_text : ℕ → List ℕ
byte_text n = n ∷ []

-- a register, or none
abbrev pub value_text : Option ℕ → List ℕ
value_text value = optional_text byte_text value

-- a location: its code, and what follows that
abbrev pub location_code : Location → ℕ
location_code (InRegister r) = 0
location_code (InSlot s) = 1

abbrev pub location_body : Location → List ℕ
location_body (InRegister r) = r ∷ []
location_body (InSlot s) = to_be_bytes w16 s

abbrev pub location_text : Location → List ℕ
location_text l = location_code l ∷ location_body l

-- the number of locations, and the locations
abbrev pub locations_text : List Location → List ℕ
locations_text ls = counted_text byte_text location_text ls

-- a location, or none
abbrev pub target_text : Option Location → List ℕ
target_text target = optional_text location_text target

-- the target comes first
abbrev pub move_text : Move → List ℕ
move_text m = location_text m.target ++ location_text m.source

abbrev pub moves_text : List Move → List ℕ
moves_text ms = counted_text byte_text move_text ms

-- what a call names: a function, where the arguments lie, and where the result goes
abbrev pub call_text : ℕ × (List Location × Option Location) → List ℕ
call_text call = byte_text call.0 ++ (locations_text call.1.0 ++ target_text call.1.1)

-- where the parameters of a function lie, and the number of its slots
abbrev pub frame_text : List Location × ℕ → List ℕ
frame_text frame = locations_text frame.0 ++ to_be_bytes w16 frame.1
