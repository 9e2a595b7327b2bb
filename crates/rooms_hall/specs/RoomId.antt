-- Which rooms they are that share a number: a room alone, or the four of a function.
use Rattle.std.specs.Prelude.{◌≡◌, ℕ, List, [], ◌∷◌, refl}
use Rattle.std.specs.Coded.{Coded, code_by, coded×, coded_ℕ, coded_list}
use Rattle.atomic_table.specs.Seated.{TableId}
use Rattle.rooms_table.specs.RoomAt.{RoomAt, room_at_coded}

-- room by room, where its words are, and the names of its cells
pub record RoomId : Type 0 where
  pub places : List RoomAt
  pub cells : List (List ℕ)

-- each stands in a table that was opened with this number
abbrev pub AreNumbered : ℕ → List RoomAt → Type 0
AreNumbered number [] = Unit {0}
AreNumbered number (place ∷ places) = (place.number ≡ number) × AreNumbered number places

-- it is stored as the pair of its fields
abbrev pub room_id_coded : Coded RoomId
room_id_coded =
    code_by (List RoomAt × List (List ℕ)) (coded× (coded_list room_at_coded) (coded_list (coded_list coded_ℕ))) (λ r. (r.places, r.cells))
    (λ p. record { places = p.0; cells = p.1 }) (λ _. refl)

-- what stands where no table and no room is named
abbrev pub no_table : TableId
no_table = record { words = 0; slots = 0; views_name = 0; atom = 0; block = 0; offset = 0; slot_names = [] }

abbrev pub nowhere : RoomId
nowhere = record { places = []; cells = [] }
