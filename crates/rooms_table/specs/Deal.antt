-- How the seats of a family of rooms are dealt out as it opens, room by room and of each room node by node, and how one seat
-- tells another what it has seen.
use Rattle.std.specs.Prelude.{if◌then◌else◌, List, [], ◌∷◌, map}
use Rattle.rooms_words.specs.Deal.{dealing, dealing_rest, dealing_seat, informed, nobody, witness}
use Rattle.rooms_words.specs.declared.view.View.{View}
use Rattle.rooms_table.specs.Family.{opening_in, rooms_in, tabulated, view_in}
use Rattle.rooms_table.specs.declared.view.Openings.{Openings}
use Rattle.rooms_table.specs.declared.view.Views.{Views}

-- the token for all nodes of all rooms
abbrev pub dealing_all : Openings → Views
dealing_all o = record { rooms = tabulated o.rooms (λ room. dealing (opening_in o room) 0) }

-- the rights in the first room in which there are any
abbrev pub first_of : List View → List View
first_of [] = []
first_of (v ∷ vs) = if v.live then v ∷ map (λ _. nobody) vs else nobody ∷ first_of vs

-- and those in the others
abbrev pub others_of : List View → List View
others_of [] = []
others_of (v ∷ vs) = if v.live then nobody ∷ vs else v ∷ others_of vs

abbrev pub first_room : Views → Views
first_room v = record { rooms = first_of v.rooms }

abbrev pub other_rooms : Views → Views
other_rooms v = record { rooms = others_of v.rooms }

-- the seat of the first node in each room in which there are rights, and the rights for the other nodes
abbrev pub seat_of : View → View
seat_of v = if v.live then dealing_seat v else nobody

abbrev pub rest_of : View → View
rest_of v = if v.live then dealing_rest v else v

abbrev pub first_node : Views → Views
first_node v = record { rooms = map seat_of v.rooms }

abbrev pub other_nodes : Views → Views
other_nodes v = record { rooms = map rest_of v.rooms }

-- a seat's witness, which has seen what it has seen and steps for nobody
abbrev pub witnesses : Views → Views
witnesses v = record { rooms = map witness v.rooms }

-- a view once it was told what a witness has seen, if there is one
abbrev pub informed_by : View → View → View
informed_by v w = if w.live then informed v w else v

abbrev pub all_informed : Views → Views → Views
all_informed v w = record { rooms = tabulated (rooms_in v) (λ room. informed_by (view_in v room) (view_in w room)) }

-- who has told what it knew
abbrev pub nowhere : Views
nowhere = record { rooms = [] }
