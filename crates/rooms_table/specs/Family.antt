-- The rule of the words of a family of rooms, which holds between any two steps on them.
use Rattle.std.specs.Prelude.{◌≡◌, ℕ, zero, suc, ◌*◌, ◌<◌, List, [], ◌∷◌, map, length, slice_index, slice_index_or}
use mathlib.Core.Option.{some}
use lib.ListN.{get_elem?}
use Rattle.atomic_table.specs.Table.{State}
use Rattle.rooms_words.specs.Deal.{no_sizes, nobody}
use Rattle.rooms_words.specs.Rule.{RoomRule}
use Rattle.rooms_words.specs.declared.view.Opening.{Opening}
use Rattle.rooms_words.specs.declared.view.View.{View}
use Rattle.rooms_table.specs.Places.{place_of}
use Rattle.rooms_table.specs.declared.view.Openings.{Openings}
use Rattle.rooms_table.specs.declared.view.Views.{Views}

-- what f has at each number below m
abbrev pub tabulated : {A : Type 0} → ℕ → (ℕ → A) → List A
tabulated zero f = []
tabulated (suc m) f = f 0 ∷ tabulated m (λ k. f (suc k))

-- how many rooms a seat knows of
abbrev pub rooms_in : Views → ℕ
rooms_in v = length v.rooms

-- what it knows of this room
abbrev pub view_in : Views → ℕ → View
view_in v room = slice_index_or v.rooms room nobody

abbrev pub no_opening : Opening
no_opening = record { quorums = no_sizes; kept = [] }

-- how this room was opened
abbrev pub opening_in : Openings → ℕ → Opening
opening_in o room = slice_index_or o.each room no_opening

-- how many nodes each room has
abbrev pub count_of : Openings → ℕ
count_of o = (opening_in o 0).quorums.nodes

-- the words of a room of so many nodes, which is one of so many rooms
abbrev pub words_in : ℕ → ℕ → ℕ → List ℕ → List ℕ
words_in rooms room count words = tabulated (2 * count) (λ k. slice_index words (place_of rooms room k))

-- a room as if it were alone
abbrev pub room_in : {S : Type 0} → Openings → ℕ → State S Views → State S View
room_in o room s =
    record {
      words = words_in o.rooms room (opening_in o room).quorums.nodes s.words;
      homes = s.homes;
      views = map (λ v. view_in v room) s.views;
    }

-- each room has its words in the table, and keeps the rule of a room; who knows of any room knows of each
pub record FamilyRule {S : Type 0} (o : Openings) (s : State S Views) : Type 0 where
  pub size : length s.words ≡ 2 * (count_of o * o.rooms)
  pub same : (room : ℕ) → room < o.rooms → (opening_in o room).quorums.nodes ≡ count_of o
  pub sized : (seat : ℕ) (v : Views) → get_elem? s.views seat ≡ some v → 0 < rooms_in v → rooms_in v ≡ o.rooms
  pub each : (room : ℕ) → room < o.rooms → RoomRule (opening_in o room) (room_in o room s)
