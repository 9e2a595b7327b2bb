-- What a step in one room of a table tells the seat that takes it.
use Rattle.std.specs.Prelude.{◌≡◌, ◌≢◌, ℕ, ◌<◌, slice_set}
use Rattle.atomic_table.specs.Table.{Step, Me, step}
use Rattle.rooms_words.specs.declared.view.View.{View}
use Rattle.rooms_table.specs.Family.{rooms_in, view_in}
use Rattle.rooms_table.specs.Places.{place_of}
use Rattle.rooms_table.specs.declared.view.Views.{Views}

-- the seat knows this of the room, and of the others what it knew
abbrev pub views_with : Views → ℕ → View → Views
views_with v room w = record { rooms = slice_set v.rooms room w }

module _ {S : Type 0} (then : Step S → Me S View → ℕ → Me S View → Type 0) where
  -- in the room, on its word k, it is what such a step tells; of the other rooms the seat knows what it knew
  pub record StepsInRoom (room k : ℕ) (s : Step S) (v : Me S Views) (n : ℕ) (w : Me S Views) : Type 0 where
    pub there : then (step s.slots k s.first s.second s.said) (view_in v.0 room, v.1) n (view_in w.0 room, w.1)
    pub rooms : rooms_in w.0 ≡ rooms_in v.0
    pub others : (other : ℕ) → other ≢ room → view_in w.0 other ≡ view_in v.0 other

  -- so it is of the room whose word is at that place
  abbrev pub StepsInItsRoom : Step S → Me S Views → ℕ → Me S Views → Type 0
  StepsInItsRoom s v n w =
      (room k : ℕ) → s.word ≡ place_of (rooms_in v.0) room k → room < rooms_in v.0 → StepsInRoom room k s v n w
