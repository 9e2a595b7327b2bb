-- What each kind of step on a hall's word tells.
use Rattle.std.specs.Prelude.{◌≡◌, ◌≢◌, ℕ, List, [], ◌∷◌}
use Rattle.atomic_table.specs.Table.{Step, Me}
use Rattle.rooms_hall.specs.RoomId.{RoomId}
use Rattle.rooms_hall.specs.Rule.{Among, drew, knows, nothing}
use Rattle.rooms_hall.specs.declared.view.Given.{Given}
use Rattle.rooms_hall.specs.declared.view.View.{View}

-- what is left of what a claim knows once it has compared it: its own number
abbrev pub own : List Given → List Given
own [] = []
own (c ∷ cs) = c ∷ []

-- the number that a seat has drawn
abbrev pub number_in : List ℕ → ℕ
number_in [] = 0
number_in (n ∷ ns) = n

module _ {S : Type 0} where
  -- of the step, the view before, the number found, and the view after: it knows of no number yet
  abbrev pub Entered : Step S → Me S View → ℕ → Me S View → Type 0
  Entered s v n w = w.0 ≡ nothing

  -- where the word was the number expected, the seat has drawn that, and else nothing happened
  pub record Drew (s : Step S) (v : Me S View) (n : ℕ) (w : Me S View) : Type 0 where
    pub taken : n ≡ s.first → w.0 ≡ drew n
    pub missed : n ≢ s.first → w.0 ≡ v.0

  -- what the seat had drawn is the room's number from now on
  abbrev pub Named : RoomId → Step S → Me S View → ℕ → Me S View → Type 0
  Named room s v n w = w.0 ≡ knows record { number = number_in v.0.drawn; room = room }

  -- numbers that it knew of, where they are equal, are of one room
  pub record Compared (s : Step S) (v : Me S View) (n : ℕ) (w : Me S View) : Type 0 where
    pub one : (c d : Given) → Among c v.0.claims → Among d v.0.claims → c.number ≡ d.number → c ≡ d
    pub after : w.0 ≡ record { claims = own v.0.claims; drawn = [] }
