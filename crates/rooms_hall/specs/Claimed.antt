-- A claim, and a number that no room has yet.
use Rattle.std.specs.Prelude.{◌≡◌, ℕ, List, [], ◌∷◌}
use Rattle.atomic_table.specs.Seated.{TableId}
use Rattle.rooms_hall.specs.RoomId.{AreNumbered, RoomId, nowhere}
use Rattle.rooms_hall.specs.Rule.{drew, knows}
use Rattle.rooms_hall.specs.declared.view.Given.{Given}
use Rattle.rooms_hall.specs.declared.view.View.{View}

-- the number that was drawn, and the room that drew it
pub record Claimed : Type 0 where
  pub number : ℕ
  pub room : RoomId

abbrev pub room_in : List Given → RoomId
room_in [] = nowhere
room_in (c ∷ cs) = c.room

-- the room of the first number that it knows of
abbrev pub room_of : View → RoomId
room_of v = room_in v.claims

-- the number was drawn from this hall, and its holder knows of nothing else
pub record IsDrawn (hall board table : TableId) (number : ℕ) (v : View) : Type 0 where
  pub shared : board ≡ hall
  pub mine : table ≡ hall
  pub words : hall.words ≡ 1
  pub view : v ≡ drew number

-- the claim is one of this hall, and knows of its own number alone, with which the tables of its room were opened
pub record IsClaim (hall board table : TableId) (number : ℕ) (v : View) : Type 0 where
  pub shared : board ≡ hall
  pub mine : table ≡ hall
  pub words : hall.words ≡ 1
  pub view : v ≡ knows record { number = number; room = room_of v }
  pub numbered : AreNumbered number (room_of v).places
