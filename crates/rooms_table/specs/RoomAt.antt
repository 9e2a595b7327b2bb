-- Which room of which table it is.
use Rattle.std.specs.Prelude.{◌≡◌, ℕ, ◌*◌, ◌<◌, ◌≤◌, refl}
use Rattle.std.specs.Coded.{Coded, code_by, coded×, coded_ℕ}
use Rattle.atomic_table.specs.Seated.{TableId, table_id_coded}

-- the table, of how many rooms its words are, how many of them stand before this one, and the number with which the table was opened
pub record RoomAt : Type 0 where
  pub table : TableId
  pub rooms : ℕ
  pub room : ℕ
  pub number : ℕ

-- it is stored as its fields
abbrev pub room_at_coded : Coded RoomAt
room_at_coded =
    code_by (TableId × (ℕ × (ℕ × ℕ))) (coded× table_id_coded (coded× coded_ℕ (coded× coded_ℕ coded_ℕ)))
    (λ r. (r.table, (r.rooms, (r.room, r.number)))) (λ p. record { table = p.0; rooms = p.1.0; room = p.1.1.0; number = p.1.1.1 }) (λ _. refl)

-- a room of so many nodes, of at most seven, has its words in its table
pub record HasWords (at : RoomAt) (count : ℕ) : Type 0 where
  pub some : 0 < at.rooms
  pub few : at.rooms ≤ 4
  pub most : count ≤ 7
  pub words : at.table.words ≡ 2 * (count * at.rooms)
