-- Where the words of a family of rooms stand in its table: node by node, of each node room by room, of each room its
-- proposer's word before its acceptor's.
use Rattle.std.specs.Prelude.{ℕ, ◌+◌, ◌*◌, ◌/◌, ◌%◌}

-- the number of the pair of words of this node in this room, of so many rooms
abbrev pub pair_of : ℕ → ℕ → ℕ → ℕ
pair_of rooms room node = node * rooms + room

-- where a room's word stands, the number of which is k where the room is alone
abbrev pub place_of : ℕ → ℕ → ℕ → ℕ
place_of rooms room k = 2 * pair_of rooms room (k / 2) + k % 2

-- and back: which room's word stands at this place, and what number it has there
abbrev pub room_at : ℕ → ℕ → ℕ
room_at rooms place = place / 2 % rooms

abbrev pub word_at : ℕ → ℕ → ℕ
word_at rooms place = 2 * (place / 2 / rooms) + place % 2
