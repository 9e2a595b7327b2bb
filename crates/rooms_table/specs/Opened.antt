-- The words with which a family of rooms opens.
use Rattle.std.specs.Prelude.{◌≡◌, ℕ, ◌/◌, ◌%◌, ◌<◌, ◌≤◌, List, length}
use Rattle.rooms_words.specs.KeptPart.{KeptPart}
use Rattle.rooms_words.specs.Quorum.{AreQuorums}
use Rattle.rooms_words.specs.Settled.{Settled}
use Rattle.rooms_words.specs.World.{nodes_of}
use Rattle.rooms_words.specs.WordsOf.{ShowsKept}
use Rattle.rooms_table.specs.Family.{count_of, opening_in}
use Rattle.rooms_table.specs.declared.view.Openings.{Openings}

-- what its node has kept in its room, of which this is the pair of words
abbrev pub part_at : Openings → ℕ → KeptPart
part_at o pair = nodes_of (opening_in o (pair % o.rooms)).kept (pair / o.rooms)

-- the first so many pairs of words stand in the row, which has room for those of seven nodes in four rooms
pub record ShowFirst (o : Openings) (pairs : ℕ) (words : List ℕ) : Type 0 where
  pub size : length words ≡ 56
  pub shown : (pair : ℕ) → pair < pairs → ShowsKept (part_at o pair) pair words

-- there are one to four rooms, of as many nodes each, and each is opened with quorums that meet from kept parts that are settled
pub record CanOpenAll (o : Openings) : Type 0 where
  pub some : 0 < o.rooms
  pub few : o.rooms ≤ 4
  pub most : count_of o ≤ 7
  pub row : length o.each ≡ 4
  pub rows : (room : ℕ) → room < o.rooms → length (opening_in o room).kept ≡ 7
  pub same : (room : ℕ) → room < o.rooms → (opening_in o room).quorums.nodes ≡ count_of o
  pub sizes : (room : ℕ) → room < o.rooms → AreQuorums (opening_in o room).quorums
  pub settled : (room : ℕ) → room < o.rooms → Settled (opening_in o room).quorums (nodes_of (opening_in o room).kept)
