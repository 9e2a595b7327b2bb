-- What the two files of a node hold, that of the journal and that of one of the first version, which have no bytes where they are not there.
use Rattle.std.specs.Prelude.{ℕ, nat_lt, Bool, ◌==◌, ◌&&◌, ◌||◌, List, length}

-- there is no journal of the node
abbrev pub holds_nothing : (new old : List ℕ) → Bool
holds_nothing new old = (length new == 0) && (length old == 0)

-- there is more than a journal without records, of any version
abbrev pub holds_records : (new old : List ℕ) → Bool
holds_records new old = nat_lt 41 (length new) || nat_lt 41 (length old)
