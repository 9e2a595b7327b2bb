-- What a call changes.
use Rattle.std.specs.Borrow.{MutBor}
use denote.Triple.Both.{Both}

-- a value behind a `&mut`, as a call finds it, at `entry`, and as it leaves it, at `exit`
abbrev pub Changed : Type 0 → Type 0
Changed X = Both (MutBor X) (MutBor X)
