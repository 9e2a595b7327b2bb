-- A seat with nothing left to answer, and what hearing others leaves of a seat.
use Rattle.std.specs.Prelude.{◌≡◌, ℕ, ◌≤◌, Some, None}
use Rattle.rooms_crash.specs.SeatAct.TheVariants as act
use Rattle.rooms_crash.specs.SeatState.{SeatState}
use Rattle.rooms_crash.specs.Would.{would}
use Rattle.rooms_crash.specs.OfRun.{GoesOn}

-- nothing is left to accept or to promise of node j
pub record IsQuiet (j : ℕ) (s : SeatState) : Type 0 where
  pub accept : would s (act.Accept j) ≡ None
  pub promise : would s (act.Promise j) ≡ None

-- its node has heard others: it may have promised more, voted and learned; it goes on in its run
pub record HasHeard (old new : SeatState) : Type 0 where
  pub table : new.table ≡ old.table
  pub me : new.node.me ≡ old.node.me
  pub quorums : new.node.quorums ≡ old.node.quorums
  pub offered : new.node.kept.offered ≡ old.node.kept.offered
  pub started : new.node.kept.started ≡ old.node.kept.started
  pub ballot : new.node.ballot ≡ old.node.ballot
  pub promised : old.node.kept.promised ≤ new.node.kept.promised
  pub learned : (v : ℕ) → old.node.learned ≡ Some v → new.node.learned ≡ Some v
  pub run : GoesOn old new
