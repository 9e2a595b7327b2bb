-- What is given back of a build: the disks of its nodes.
use Rattle.std.specs.Prelude.{◌≡◌, List}
use Rattle.rooms_hall.specs.declared.hall.Naming as naming
use Rattle.cfarm_build_turns.specs.Resting.{Resting, disks_in}

-- they are the disks of nodes, in order, and so it is of these
pub record AreDisksOf {D H : Type 0} (h : naming.Ghosts H) (back : List D) (Are : List (Resting D H h) → Type 0) : Type 0 where
  pub nodes : List (Resting D H h)
  pub theirs : back ≡ disks_in nodes
  pub are : Are nodes
