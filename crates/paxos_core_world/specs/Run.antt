-- Runs: lists of steps, the newest first, each allowed where it was taken.
use Rattle.std.specs.Prelude.{List, [], ◌∷◌}
use Rattle.paxos_core_world.specs.Quorum.{Sizes}
use Rattle.paxos_core_world.specs.Step.{Label, Allowed, after}
use Rattle.paxos_core_world.specs.World.{World}

-- the world to which these steps lead from w
abbrev pub reached : World → List Label → World
reached w [] = w
reached w (l ∷ ls) = after (reached w ls) l

-- these steps are a run from w, with quorums of these sizes
abbrev pub IsRun : Sizes → World → List Label → Type 0
IsRun q w [] = Unit {0}
IsRun q w (l ∷ ls) = IsRun q w ls × Allowed q (reached w ls) l
