-- Players, teams of them, and how they are dealt, go on and come back.
use Rattle.std.specs.Prelude.{◌≡◌, ℕ, List, length, map, vec_items, vec_len}
use Rattle.std.specs.Global.{Vec}
use Rattle.std.specs.List.{AllZip}
use Rattle.farm_nodes_threads_pace.specs.After.{Goes}
use Rattle.farm_nodes_threads_pace.specs.declared.player.Player.{Player}
use Rattle.farm_nodes_threads_teams.specs.Begun.{with_begun}
use Rattle.farm_nodes_threads_teams.specs.Dealt.{AreDealt, IsSame, StaysDealt}
use Rattle.farm_nodes_threads_teams.specs.Taken.{HasTaken}

module _ {N : Type 0} where
  -- the player has the node, with so many turns
  abbrev pub HasTurns : ℕ → N → Player N → Type 0
  HasTurns many x p = (p.node ≡ x) × (p.left ≡ many)

  -- what was dealt, of whatever list, is so behind it, each node with so many turns
  abbrev pub DealsTurns : ℕ → List N → List (Vec (Player N)) → List N → List (Vec (Player N)) → Type 0
  DealsTurns many here teams now later =
      StaysDealt IsSame (HasTurns many) (length teams) here (map vec_items teams) now (map vec_items later)

  -- so many nodes, of which some are here and the others with the teams, come back in their order
  abbrev pub GathersSame : ℕ → Vec (Vec (Player N)) → List N → List N → Type 0
  GathersSame count teams here now =
      (xs : List N) → length xs ≡ count
      → AreDealt IsSame (λ x p. p.node ≡ x) (vec_len teams) xs here (map vec_items teams.items) → AllZip IsSame xs now

  module _ (turned : N → N → Type 0) (is_fit : N → Type 0) where
    -- with what they took of their turns
    abbrev pub GathersTaken : ℕ → Vec (Vec (Player N)) → List N → List N → Type 0
    GathersTaken count teams here now =
        (xs : List N) (many : ℕ) → length xs ≡ count
        → AreDealt (HasTaken turned is_fit many) (λ x p. Goes turned is_fit x many p.node p.left) (vec_len teams) xs
        here (map vec_items teams.items)
        → AllZip (HasTaken turned is_fit many) xs now

    -- each player of a team goes on by turns that it had left
    abbrev pub TeamGoesOn : Vec (Player N) → Vec (Player N) → Type 0
    TeamGoesOn v w = AllZip (λ p q. Goes turned is_fit p.node p.left q.node q.left) v.items w.items

    -- so it is of all teams
    abbrev pub TeamsGoOn : List (Vec (Player N)) → List (Vec (Player N)) → Type 0
    TeamsGoOn vs ws = AllZip TeamGoesOn vs ws

    -- of those that are here and those that have begun
    abbrev pub TeamsGoBegun : {H : Type 0} → (H → Vec (Player N)) → Vec (Vec (Player N)) → Vec H → Vec (Vec (Player N)) → Vec H → Type 0
    TeamsGoBegun begun teams children now later =
        TeamsGoOn (with_begun begun teams.items children.items) (with_begun begun now.items later.items)
