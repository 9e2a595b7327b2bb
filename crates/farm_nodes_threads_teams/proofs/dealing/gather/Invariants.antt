use Rattle.std.proofs.Common.{◌≡◌, ℕ, ◌≤◌, List, length, map, vec_items, vec_len, vec_capacity}
use Rattle.farm_nodes_threads_pace.specs.After.{Goes}
use Rattle.farm_nodes_threads_teams.specs.Taken.{HasTaken}
use Rattle.farm_nodes_threads_teams.specs.Dealt.{AreDealt, IsSame}
use Rattle.farm_nodes_threads_teams.proofs.dealing.gather.Given as goal

abbrev pub invariant-loop-number : goal.invariant-loop-number
invariant-loop-number g l =
    let turned = g.N.TakesTurns.turned in let fit = g.N.TakesTurns.is_fit in
    (vec_len l.nodes ≡ l.number)
    × (l.count ≤ vec_capacity l.nodes)
    × (vec_len l.teams ≡ vec_len l.initial.teams)
    × ((xs : List g.row.N.Denot) → length xs ≡ l.count
    → AreDealt IsSame (λ x p. p.node ≡ x) (vec_len l.initial.teams) xs l.initial.nodes.items (map vec_items l.initial.teams.items)
    → AreDealt IsSame (λ x p. p.node ≡ x) (vec_len l.initial.teams) xs l.nodes.items (map vec_items l.teams.items))
    × ((xs : List g.row.N.Denot) (turns : ℕ) → length xs ≡ l.count
    → AreDealt (HasTaken turned fit turns) (λ x p. Goes turned fit x turns p.node p.left) (vec_len l.initial.teams) xs
    l.initial.nodes.items (map vec_items l.initial.teams.items)
    → AreDealt (HasTaken turned fit turns) (λ x p. Goes turned fit x turns p.node p.left) (vec_len l.initial.teams) xs
    l.nodes.items (map vec_items l.teams.items))
