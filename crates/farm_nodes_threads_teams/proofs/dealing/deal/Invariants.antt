use Rattle.std.proofs.Common.{◌≡◌, ◌≤◌, length, map, vec_items, vec_len, vec_capacity}
use Rattle.farm_nodes_threads_teams.specs.Dealt.{IsSame, StaysDealt}
use Rattle.farm_nodes_threads_teams.proofs.dealing.deal.Given as goal

abbrev pub invariant-loop : goal.invariant-loop
invariant-loop g l =
    StaysDealt IsSame (λ x p. (p.node ≡ x) × (p.left ≡ l.turns)) (length l.initial.teams)
    l.initial.nodes.items (map vec_items l.initial.teams) l.nodes.items (map vec_items l.teams)
    × (length l.teams ≡ length l.initial.teams)
    × (vec_capacity l.initial.nodes ≤ vec_capacity l.nodes)
    × (vec_len l.nodes ≤ vec_len l.initial.nodes)
