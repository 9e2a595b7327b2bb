use Rattle.std.proofs.Common.{◌≡◌, ◌≤◌, ◌+◌, true, vec_len, vec_capacity}
use Rattle.std.specs.List.{AllByRecursion, AllZip}
use Rattle.farm_nodes_threads_pace.specs.After.{Goes}
use Rattle.farm_nodes_threads_teams.specs.Begun.{with_begun}
use Rattle.farm_nodes_threads_teams.proofs.threads.start_all.Given as goal

abbrev pub invariant-loop : goal.invariant-loop
invariant-loop g l =
    (l.goes_on ≡ true → AllByRecursion (λ v. AllByRecursion (λ p. g.N.TakesTurns.is_fit p.node) v.items) l.teams.items)
    × AllZip (λ v w. AllZip (λ p q. Goes g.N.TakesTurns.turned g.N.TakesTurns.is_fit p.node p.left q.node q.left) v.items w.items)
    (with_begun (λ h. h.promise.0.value) l.initial.teams.items l.initial.children.items)
    (with_begun (λ h. h.promise.0.value) l.teams.items l.children.items)
    × (vec_len l.teams + vec_len l.children ≡ vec_len l.initial.teams + vec_len l.initial.children)
    × (vec_capacity l.initial.teams ≤ vec_capacity l.teams)
    × (vec_capacity l.initial.children ≤ vec_capacity l.children)
