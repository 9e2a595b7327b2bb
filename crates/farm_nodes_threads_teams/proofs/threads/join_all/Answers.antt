-- Why the loop of `join_all` begins and ends.
use Rattle.std.proofs.Common.{◌≡◌, ◌+◌, ◌≤◌, vec_len, vec_capacity, arith}
use Rattle.farm_nodes_threads_teams.specs.Begun.{with_begun}
use Rattle.farm_nodes_threads_teams.proofs.Begins.{one_joins, teams_go, teams_stay}
use Rattle.farm_nodes_threads_teams.proofs.threads.join_all.Goals as goal

pub loop-init : goal.loop-init
loop-init g c = (
  teams_stay g.N.TakesTurns.turned g.N.TakesTurns.is_fit (λ p. p.node) (λ p. p.left) (λ v. v.items) (with_begun (λ h. h.promise.0.value) c.args.teams.items c.args.children.items),
  c.requires.capacity,
  omega arith,
)

pub loop-preserved : goal.loop-preserved
loop-preserved g c =
    let i = c.loop.invariant in (
      teams_go g.N.TakesTurns.turned g.N.TakesTurns.is_fit (λ p. p.node) (λ p. p.left) (λ v. v.items)
          (with_begun (λ h. h.promise.0.value) c.args.teams.items c.args.children.items)
          (with_begun (λ h. h.promise.0.value) c.loop.teams.items c.loop.children.items)
          (with_begun (λ h. h.promise.0.value) c.put.new.all.items c.pop.new.self.items) i.0
          (one_joins g.N.TakesTurns.turned g.N.TakesTurns.is_fit (λ p. p.node) (λ p. p.left) (λ v. v.items) (λ h. h.promise.0.value)
          c.loop.teams.items c.put.new.all.items c.loop.children.items c.pop.new.self.items c.in-Some.child c.join-team.result
          c.in-Some.ensures.items c.put.ensures.items c.join-team.ensures),
      omega (arith, i.1, c.put.ensures.len, c.put.ensures.capacity, c.in-Some.ensures.cases),
      omega (arith, i.2, c.in-Some.ensures.cases),
    )
