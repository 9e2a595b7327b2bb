-- Why the loop of `start_all` begins and ends.
use Rattle.std.proofs.Common.{◌≡◌, ◌+◌, ◌≤◌, vec_len, vec_capacity, refl, ◌∙◌, arith}
use Rattle.farm_nodes_threads_teams.specs.Begun.{with_begun}
use Rattle.farm_nodes_threads_teams.proofs.Begins.{teams_go, teams_stay}
use Rattle.farm_nodes_threads_teams.proofs.threads.start_all.Goals as goal

pub loop-init : goal.loop-init
loop-init g c = (
  (λ goes. c.requires.fit),
  teams_stay g.N.TakesTurns.turned g.N.TakesTurns.is_fit (λ p. p.node) (λ p. p.left) (λ v. v.items) (with_begun (λ h. h.promise.0.value) c.args.teams.now.items c.args.children.now.items),
  refl,
  omega arith,
  omega arith,
)

pub loop-preserved : goal.loop-preserved
loop-preserved g c =
    let i = c.loop.invariant in let e = c.start_last-goes_on.ensures in (
      e.fit,
      teams_go g.N.TakesTurns.turned g.N.TakesTurns.is_fit (λ p. p.node) (λ p. p.left) (λ v. v.items)
          (with_begun (λ h. h.promise.0.value) c.args.teams.now.items c.args.children.now.items)
          (with_begun (λ h. h.promise.0.value) c.loop.teams.items c.loop.children.items)
          (with_begun (λ h. h.promise.0.value) c.start_last-goes_on.new.teams.items c.start_last-goes_on.new.children.items) i.1 e.go,
      e.count ∙ i.2,
      omega (arith, i.3, e.teams),
      omega (arith, i.4, e.children),
    )
