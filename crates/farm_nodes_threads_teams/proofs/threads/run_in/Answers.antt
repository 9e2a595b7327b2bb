-- Why `run_in` meets its contract.
use Rattle.std.proofs.Common.{[], subst}
use Rattle.std.specs.List.{AllZip}
use Rattle.farm_nodes_threads_teams.specs.Begun.{with_begun}
use Rattle.farm_nodes_threads_teams.proofs.Begins.{TeamGoes, teams_go}
use Rattle.farm_nodes_threads_teams.proofs.threads.run_in.Goals as goal

pub returns : goal.returns
returns g c =
    let begun = with_begun (λ h. h.promise.0.value) c.start_all.new.teams.items c.start_all.new.children.items in
    teams_go g.N.TakesTurns.turned g.N.TakesTurns.is_fit (λ p. p.node) (λ p. p.left) (λ v. v.items) c.args.teams.items begun c.join_all.result.items
    (subst (λ l. AllZip (TeamGoes g.N.TakesTurns.turned g.N.TakesTurns.is_fit (λ p. p.node) (λ p. p.left) (λ v. v.items)) (with_begun (λ h. h.promise.0.value) c.args.teams.items l) begun)
    c.requires.none c.start_all.ensures.go)
    c.join_all.ensures
