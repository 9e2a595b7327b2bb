-- Why `start_last` meets its clause `go`, and it may call `spawn_with`.
use Rattle.std.proofs.Common.{rules, ◌≡◌, [], ◌∷◌, ◌++◌, ap, sym, ◌∙◌, subst}
use Rattle.std.specs.List.{AllByRecursion, AllZip}
use Rattle.farm_nodes_threads_pace.specs.After.{Goes}
use Rattle.farm_nodes_threads_teams.proofs.Stacks.{all_ends}
use Rattle.farm_nodes_threads_teams.proofs.Begins.{last_begins, last_refused, none_begins}
use Rattle.farm_nodes_threads_teams.proofs.threads.start_last.Goals as goal

pub returns-in_default-clause-go : goal.returns-in_default-clause-go
returns-in_default-clause-go g c =
    none_begins g.N.TakesTurns.turned g.N.TakesTurns.is_fit (λ p. p.node) (λ p. p.left) (λ v. v.items) (λ h. h.promise.0.value)
    c.args.teams.now.items c.pop.new.self.items c.args.children.now.items c.in_default.ensures.items

pub spawn_with-started-requires-clause-runs : goal.spawn_with-started-requires-clause-runs
spawn_with-started-requires-clause-runs g c κs within =
    let all = subst (λ l. AllByRecursion (λ v. AllByRecursion (λ p. g.N.TakesTurns.is_fit p.node) v.items) l) c.in-Some.ensures.items c.requires.fit in
    (all_ends (λ v. AllByRecursion (λ p. g.N.TakesTurns.is_fit p.node) v.items) c.pop.new.self.items c.in-Some.team all).1

pub spawn_with-team-requires : goal.spawn_with-team-requires
spawn_with-team-requires g c κs within =
    let all = subst (λ l. AllByRecursion (λ v. AllByRecursion (λ p. g.N.TakesTurns.is_fit p.node) v.items) l) c.in-Some.ensures.items c.requires.fit in
    let runs = (all_ends (λ v. AllByRecursion (λ p. g.N.TakesTurns.is_fit p.node) v.items) c.pop.new.self.items c.in-Some.team all).1 in
    (search rules, (search rules, subst (λ f. AllByRecursion (λ p. g.N.TakesTurns.is_fit p.node) f.0.items) (sym c.in-Err.ensures.err) runs))

pub returns-in-Ok-clause-go : goal.returns-in-Ok-clause-go
returns-in-Ok-clause-go g c =
    last_begins g.N.TakesTurns.turned g.N.TakesTurns.is_fit (λ p. p.node) (λ p. p.left) (λ v. v.items) (λ h. h.promise.0.value)
    c.args.teams.now.items c.pop.new.self.items c.args.children.now.items c.put.new.all.items c.in-Some.team c.in-Ok.child
    c.in-Some.ensures.items c.put.ensures.items (ap (λ r. r.0.value) c.in-Ok.ensures.ok ∙ c.of.ensures)

pub returns-in-Err-clause-go : goal.returns-in-Err-clause-go
returns-in-Err-clause-go g c =
    let back = c.spawn_with-team.result in
    last_refused g.N.TakesTurns.turned g.N.TakesTurns.is_fit (λ p. p.node) (λ p. p.left) (λ v. v.items) (λ h. h.promise.0.value)
    c.args.teams.now.items c.pop.new.self.items c.put-in-Err.new.all.items c.args.children.now.items c.in-Some.team back
    c.in-Some.ensures.items c.put-in-Err.ensures.items
    (subst (λ f. AllZip (λ p q. Goes g.N.TakesTurns.turned g.N.TakesTurns.is_fit p.node p.left q.node q.left) f.0.items back.items) c.in-Err.ensures.err c.spawn_with-team.ensures)
