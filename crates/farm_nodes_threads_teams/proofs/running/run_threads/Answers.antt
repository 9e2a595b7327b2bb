-- Why `run_threads` meets its clauses `taken` and `same`, and it may call `deal`, `gather` and `run`.
use Rattle.std.proofs.Common.{◌≡◌, ◌<◌, [], ◌++◌, length, map, take, drop, vec_items, vec_len, sym, ap, ◌∙◌, subst, arith}
use Rattle.std.specs.List.{AllZip}
use Rattle.farm_nodes_threads_pace.specs.After.{Goes}
use Rattle.farm_nodes_threads_teams.specs.Taken.{HasTaken}
use Rattle.farm_nodes_threads_teams.specs.Dealt.{AreDealt, IsSame}
use Rattle.farm_nodes_threads_teams.proofs.Stacks.{all_same, take_all, zip_long}
use Rattle.farm_nodes_threads_teams.proofs.Begins.{TeamGoes}
use Rattle.farm_nodes_threads_teams.proofs.Taking.{all_taken_none, here_same, here_taken, so_many, teams_fit, teams_worked}
use Rattle.farm_nodes_threads_teams.proofs.running.run_threads.Goals as goal

pub returns-in_default-clause-taken : goal.returns-in_default-clause-taken
returns-in_default-clause-taken g c = all_taken_none g.N.TakesTurns.turned g.N.TakesTurns.is_fit c.args.nodes.items c.args.turns

pub returns-in_default-no_teams-clause-taken : goal.returns-in_default-no_teams-clause-taken
returns-in_default-no_teams-clause-taken g c = all_taken_none g.N.TakesTurns.turned g.N.TakesTurns.is_fit c.args.nodes.items c.args.turns

pub deal-requires : goal.deal-requires
deal-requires g c =
    let teams = c.in-Ok-no_teams.teams in
    let many = so_many g.N.TakesTurns.turned g.N.TakesTurns.is_fit (λ p. p.node) (λ p. p.left) (λ v. v.items) c.args.turns c.teams_for.result teams.len teams.items c.in-Ok-no_teams.ensures (omega (arith, teams.ok.0)) in
    record { some = omega (arith, many, c.teams_for.ensures, c.deref_mut.ensures.len) }

pub gather-requires-clause-some : goal.gather-requires-clause-some
gather-requires-clause-some g c =
    let teams = c.in-Ok-no_teams.teams in
    let many = so_many g.N.TakesTurns.turned g.N.TakesTurns.is_fit (λ p. p.node) (λ p. p.left) (λ v. v.items) c.args.turns c.teams_for.result teams.len teams.items c.in-Ok-no_teams.ensures (omega (arith, teams.ok.0)) in
    omega (arith, many, c.teams_for.ensures)

pub returns-then-not-deal-clause-taken : goal.returns-then-not-deal-clause-taken
returns-then-not-deal-clause-taken g c =
    let turns = c.args.turns in let xs = c.args.nodes.items in let here = c.deal.new.nodes.items in let teams = c.in-Ok-no_teams.teams in
    let new = c.deal.new.teams in let n = teams.len in let rest = drop (length new) teams.items in
    let long : length xs ≡ c.len-count.result = omega (arith, c.len-count.ensures, c.args.nodes.ok.0) in
    let whole : length new ≡ n = omega (arith, c.deal.auto.teams, c.deref_mut.ensures.len) in
    c.gather.ensures.taken xs turns long
    (here_taken g.N.TakesTurns.turned g.N.TakesTurns.is_fit (λ p. p.node) (λ p. p.left) (λ v. v.items) turns c.teams_for.result n xs here teams.items c.deref_mut.result.now new rest c.deref_mut.ensures.value c.in-Ok-no_teams.ensures
    (omega (arith, teams.ok.0)) whole c.deal.ensures.dealt)

pub returns-then-not-deal-clause-same : goal.returns-then-not-deal-clause-same
returns-then-not-deal-clause-same g c =
    let turns = c.args.turns in let xs = c.args.nodes.items in let here = c.deal.new.nodes.items in let teams = c.in-Ok-no_teams.teams in
    let new = c.deal.new.teams in let n = teams.len in let rest = drop (length new) teams.items in
    let long : length xs ≡ c.len-count.result = omega (arith, c.len-count.ensures, c.args.nodes.ok.0) in
    let whole : length new ≡ n = omega (arith, c.deal.auto.teams, c.deref_mut.ensures.len) in
    λ told. all_same xs c.gather.result.items (c.gather.ensures.same xs long
    (here_same g.N.TakesTurns.turned g.N.TakesTurns.is_fit (λ p. p.node) (λ p. p.left) (λ v. v.items) turns c.teams_for.result n xs here teams.items c.deref_mut.result.now new rest c.deref_mut.ensures.value c.in-Ok-no_teams.ensures
    (omega (arith, teams.ok.0)) whole c.deal.ensures.dealt))

pub run-requires-clause-fit : goal.run-requires-clause-fit
run-requires-clause-fit g c κs within =
    let turns = c.args.turns in let xs = c.args.nodes.items in let here = c.deal.new.nodes.items in let teams = c.in-Ok-no_teams.teams in
    let new = c.deal.new.teams in let n = teams.len in let rest = drop (length new) teams.items in
    let long : length xs ≡ c.len-count.result = omega (arith, c.len-count.ensures, c.args.nodes.ok.0) in
    let whole : length new ≡ n = omega (arith, c.deal.auto.teams, c.deref_mut.ensures.len) in
    teams_fit g.N.TakesTurns.turned g.N.TakesTurns.is_fit (λ p. p.node) (λ p. p.left) (λ v. v.items) turns n xs here (take n (new ++ rest)) c.requires.fit
    (here_taken g.N.TakesTurns.turned g.N.TakesTurns.is_fit (λ p. p.node) (λ p. p.left) (λ v. v.items) turns c.teams_for.result n xs here teams.items c.deref_mut.result.now new rest c.deref_mut.ensures.value c.in-Ok-no_teams.ensures
    (omega (arith, teams.ok.0)) whole c.deal.ensures.dealt)

pub gather-requires-in-Ok-run-clause-some : goal.gather-requires-in-Ok-run-clause-some
gather-requires-in-Ok-run-clause-some g c =
    let turns = c.args.turns in let xs = c.args.nodes.items in let here = c.deal.new.nodes.items in let teams = c.in-Ok-no_teams.teams in
    let new = c.deal.new.teams in let n = teams.len in let rest = drop (length new) teams.items in
    let long : length xs ≡ c.len-count.result = omega (arith, c.len-count.ensures, c.args.nodes.ok.0) in
    let whole : length new ≡ n = omega (arith, c.deal.auto.teams, c.deref_mut.ensures.len) in
    let back = c.in-Ok-run.teams in
    let many = so_many g.N.TakesTurns.turned g.N.TakesTurns.is_fit (λ p. p.node) (λ p. p.left) (λ v. v.items) turns c.teams_for.result n teams.items c.in-Ok-no_teams.ensures (omega (arith, teams.ok.0)) in
    let all : length back.items ≡ n =
    zip_long (TeamGoes g.N.TakesTurns.turned g.N.TakesTurns.is_fit (λ p. p.node) (λ p. p.left) (λ v. v.items)) (take n (new ++ rest)) back.items c.in-Ok-run.ensures.ok
    ∙ (ap length (take_all new rest n whole) ∙ whole) in
    omega (arith, all, many, c.teams_for.ensures, back.ok.0)

pub returns-in-Ok-run-clause-taken : goal.returns-in-Ok-run-clause-taken
returns-in-Ok-run-clause-taken g c =
    let turns = c.args.turns in let xs = c.args.nodes.items in let here = c.deal.new.nodes.items in let teams = c.in-Ok-no_teams.teams in
    let new = c.deal.new.teams in let n = teams.len in let rest = drop (length new) teams.items in
    let long : length xs ≡ c.len-count.result = omega (arith, c.len-count.ensures, c.args.nodes.ok.0) in
    let whole : length new ≡ n = omega (arith, c.deal.auto.teams, c.deref_mut.ensures.len) in
    let back = c.in-Ok-run.teams in
    let all : length back.items ≡ n =
    zip_long (TeamGoes g.N.TakesTurns.turned g.N.TakesTurns.is_fit (λ p. p.node) (λ p. p.left) (λ v. v.items)) (take n (new ++ rest)) back.items c.in-Ok-run.ensures.ok
    ∙ (ap length (take_all new rest n whole) ∙ whole) in
    let many : n ≡ vec_len back = omega (arith, all, back.ok.0) in
    let begun = here_taken g.N.TakesTurns.turned g.N.TakesTurns.is_fit (λ p. p.node) (λ p. p.left) (λ v. v.items) turns c.teams_for.result n xs here teams.items c.deref_mut.result.now new rest c.deref_mut.ensures.value c.in-Ok-no_teams.ensures
    (omega (arith, teams.ok.0)) whole c.deal.ensures.dealt in
    let worked = teams_worked g.N.TakesTurns.turned g.N.TakesTurns.is_fit (λ p. p.node) (λ p. p.left) (λ v. v.items) turns n xs here (take n (new ++ rest)) back.items c.in-Ok-run.ensures.ok begun in
    subst (λ v. AllZip (HasTaken g.N.TakesTurns.turned g.N.TakesTurns.is_fit turns) xs v.items) (sym c.told.ensures.nodes)
    (c.gather-in-Ok-run.ensures.taken xs turns long
    (subst (λ k. AreDealt (HasTaken g.N.TakesTurns.turned g.N.TakesTurns.is_fit turns) (λ x p. Goes g.N.TakesTurns.turned g.N.TakesTurns.is_fit x turns p.node p.left) k xs here (map vec_items back.items)) many worked))

pub returns-clause-taken : goal.returns-clause-taken
returns-clause-taken g c =
    let turns = c.args.turns in let xs = c.args.nodes.items in let here = c.deal.new.nodes.items in let teams = c.in-Ok-no_teams.teams in
    let new = c.deal.new.teams in let n = teams.len in let rest = drop (length new) teams.items in
    let long : length xs ≡ c.len-count.result = omega (arith, c.len-count.ensures, c.args.nodes.ok.0) in
    let whole : length new ≡ n = omega (arith, c.deal.auto.teams, c.deref_mut.ensures.len) in
    c.gather-in-Err.ensures.taken xs turns long
    (subst (λ v. AreDealt (HasTaken g.N.TakesTurns.turned g.N.TakesTurns.is_fit turns) (λ x p. Goes g.N.TakesTurns.turned g.N.TakesTurns.is_fit x turns p.node p.left) (vec_len v) xs here (map vec_items v.items)) (sym c.in-Err.ensures.err)
    (here_taken g.N.TakesTurns.turned g.N.TakesTurns.is_fit (λ p. p.node) (λ p. p.left) (λ v. v.items) turns c.teams_for.result n xs here teams.items c.deref_mut.result.now new rest c.deref_mut.ensures.value c.in-Ok-no_teams.ensures
    (omega (arith, teams.ok.0)) whole c.deal.ensures.dealt))

pub returns-clause-same : goal.returns-clause-same
returns-clause-same g c =
    let turns = c.args.turns in let xs = c.args.nodes.items in let here = c.deal.new.nodes.items in let teams = c.in-Ok-no_teams.teams in
    let new = c.deal.new.teams in let n = teams.len in let rest = drop (length new) teams.items in
    let long : length xs ≡ c.len-count.result = omega (arith, c.len-count.ensures, c.args.nodes.ok.0) in
    let whole : length new ≡ n = omega (arith, c.deal.auto.teams, c.deref_mut.ensures.len) in
    λ told. all_same xs c.gather-in-Err.result.items (c.gather-in-Err.ensures.same xs long
    (subst (λ v. AreDealt IsSame (λ x p. p.node ≡ x) (vec_len v) xs here (map vec_items v.items)) (sym c.in-Err.ensures.err)
    (here_same g.N.TakesTurns.turned g.N.TakesTurns.is_fit (λ p. p.node) (λ p. p.left) (λ v. v.items) turns c.teams_for.result n xs here teams.items c.deref_mut.result.now new rest c.deref_mut.ensures.value c.in-Ok-no_teams.ensures
    (omega (arith, teams.ok.0)) whole c.deal.ensures.dealt)))
