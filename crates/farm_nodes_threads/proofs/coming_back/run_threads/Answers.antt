-- Why `run_threads` meets its clauses `came`, `fit` and `same`, and it may call `run_threads` and `all_nodes`.
use Rattle.std.proofs.Common.{map, length, sym, ap, ◌∙◌, subst, subst₂, arith}
use Rattle.std.specs.List.{AllByRecursion, AllZip}
use Rattle.farm_nodes_turn_node.specs.Asked.{MayBeAsked}
use Rattle.farm_nodes_threads.specs.Nodes.{NodeCameBack}
use Rattle.farm_nodes_threads.proofs.Turning.{all_came, all_fit, all_long, all_stay}
use Rattle.farm_nodes_threads.proofs.Mapped.{all_held, all_mapped, map_long, zip_mapped}
use Rattle.farm_nodes_threads.proofs.coming_back.run_threads.Goals as goal

pub returns-in_default-clause-came : goal.returns-in_default-clause-came
returns-in_default-clause-came g c =
    let disk = g.D.Disk in
    all_stay disk (λ d honest c left. (g.met.D.Disk g.world.𝓛 g.world.𝓜 g.world.𝓡 ((λ s x. x), (λ x. x), (λ x. x), λ x. x)).only_now d c honest left) (λ n. n) c.args.turns c.args.nodes.items c.requires.fit

pub run_threads-requires-clause-fit : goal.run_threads-requires-clause-fit
run_threads-requires-clause-fit g c κs within =
    let disk = g.D.Disk in let begun = c.all_taking.result.items in
    (all_held (λ t. t.node) (MayBeAsked disk) begun (subst (λ l. AllByRecursion (MayBeAsked disk) l) (sym c.all_taking.ensures) c.requires.fit))

pub returns-in-Ok-clause-fit : goal.returns-in-Ok-clause-fit
returns-in-Ok-clause-fit g c =
    let disk = g.D.Disk in let begun = c.all_taking.result.items in let taking = c.in-Ok.taking.items in
    subst (λ l. AllByRecursion (MayBeAsked disk) l) (sym c.all_nodes.ensures)
    (all_mapped (λ t. t.node) (MayBeAsked disk) taking
    (all_fit disk (λ d honest c left. (g.met.D.Disk g.world.𝓛 g.world.𝓜 g.world.𝓡 ((λ s x. x), (λ x. x), (λ x. x), λ x. x)).only_now d c honest left) (λ t. t.node) c.args.turns begun taking (all_held (λ t. t.node) (MayBeAsked disk) begun (subst (λ l. AllByRecursion (MayBeAsked disk) l) (sym c.all_taking.ensures) c.requires.fit)) c.in-Ok.ensures.taken))

pub returns-in-Ok-clause-came : goal.returns-in-Ok-clause-came
returns-in-Ok-clause-came g c =
    let disk = g.D.Disk in let begun = c.all_taking.result.items in let taking = c.in-Ok.taking.items in
    subst₂ (λ a b. AllZip (NodeCameBack disk c.args.turns) a b) c.all_taking.ensures (sym c.all_nodes.ensures)
    (zip_mapped (λ t. t.node) (NodeCameBack disk c.args.turns) begun taking
    (all_came disk (λ d honest c left. (g.met.D.Disk g.world.𝓛 g.world.𝓜 g.world.𝓡 ((λ s x. x), (λ x. x), (λ x. x), λ x. x)).only_now d c honest left) (λ t. t.node) c.args.turns begun taking (all_held (λ t. t.node) (MayBeAsked disk) begun (subst (λ l. AllByRecursion (MayBeAsked disk) l) (sym c.all_taking.ensures) c.requires.fit)) c.in-Ok.ensures.taken))

pub returns-in-Err-clause-fit : goal.returns-in-Err-clause-fit
returns-in-Err-clause-fit g c =
    let disk = g.D.Disk in let begun = c.all_taking.result.items in let taking = c.in-Err.taking.items in
    subst (λ l. AllByRecursion (MayBeAsked disk) l) (sym c.all_nodes-in-Err.ensures)
    (all_mapped (λ t. t.node) (MayBeAsked disk) taking
    (all_fit disk (λ d honest c left. (g.met.D.Disk g.world.𝓛 g.world.𝓜 g.world.𝓡 ((λ s x. x), (λ x. x), (λ x. x), λ x. x)).only_now d c honest left) (λ t. t.node) c.args.turns begun taking (all_held (λ t. t.node) (MayBeAsked disk) begun (subst (λ l. AllByRecursion (MayBeAsked disk) l) (sym c.all_taking.ensures) c.requires.fit)) c.in-Err.ensures.taken))

pub returns-in-Err-clause-came : goal.returns-in-Err-clause-came
returns-in-Err-clause-came g c =
    let disk = g.D.Disk in let begun = c.all_taking.result.items in let taking = c.in-Err.taking.items in
    subst₂ (λ a b. AllZip (NodeCameBack disk c.args.turns) a b) c.all_taking.ensures (sym c.all_nodes-in-Err.ensures)
    (zip_mapped (λ t. t.node) (NodeCameBack disk c.args.turns) begun taking
    (all_came disk (λ d honest c left. (g.met.D.Disk g.world.𝓛 g.world.𝓜 g.world.𝓡 ((λ s x. x), (λ x. x), (λ x. x), λ x. x)).only_now d c honest left) (λ t. t.node) c.args.turns begun taking (all_held (λ t. t.node) (MayBeAsked disk) begun (subst (λ l. AllByRecursion (MayBeAsked disk) l) (sym c.all_taking.ensures) c.requires.fit)) c.in-Err.ensures.taken))

pub returns-in-Err-clause-same : goal.returns-in-Err-clause-same
returns-in-Err-clause-same g c told =
    c.all_nodes-in-Err.ensures ∙ (ap (λ l. map (λ t. t.node) l) (c.in-Err.ensures.same told) ∙ c.all_taking.ensures)

pub all_nodes-requires : goal.all_nodes-requires
all_nodes-requires g c =
    let disk = g.D.Disk in let begun = c.all_taking.result.items in let taking = c.in-Ok.taking in
    let many = all_long disk (λ d honest c left. (g.met.D.Disk g.world.𝓛 g.world.𝓜 g.world.𝓡 ((λ s x. x), (λ x. x), (λ x. x), λ x. x)).only_now d c honest left) (λ t. t.node) c.args.turns begun taking.items c.in-Ok.ensures.taken in
    record {
      none = c.in-Some.ensures.none.1;
      capacity = omega (arith, taking.ok.0, many, map_long (λ t. t.node) begun, ap length c.all_taking.ensures, c.args.nodes.ok.0, c.len.ensures, c.in-Some.ensures.capacity.1);
    }

pub all_nodes-requires-in-Err : goal.all_nodes-requires-in-Err
all_nodes-requires-in-Err g c =
    let disk = g.D.Disk in let begun = c.all_taking.result.items in let taking = c.in-Err.taking in
    let many = all_long disk (λ d honest c left. (g.met.D.Disk g.world.𝓛 g.world.𝓜 g.world.𝓡 ((λ s x. x), (λ x. x), (λ x. x), λ x. x)).only_now d c honest left) (λ t. t.node) c.args.turns begun taking.items c.in-Err.ensures.taken in
    record {
      none = c.in-Some.ensures.none.1;
      capacity = omega (arith, taking.ok.0, many, map_long (λ t. t.node) begun, ap length c.all_taking.ensures, c.args.nodes.ok.0, c.len.ensures, c.in-Some.ensures.capacity.1);
    }
