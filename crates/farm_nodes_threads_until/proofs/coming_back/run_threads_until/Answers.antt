-- Why `run_threads_until` meets its clauses, and it may call `run_threads` and `all_nodes`.
use Rattle.std.proofs.Common.{◌≡◌, map, length, sym, ap, ◌∙◌, subst, subst₂, arith}
use Rattle.std.specs.List.{AllByRecursion, AllZip}
use Rattle.farm_nodes_turn_node.specs.Asked.{MayBeAsked}
use Rattle.farm_nodes_threads_teams.specs.Taken.{HasTaken}
use Rattle.farm_nodes_threads.specs.Nodes.{NodeCameBack}
use Rattle.farm_nodes_threads.specs.OneTurn.{TakesTurn}
use Rattle.farm_nodes_threads.proofs.Turning.{all_came, all_fit, all_long, all_stay}
use Rattle.farm_nodes_threads.proofs.Mapped.{all_held, all_mapped, map_long, zip_mapped}
use Rattle.farm_nodes_threads_until.specs.Early.{StaysBehind}
use Rattle.farm_nodes_threads_until.proofs.Early.{Turned, all_behind_so, taken_any, taken_behind}
use Rattle.farm_nodes_threads_until.proofs.Lists.{all_wider}
use Rattle.farm_nodes_threads_until.proofs.coming_back.run_threads_until.Goals as goal

pub returns-in_default-clause-came : goal.returns-in_default-clause-came
returns-in_default-clause-came g c =
    let disk = g.D.Disk in
    all_stay disk (λ d honest c left. (g.met.D.Disk g.world.𝓛 g.world.𝓜 g.world.𝓡 ((λ s x. x), (λ x. x), (λ x. x), λ x. x)).only_now d c honest left) (λ n. n) c.args.turns c.args.nodes.items c.requires.fit

pub returns-in_default-clause-behind : goal.returns-in_default-clause-behind
returns-in_default-clause-behind g c =
    all_behind_so g.D.Disk c.args.until c.args.nodes.items

pub run_threads-requires-clause-fit : goal.run_threads-requires-clause-fit
run_threads-requires-clause-fit g c κs within =
    let disk = g.D.Disk in let begun = c.all_taking.result.items in
    (all_held (λ t. t.node) (MayBeAsked disk) begun (subst (λ l. AllByRecursion (MayBeAsked disk) l) (sym c.all_taking.ensures.nodes) c.requires.fit))

pub returns-in-Ok-clause-fit : goal.returns-in-Ok-clause-fit
returns-in-Ok-clause-fit g c =
    let disk = g.D.Disk in let begun = c.all_taking.result.items in let taking = c.in-Ok.taking.items in
    let fit = all_held (λ t. t.node) (MayBeAsked disk) begun (subst (λ l. AllByRecursion (MayBeAsked disk) l) (sym c.all_taking.ensures.nodes) c.requires.fit) in
    let taken = all_wider (λ t. t.until ≡ c.args.until) (HasTaken (Turned disk (λ t. t.node) (λ t. t.until)) (λ t. MayBeAsked disk t.node) c.args.turns)
    (HasTaken (λ a b. TakesTurn disk a.node b.node) (λ t. MayBeAsked disk t.node) c.args.turns) begun taking
    (λ x y is t. taken_any disk (λ t. t.node) (λ t. t.until) (λ t. MayBeAsked disk t.node) c.args.turns x y t) c.all_taking.ensures.until c.in-Ok.ensures.taken in
    subst (λ l. AllByRecursion (MayBeAsked disk) l) (sym c.all_nodes.ensures)
    (all_mapped (λ t. t.node) (MayBeAsked disk) taking (all_fit disk (λ d honest c left. (g.met.D.Disk g.world.𝓛 g.world.𝓜 g.world.𝓡 ((λ s x. x), (λ x. x), (λ x. x), λ x. x)).only_now d c honest left) (λ t. t.node) c.args.turns begun taking fit taken))

pub returns-in-Ok-clause-came : goal.returns-in-Ok-clause-came
returns-in-Ok-clause-came g c =
    let disk = g.D.Disk in let begun = c.all_taking.result.items in let taking = c.in-Ok.taking.items in
    let fit = all_held (λ t. t.node) (MayBeAsked disk) begun (subst (λ l. AllByRecursion (MayBeAsked disk) l) (sym c.all_taking.ensures.nodes) c.requires.fit) in
    let taken = all_wider (λ t. t.until ≡ c.args.until) (HasTaken (Turned disk (λ t. t.node) (λ t. t.until)) (λ t. MayBeAsked disk t.node) c.args.turns)
    (HasTaken (λ a b. TakesTurn disk a.node b.node) (λ t. MayBeAsked disk t.node) c.args.turns) begun taking
    (λ x y is t. taken_any disk (λ t. t.node) (λ t. t.until) (λ t. MayBeAsked disk t.node) c.args.turns x y t) c.all_taking.ensures.until c.in-Ok.ensures.taken in
    subst₂ (λ a b. AllZip (NodeCameBack disk c.args.turns) a b) c.all_taking.ensures.nodes (sym c.all_nodes.ensures)
    (zip_mapped (λ t. t.node) (NodeCameBack disk c.args.turns) begun taking (all_came disk (λ d honest c left. (g.met.D.Disk g.world.𝓛 g.world.𝓜 g.world.𝓡 ((λ s x. x), (λ x. x), (λ x. x), λ x. x)).only_now d c honest left) (λ t. t.node) c.args.turns begun taking fit taken))

pub returns-in-Ok-clause-behind : goal.returns-in-Ok-clause-behind
returns-in-Ok-clause-behind g c =
    let disk = g.D.Disk in let begun = c.all_taking.result.items in let taking = c.in-Ok.taking.items in
    let behind = all_wider (λ t. t.until ≡ c.args.until) (HasTaken (Turned disk (λ t. t.node) (λ t. t.until)) (λ t. MayBeAsked disk t.node) c.args.turns)
    (λ x y. StaysBehind c.args.until x.node y.node) begun taking
    (λ x y is t. taken_behind disk (λ t. t.node) (λ t. t.until) (λ t. MayBeAsked disk t.node) c.args.turns c.args.until x y is t) c.all_taking.ensures.until c.in-Ok.ensures.taken in
    subst₂ (λ a b. AllZip (StaysBehind c.args.until) a b) c.all_taking.ensures.nodes (sym c.all_nodes.ensures)
    (zip_mapped (λ t. t.node) (StaysBehind c.args.until) begun taking behind)

pub returns-in-Err-clause-fit : goal.returns-in-Err-clause-fit
returns-in-Err-clause-fit g c =
    let disk = g.D.Disk in let begun = c.all_taking.result.items in let taking = c.in-Err.taking.items in
    let fit = all_held (λ t. t.node) (MayBeAsked disk) begun (subst (λ l. AllByRecursion (MayBeAsked disk) l) (sym c.all_taking.ensures.nodes) c.requires.fit) in
    let taken = all_wider (λ t. t.until ≡ c.args.until) (HasTaken (Turned disk (λ t. t.node) (λ t. t.until)) (λ t. MayBeAsked disk t.node) c.args.turns)
    (HasTaken (λ a b. TakesTurn disk a.node b.node) (λ t. MayBeAsked disk t.node) c.args.turns) begun taking
    (λ x y is t. taken_any disk (λ t. t.node) (λ t. t.until) (λ t. MayBeAsked disk t.node) c.args.turns x y t) c.all_taking.ensures.until c.in-Err.ensures.taken in
    subst (λ l. AllByRecursion (MayBeAsked disk) l) (sym c.all_nodes-in-Err.ensures)
    (all_mapped (λ t. t.node) (MayBeAsked disk) taking (all_fit disk (λ d honest c left. (g.met.D.Disk g.world.𝓛 g.world.𝓜 g.world.𝓡 ((λ s x. x), (λ x. x), (λ x. x), λ x. x)).only_now d c honest left) (λ t. t.node) c.args.turns begun taking fit taken))

pub returns-in-Err-clause-came : goal.returns-in-Err-clause-came
returns-in-Err-clause-came g c =
    let disk = g.D.Disk in let begun = c.all_taking.result.items in let taking = c.in-Err.taking.items in
    let fit = all_held (λ t. t.node) (MayBeAsked disk) begun (subst (λ l. AllByRecursion (MayBeAsked disk) l) (sym c.all_taking.ensures.nodes) c.requires.fit) in
    let taken = all_wider (λ t. t.until ≡ c.args.until) (HasTaken (Turned disk (λ t. t.node) (λ t. t.until)) (λ t. MayBeAsked disk t.node) c.args.turns)
    (HasTaken (λ a b. TakesTurn disk a.node b.node) (λ t. MayBeAsked disk t.node) c.args.turns) begun taking
    (λ x y is t. taken_any disk (λ t. t.node) (λ t. t.until) (λ t. MayBeAsked disk t.node) c.args.turns x y t) c.all_taking.ensures.until c.in-Err.ensures.taken in
    subst₂ (λ a b. AllZip (NodeCameBack disk c.args.turns) a b) c.all_taking.ensures.nodes (sym c.all_nodes-in-Err.ensures)
    (zip_mapped (λ t. t.node) (NodeCameBack disk c.args.turns) begun taking (all_came disk (λ d honest c left. (g.met.D.Disk g.world.𝓛 g.world.𝓜 g.world.𝓡 ((λ s x. x), (λ x. x), (λ x. x), λ x. x)).only_now d c honest left) (λ t. t.node) c.args.turns begun taking fit taken))

pub returns-in-Err-clause-behind : goal.returns-in-Err-clause-behind
returns-in-Err-clause-behind g c =
    let disk = g.D.Disk in let begun = c.all_taking.result.items in let taking = c.in-Err.taking.items in
    let behind = all_wider (λ t. t.until ≡ c.args.until) (HasTaken (Turned disk (λ t. t.node) (λ t. t.until)) (λ t. MayBeAsked disk t.node) c.args.turns)
    (λ x y. StaysBehind c.args.until x.node y.node) begun taking
    (λ x y is t. taken_behind disk (λ t. t.node) (λ t. t.until) (λ t. MayBeAsked disk t.node) c.args.turns c.args.until x y is t) c.all_taking.ensures.until c.in-Err.ensures.taken in
    subst₂ (λ a b. AllZip (StaysBehind c.args.until) a b) c.all_taking.ensures.nodes (sym c.all_nodes-in-Err.ensures)
    (zip_mapped (λ t. t.node) (StaysBehind c.args.until) begun taking behind)

pub returns-in-Err-clause-same : goal.returns-in-Err-clause-same
returns-in-Err-clause-same g c told =
    c.all_nodes-in-Err.ensures ∙ (ap (λ l. map (λ t. t.node) l) (c.in-Err.ensures.same told) ∙ c.all_taking.ensures.nodes)

pub all_nodes-requires : goal.all_nodes-requires
all_nodes-requires g c =
    let disk = g.D.Disk in let begun = c.all_taking.result.items in let taking = c.in-Ok.taking in
    let taken = all_wider (λ t. t.until ≡ c.args.until) (HasTaken (Turned disk (λ t. t.node) (λ t. t.until)) (λ t. MayBeAsked disk t.node) c.args.turns)
    (HasTaken (λ a b. TakesTurn disk a.node b.node) (λ t. MayBeAsked disk t.node) c.args.turns) begun taking.items
    (λ x y is t. taken_any disk (λ t. t.node) (λ t. t.until) (λ t. MayBeAsked disk t.node) c.args.turns x y t) c.all_taking.ensures.until c.in-Ok.ensures.taken in
    let many = all_long disk (λ d honest c left. (g.met.D.Disk g.world.𝓛 g.world.𝓜 g.world.𝓡 ((λ s x. x), (λ x. x), (λ x. x), λ x. x)).only_now d c honest left) (λ t. t.node) c.args.turns begun taking.items taken in
    record {
      none = c.in-Some.ensures.none.1;
      capacity = omega (arith, taking.ok.0, many, map_long (λ t. t.node) begun, ap length c.all_taking.ensures.nodes, c.args.nodes.ok.0, c.len.ensures, c.in-Some.ensures.capacity.1);
    }

pub all_nodes-requires-in-Err : goal.all_nodes-requires-in-Err
all_nodes-requires-in-Err g c =
    let disk = g.D.Disk in let begun = c.all_taking.result.items in let taking = c.in-Err.taking in
    let taken = all_wider (λ t. t.until ≡ c.args.until) (HasTaken (Turned disk (λ t. t.node) (λ t. t.until)) (λ t. MayBeAsked disk t.node) c.args.turns)
    (HasTaken (λ a b. TakesTurn disk a.node b.node) (λ t. MayBeAsked disk t.node) c.args.turns) begun taking.items
    (λ x y is t. taken_any disk (λ t. t.node) (λ t. t.until) (λ t. MayBeAsked disk t.node) c.args.turns x y t) c.all_taking.ensures.until c.in-Err.ensures.taken in
    let many = all_long disk (λ d honest c left. (g.met.D.Disk g.world.𝓛 g.world.𝓜 g.world.𝓡 ((λ s x. x), (λ x. x), (λ x. x), λ x. x)).only_now d c honest left) (λ t. t.node) c.args.turns begun taking.items taken in
    record {
      none = c.in-Some.ensures.none.1;
      capacity = omega (arith, taking.ok.0, many, map_long (λ t. t.node) begun, ap length c.all_taking.ensures.nodes, c.args.nodes.ok.0, c.len.ensures, c.in-Some.ensures.capacity.1);
    }
