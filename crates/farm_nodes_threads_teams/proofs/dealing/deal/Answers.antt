-- Why the loop of `deal` begins and ends.
use Rattle.std.proofs.Common.{◌≡◌, ◌≤◌, length, map, vec_items, vec_len, vec_capacity, ◌∙◌, arith}
use Rattle.farm_nodes_threads_teams.specs.Dealt.{IsSame}
use Rattle.farm_nodes_threads_teams.proofs.Stacks.{stays_through}
use Rattle.farm_nodes_threads_teams.proofs.dealing.deal.Goals as goal

pub loop-preserved : goal.loop-preserved
loop-preserved g c =
    let i = c.loop.invariant in let e = c.deal_last-is_dealt.ensures in (
      stays_through IsSame (λ x p. (p.node ≡ x) × (p.left ≡ c.args.turns)) (length c.args.teams.now) (length c.loop.teams)
          c.args.nodes.now.items c.loop.nodes.items c.deal_last-is_dealt.new.nodes.items
          (map vec_items c.args.teams.now) (map vec_items c.loop.teams) (map vec_items c.deal_last-is_dealt.new.teams) i.1 i.0 e.dealt,
      e.teams ∙ i.1,
      omega (arith, i.2, e.capacity),
      omega (arith, i.3, e.fewer),
    )
