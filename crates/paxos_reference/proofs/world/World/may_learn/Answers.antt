-- Why `may_learn` meets its contract.
use Rattle.std.proofs.Common.{rules}
use Rattle.paxos_reference.specs.Listed.{world_of}
use Rattle.paxos_reference.proofs.Choices.{chosen_tells}
use Rattle.paxos_reference.proofs.world.World.may_learn.Goals as goal

pub returns-then-node-nodes : goal.returns-then-node-nodes
returns-then-node-nodes c =
    let w = c.args.self.now in
    let both = chosen_tells w.quorums (world_of w) c.args.value c.is_chosen.result (search rules) (search rules) in
    (λ h. (search rules, both.0 h), λ h. both.1 h.1)
