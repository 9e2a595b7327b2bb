-- Why `is_safe_choice` meets its contract.
use Rattle.std.proofs.Common.{rules}
use Rattle.paxos_reference.specs.Listed.{world_of}
use Rattle.paxos_reference.proofs.Choices.{adopted_is_safe, free_is_safe}
use Rattle.paxos_reference.proofs.world.World.is_safe_choice.Goals as goal

pub returns-then-adopted : goal.returns-then-adopted
returns-then-adopted c =
    let w = c.args.self.now in
    (λ _. adopted_is_safe w.quorums (world_of w) c.args.ballot c.args.value _ (search rules) c.if-adopted.true, λ _. search rules)

pub returns-else-adopted : goal.returns-else-adopted
returns-else-adopted c =
    let w = c.args.self.now in
    let both = free_is_safe w.quorums (world_of w) c.args.ballot c.args.value c.is_adopted-adopted.result (search rules) c.if-adopted.false in
    (λ h. both.0 (c.is_free.ensures.0 h), λ s. c.is_free.ensures.1 (both.1 s))
