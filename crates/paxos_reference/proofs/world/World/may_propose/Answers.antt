-- Why `may_propose` meets its contract.
use Rattle.std.proofs.Common.{ℕ, rules, IsTrue}
use Rattle.paxos_core_world.specs.World.{Has}
use Rattle.paxos_core_world.specs.declared.msg.Msg.TheVariants.{Propose}
use Rattle.paxos_reference.proofs.world.World.may_propose.Goals as goal

pub returns-then-is_unproposed : goal.returns-then-is_unproposed
returns-then-is_unproposed c =
    let begun : Has c.args.ballot c.args.self.now.begun.items = search rules in
    let none : (x : ℕ) → Has (Propose c.args.ballot x) c.args.self.now.sent.items → ⊥ = rw (← c.deref-2.ensures.value) (c.is_unproposed.ensures.0 c.if-is_unproposed.true) in
    (λ h. (begun, none, c.is_safe_choice.ensures.0 h), λ all. c.is_safe_choice.ensures.1 all.2)

pub returns-else-is_unproposed : goal.returns-else-is_unproposed
returns-else-is_unproposed c =
    let none : ((x : ℕ) → Has (Propose c.args.ballot x) c.args.self.now.sent.items → ⊥) → IsTrue c.is_unproposed.result = rw (← c.deref-2.ensures.value) c.is_unproposed.ensures.1 in
    (λ h. absurd (let f = c.if-is_unproposed.false in cc), λ all. none all.1)
