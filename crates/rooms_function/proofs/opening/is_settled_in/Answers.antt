-- Why `is_settled_in` meets its contract.
use Rattle.std.proofs.Common.{◌≡◌, ℕ, ◌≤◌, ◌↔◌, List, IsTrue, ap, sym, subst, ◌∙◌}
use Rattle.paxos_core_world.specs.KeptPart.{KeptPart}
use Rattle.paxos_core_world.specs.Settled.{Settled}
use Rattle.paxos_core_world.specs.World.{nodes_of}
use Rattle.rooms_function.specs.Opened.{kept_of_pass, seven_parts}
use Rattle.rooms_function.proofs.Passes.{row_is}
use Rattle.rooms_function.proofs.opening.is_settled_in.Goals as goal

pub returns : goal.returns
returns c =
    let nodes : c.from-2.result ≡ c.args.quorums.nodes = c.from-2.ensures ∙ c.nodes.ensures.value in
    let most : c.from-2.result ≤ 7 = subst (λ (n : ℕ). n ≤ 7) (sym nodes) c.nodes.ensures.sizes.most in
    let row = c.parts_in-parts.ensures ∙ ap (λ (p : ℕ). seven_parts (kept_of_pass p c.args.kept.now)) c.from.ensures in
    let same = row_is c.args.kept.now c.args.pass c.from-2.result c.parts_in-parts.result row (c.requires.size ∙ sym nodes) most in
    subst (λ (k : List KeptPart). IsTrue c.settled.result ↔ Settled c.args.quorums (nodes_of k)) same c.settled.ensures
