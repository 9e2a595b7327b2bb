-- A call of a node moves the room of the protocol as it moves the lists.
use Rattle.std.proofs.Common.{◌≡◌, ℕ, zero, suc, ◌<◌, List, [], ◌∷◌, ◌++◌, length, Option, Some, None, cond, refl, sym, ap, ◌∙◌, arith, inl, inr, reverse}
use Rattle.std.specs.Prelude.{slice_get, slice_set, slice_index_or}
use Rattle.std.specs.Option.{option_to_list}
use Rattle.std.proofs.lemmas.Bool.Decides.{eqb_tells}
use Rattle.std.proofs.lemmas.List.{reverse-append, reverse-reverse, length-reverse}
use Rattle.paxos_core_world.specs.declared.msg.Msg.{Msg}
use Rattle.paxos_core_node_steps.specs.NodeState.{NodeState, new_node}
use Rattle.paxos_core.specs.Call.{Call, after_call, answer_to}
use Rattle.paxos_core.specs.Schedule.{NodeCall, put_node, room_after}
use Rattle.cfarm_sim.specs.Plays.{asked, numbered, IsAsked}
use Rattle.cfarm_sim.specs.Rooms.{Listed, node_at, room_of, after_call_of, told_of, told_by}
use Rattle.cfarm_sim_lines.specs.declared.command.Command.{Command}
use Rattle.cfarm_sim.specs.declared.told.Told.{Told}

read_set_same : (nodes : List NodeState) (i : ℕ) (t d : NodeState) → i < length nodes → slice_index_or (slice_set nodes i t) i d ≡ t
read_set_same [] i t d h = absurd (omega arith)
read_set_same (n ∷ ns) zero t d h = refl
read_set_same (n ∷ ns) (suc i) t d h = read_set_same ns i t d (omega arith)

read_set_other : (nodes : List NodeState) (i j : ℕ) (t d : NodeState) → (j ≡ i → ⊥) → slice_index_or (slice_set nodes i t) j d ≡ slice_index_or nodes j d
read_set_other [] i j t d other = refl
read_set_other (n ∷ ns) zero zero t d other = absurd (other refl)
read_set_other (n ∷ ns) zero (suc j) t d other = refl
read_set_other (n ∷ ns) (suc i) zero t d other = refl
read_set_other (n ∷ ns) (suc i) (suc j) t d other = read_set_other ns i j t d (λ e. other (ap suc e))

node_moves : (r : Listed) (i : ℕ) (c : Call) (j : ℕ) → i < length r.nodes → node_at (after_call_of r i c) j ≡ put_node (node_at r) i (after_call (node_at r i) c) j
node_moves r i c j inside =
    let s = after_call (node_at r i) c in
    elim (eqb_tells j i) as (λ _. node_at (after_call_of r i c) j ≡ put_node (node_at r) i s j) [
      | inl same ↦ (
          ap (λ x. slice_index_or (slice_set r.nodes i s) x (new_node x r.quorums)) same.1
          ∙ read_set_same r.nodes i s (new_node i r.quorums) inside
          ∙ ap (λ b. cond b s (node_at r j)) (sym same.0)
          )
      | inr other ↦ (
          read_set_other r.nodes i j s (new_node j r.quorums) other.1
          ∙ ap (λ b. cond b s (node_at r j)) (sym other.0)
          )
    ]

sent_moves : (sent : List Msg) (answer : Option Msg) → reverse (sent ++ option_to_list answer) ≡ option_to_list answer ++ reverse sent
sent_moves sent None = reverse-append sent []
sent_moves sent (Some m) = reverse-append sent (m ∷ [])

pub room_moves : (r : Listed) (i : ℕ) (c : Call) → i < length r.nodes → room_of (after_call_of r i c) ≡ room_after (room_of r) (record { node = i; call = c })
room_moves r i c inside = λ k. record {
  nodes = λ j. node_moves r i c j inside k;
  sent = sent_moves r.sent (answer_to (node_at r i) c) k;
}

-- what a call has done, where a command asked for it
pub done : (r t : Listed) (command : Command) (i : ℕ) (call : Call) (told : Told) → i < r.quorums.nodes → length r.nodes ≡ r.quorums.nodes
    → asked (reverse r.sent) command ≡ Some (record { node = i; call = call })
    → t ≡ after_call_of r i call
    → told ≡ told_of (length r.sent) i (node_at r i) call (answer_to (node_at r i) call)
    → (k : NodeCall) × IsAsked r.quorums (room_of r) command k × (room_of t ≡ room_after (room_of r) k) × (told ≡ told_by (room_of r) k)
done r t command i call told below all is moved same =
    let inside : i < length r.nodes = omega (arith, all) in (
      record { node = i; call = call },
      (below, is),
      ap room_of moved ∙ room_moves r i call inside,
      same ∙ ap (λ n. told_of n i (node_at r i) call (answer_to (node_at r i) call)) (sym (length-reverse r.sent)),
    )

-- the message with a number from 1
pub numbered_is : (sent : List Msg) (number before : ℕ) → number ≡ suc before → numbered (reverse sent) number ≡ slice_get sent before
numbered_is sent number before e = ap (numbered (reverse sent)) e ∙ ap (λ l. slice_get l before) (reverse-reverse sent)
