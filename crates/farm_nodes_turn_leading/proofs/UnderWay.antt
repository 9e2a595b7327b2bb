-- The ballot under way, between two moments and three.
use Rattle.std.proofs.Common.{◌≡◌, ◌⊎◌, inl, inr, ℕ, ◌<◌, Option, Some, refl, sym, ap, ◌∙◌, subst, arith}
use Rattle.paxos_core_node_steps.specs.NodeState.{NodeState}
use Rattle.farm_nodes_turn_leading.specs.Leading.{IsOldOrStarted}

pub way_same : (s : NodeState) → IsOldOrStarted s s
way_same s = inl (refl, refl)

pub way_through : (a b c : NodeState) → IsOldOrStarted a b → IsOldOrStarted b c → IsOldOrStarted a c
way_through a b c (inl first) (inl second) = inl (second.0 ∙ first.0, second.1 ∙ first.1)
way_through a b c (inl first) (inr second) = inr (subst (λ (n : ℕ). n < c.kept.started) first.0 second.0, second.1)
way_through a b c (inr first) (inl second) =
    inr (subst (λ (n : ℕ). a.kept.started < n) (sym second.0) first.0, second.1 ∙ (first.1 ∙ ap (λ (n : ℕ). Some n) (sym second.0)))
way_through a b c (inr first) (inr second) = inr (omega (arith, first.0, second.0), second.1)
