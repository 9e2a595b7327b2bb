-- A room in which nobody has done anything.
use Rattle.std.proofs.Common.{◌≡◌, ℕ, zero, suc, List, [], ◌∷◌, ◌++◌, length, refl, sym, ap, ◌∙◌, ◌⊎◌, inl, inr}
use Rattle.std.specs.Prelude.{slice_index_or}
use Rattle.paxos_core_world.specs.Quorum.{Sizes}
use Rattle.paxos_core_world.specs.World.{shown, no_nodes}
use Rattle.paxos_core_node_steps.specs.NodeState.{NodeState, new_node}
use Rattle.cfarm_sim.specs.Rooms.{room_of, start}

push_get : (xs : List NodeState) (x d : NodeState) (i : ℕ) → (slice_index_or (xs ++ x ∷ []) i d ≡ slice_index_or xs i d) ⊎ ((i ≡ length xs) × (slice_index_or (xs ++ x ∷ []) i d ≡ x))
push_get [] x d zero = inr (refl, refl)
push_get [] x d (suc i) = inl refl
push_get (y ∷ ys) x d zero = inl refl
push_get (y ∷ ys) x d (suc i) = elim (push_get ys x d i) as (λ _. (slice_index_or (ys ++ x ∷ []) i d ≡ slice_index_or ys i d) ⊎ ((suc i ≡ suc (length ys)) × (slice_index_or (ys ++ x ∷ []) i d ≡ x))) [
  | inl e ↦ inl e
  | inr p ↦ inr (ap suc p.0, p.1)
]

-- each of the nodes has done nothing
abbrev pub AreNew : Sizes → List NodeState → Type 0
AreNew q nodes = (i : ℕ) → slice_index_or nodes i (new_node i q) ≡ new_node i q

pub none_new : (q : Sizes) → AreNew q []
none_new q i = refl

pub one_new : (q : Sizes) (me : ℕ) (nodes pushed : List NodeState) → length nodes ≡ me → AreNew q nodes → pushed ≡ nodes ++ new_node me q ∷ [] → AreNew q pushed
one_new q me nodes pushed all new more i =
    ap (λ l. slice_index_or l i (new_node i q)) more
    ∙ elim (push_get nodes (new_node me q) (new_node i q) i) as (λ _. slice_index_or (nodes ++ new_node me q ∷ []) i (new_node i q) ≡ new_node i q) [
      | inl e ↦ e ∙ new i
      | inr p ↦ p.1 ∙ ap (λ m. new_node m q) (sym (p.0 ∙ all))
    ]

none_shown : (n : ℕ) → shown n no_nodes ≡ []
none_shown zero = refl
none_shown (suc n) = none_shown n

pub is_start : (q : Sizes) (nodes : List NodeState) → AreNew q nodes → room_of (record { quorums = q; nodes = nodes; sent = [] }) ≡ start q
is_start q nodes new = λ k. record { nodes = λ i. new i k; sent = sym (none_shown q.nodes) k }
