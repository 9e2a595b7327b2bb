-- What a run leaves is settled, and whoever made an offer has kept that it did.
use Rattle.std.proofs.Common.{◌≡◌, ℕ, zero, suc, ◌<◌, List, [], ◌∷◌, length, Option, Some, None, is_some, sym, ap, subst, ◌∙◌, arith}
use Rattle.paxos_core_world.specs.KeptPart.{KeptPart}
use Rattle.paxos_core_world.specs.Quorum.{Sizes}
use Rattle.paxos_core_world.specs.Settled.{Settled}
use Rattle.paxos_core_world.specs.Step.{HasOffered}
use Rattle.paxos_core_world.specs.World.{World, nodes_of}
use Rattle.paxos_core_crash.proofs.SameLemmas.{settled_as}
use Rattle.paxos_core_theorem.proofs.Theorem.{runs_stay_settled}
use Rattle.rooms.specs.Opened.{offer_at, AnyOffered, AreOffersOf}
use Rattle.farm_nodes_open_numbers.specs.Left.{AreLeft}

-- what a run leaves is settled
pub left_settled : (q : Sizes) (parts : List KeptPart) → AreLeft q parts → Settled q (nodes_of parts)
left_settled q parts left =
    let r = left.reached in
    let there : Settled q left.world.nodes =
    subst (λ (w : World). Settled q w.nodes) (sym r.world) (runs_stay_settled q r.nodes r.steps r.run) in
    settled_as q left.world.nodes (nodes_of parts) left.same there

none_offered : {T : Type 0} (x : T) → None ≡ Some x → ⊥
none_offered x e = cc

-- an offer is one of those
offer_within : {T : Type 0} (offers : List (Option T)) (i : ℕ) (x : T) → offer_at offers i ≡ Some x → i < length offers
offer_within [] i x e = absurd (none_offered x e)
offer_within (o ∷ os) zero x e = omega (arith)
offer_within (o ∷ os) (suc i) x e = let low : i < length os = offer_within os i x e in omega (arith, low)

-- whoever made one has kept that it did
pub who_offered : {T : Type 0} (kept : List KeptPart) (offers : List (Option T)) → AreOffersOf kept offers → AnyOffered offers → (i : ℕ) × HasOffered (length kept) (nodes_of kept) i
who_offered kept offers are any =
    let low : any.0 < length kept = omega (arith, offer_within offers any.0 any.1 any.2, are.size) in
    (any.0, (low, are.made any.0 low ∙ ap (λ o. is_some o) any.2))
