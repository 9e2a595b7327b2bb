-- The seats of a function one by one: which one of them a call in a room changes.
use Rattle.std.proofs.Common.{◌≡◌, ◌≢◌, ◌⊎◌, inl, inr, refl, ap}
use Rattle.farm_nodes_turn_passes.specs.Fours.{words_of}
use Rattle.farm_nodes_turn_passes.specs.declared.which.Which.{Which}
use Rattle.farm_nodes_turn_passes.specs.declared.which.Which.TheVariants.{Constants, Expressions, Allocation, Order}
use Rattle.farm_nodes_turn_function.specs.Turned.{OthersStay}
use Rattle.farm_nodes_sweep_function.specs.RoomSeat.{Fours, InConstants, InExpressions, InAllocation, InOrder, seat_of, words_in}

-- the seat of another pass is as it was
pub seat_other : (p q : Which) (s t : Fours) → (q ≡ p → ⊥) → OthersStay p s t → seat_of t q ≡ seat_of s q
seat_other Constants Expressions s t other e = ap (λ (u : Fours). InExpressions u.expressions) e
seat_other Constants Allocation s t other e = ap (λ (u : Fours). InAllocation u.allocation) e
seat_other Constants Order s t other e = ap (λ (u : Fours). InOrder u.order) e
seat_other Expressions Constants s t other e = ap (λ (u : Fours). InConstants u.constants) e
seat_other Expressions Allocation s t other e = ap (λ (u : Fours). InAllocation u.allocation) e
seat_other Expressions Order s t other e = ap (λ (u : Fours). InOrder u.order) e
seat_other Allocation Constants s t other e = ap (λ (u : Fours). InConstants u.constants) e
seat_other Allocation Expressions s t other e = ap (λ (u : Fours). InExpressions u.expressions) e
seat_other Allocation Order s t other e = ap (λ (u : Fours). InOrder u.order) e
seat_other Order Constants s t other e = ap (λ (u : Fours). InConstants u.constants) e
seat_other Order Expressions s t other e = ap (λ (u : Fours). InExpressions u.expressions) e
seat_other Order Allocation s t other e = ap (λ (u : Fours). InAllocation u.allocation) e
seat_other p q s t other e = absurd (other refl)

-- its words
pub words_seat : (p : Which) (s : Fours) → words_in (seat_of s p) ≡ words_of s p
words_seat Constants s = refl
words_seat Expressions s = refl
words_seat Allocation s = refl
words_seat Order s = refl

-- two passes are the same, or not
pub same_pass : (p q : Which) → (p ≡ q) ⊎ (p ≢ q)
same_pass Constants Constants = inl refl
same_pass Expressions Expressions = inl refl
same_pass Allocation Allocation = inl refl
same_pass Order Order = inl refl
same_pass p q = inr (λ e. absurd (cc))
