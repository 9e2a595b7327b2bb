-- Rooms by function and pass.
use Rattle.std.proofs.Common.{◌≡◌, ℕ, zero, suc, ◌+◌, ◌*◌, ◌/◌, ◌%◌, ◌<◌, ◌≤◌, refl, ap, ◌∙◌, arith}
use Rattle.std.proofs.lemmas.Nat.{div-add-mod', div-mul-add, mod-mul-add, mod_below}
use Rattle.farm_nodes_turn_passes.specs.Numbers.{pass_at, place_of, pass_of, function_of}
use Rattle.farm_nodes_turn_passes.specs.declared.which.Which.{Which}
use Rattle.farm_nodes_turn_passes.specs.declared.which.Which.TheVariants.{Constants, Expressions, Allocation, Order}

placed : (r : ℕ) → r < 4 → place_of (pass_at r) ≡ r
placed zero below = refl
placed (suc zero) below = refl
placed (suc (suc zero)) below = refl
placed (suc (suc (suc zero))) below = refl
placed (suc (suc (suc (suc r)))) below = absurd (omega (arith, below))

pub room_is : (m : ℕ) → m ≡ 4 * function_of m + place_of (pass_of m)
room_is m =
    let parts : m / 4 * 4 + m % 4 ≡ m = div-add-mod' m 4 in
    let place : place_of (pass_at (m % 4)) ≡ m % 4 = placed (m % 4) (mod_below m 4 (omega arith)) in
    omega (arith, parts, place)

pub same_room : (m n : ℕ) → function_of m ≡ function_of n → pass_of m ≡ pass_of n → m ≡ n
same_room m n function pass =
    let place : place_of (pass_of m) ≡ place_of (pass_of n) = ap place_of pass in
    omega (arith, room_is m, room_is n, function, place)

place_below : (w : Which) → place_of w < 4
place_below Constants = omega arith
place_below Expressions = omega arith
place_below Allocation = omega arith
place_below Order = omega arith

passed : (w : Which) → pass_at (place_of w) ≡ w
passed Constants = refl
passed Expressions = refl
passed Allocation = refl
passed Order = refl

turned : (f : ℕ) (w : Which) → 4 * f + place_of w ≡ f * 4 + place_of w
turned f w = omega arith

pub function_at : (f : ℕ) (w : Which) → function_of (4 * f + place_of w) ≡ f
function_at f w = ap (λ (m : ℕ). m / 4) (turned f w) ∙ div-mul-add f 4 (place_of w) (place_below w)

pub pass_at_room : (f : ℕ) (w : Which) → pass_of (4 * f + place_of w) ≡ w
pass_at_room f w = ap (λ (m : ℕ). pass_at (m % 4)) (turned f w) ∙ (ap pass_at (mod-mul-add f 4 (place_of w) (place_below w)) ∙ passed w)

-- the room is among those of so many functions
pub room_below : (m n : ℕ) → function_of m < n → m < 4 * n
room_below m n below =
    let place : place_of (pass_of m) < 4 = place_below (pass_of m) in
    omega (arith, room_is m, below, place)

pub room_above : (m n : ℕ) → n ≤ function_of m → 4 * n ≤ m
room_above m n above = omega (arith, room_is m, above)
