-- Which rooms stand at the places: their pass is one of those up to the last, and their function one of as many.
use Rattle.std.proofs.Common.{ℕ, zero, suc, ◌+◌, ◌*◌, ◌/◌, ◌%◌, ◌≤◌, arith}
use Rattle.farm_nodes_turn_node.specs.Numbers.{pass_at, place_of}
use Rattle.farm_nodes_turn_node.specs.Which.{Which}
use Rattle.farm_nodes_turn_node.specs.Which.TheVariants.{Constants, Expressions, Allocation, Order}
use Rattle.farm_nodes_threads_until.specs.Places.{IsEarly, room_until}

-- the pass at a place stands there or before
at_most : (m : ℕ) → place_of (pass_at m) ≤ m
at_most zero = omega arith
at_most (suc zero) = omega arith
at_most (suc (suc zero)) = omega arith
at_most (suc (suc (suc m))) = omega arith

early_by : (until : Which) (room : ℕ) → room % 4 ≤ place_of until → IsEarly until room
early_by until room low = let most = at_most (room % 4) in omega (arith, most, low)

pub room_early : (until : Which) (place : ℕ) → IsEarly until (room_until until place)
room_early Constants place = early_by Constants (4 * place) (omega arith)
room_early Expressions place = early_by Expressions (4 * (place / 2) + place % 2) (omega arith)
room_early Allocation place = early_by Allocation (4 * (place / 3) + place % 3) (omega arith)
room_early Order place = early_by Order place (omega arith)
