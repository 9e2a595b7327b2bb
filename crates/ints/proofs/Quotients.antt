-- What the quotients mean.
use Rattle.std.proofs.Common.{ℕ, ◌<◌, ℤ, pos, negsuc, ◌+ℤ◌, ◌*ℤ◌, ◌≤ℤ◌, ◌<ℤ◌, arith}
use Rattle.std.specs.Prelude.{int_rem}
use Rattle.std.proofs.lemmas.Int.{ints, quot-rem, rem_below}
use Rattle.ints.specs.Words.{floor_of}
use Rattle.ints.specs.Laws.{Divides}

sign : (x y : ℤ) → pos 0 ≤ℤ x → pos 0 ≤ℤ int_rem x y
sign (pos n) y h = omega (arith, ints)
sign (negsuc n) y h = absurd (omega (arith, ints))

negative : (x y : ℤ) → x ≤ℤ pos 0 → int_rem x y ≤ℤ pos 0
negative (pos n) y h = grind (arith, ints)
negative (negsuc n) y h = grind (arith, ints)

floor : (x : ℤ) (d : ℕ) → 0 < d → (floor_of x d *ℤ pos d) ≤ℤ x
floor (pos n) d h = omega (arith, ints)
floor (negsuc n) d h = omega (arith, ints)

next : (x : ℤ) (d : ℕ) → 0 < d → x <ℤ ((floor_of x d *ℤ pos d) +ℤ pos d)
next (pos n) d h = omega (arith, ints)
next (negsuc n) d h = omega (arith, ints)

pub divides : Divides
divides = record { whole = quot-rem; rest = rem_below; sign = sign; negative = negative; floor = floor; next = next }
