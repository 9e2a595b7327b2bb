-- The operators on bits, one bit at a time.
use Rattle.std.specs.Int.{w32}
use Rattle.std.proofs.lemmas.Nat.Bits.{bit_at_and, bit_at_or, bit_at_xor, bit_at_not}
use Rattle.ints.specs.Laws.{WorksOnBits}

pub works_on_bits : WorksOnBits
works_on_bits = record { not = bit_at_not w32; and = bit_at_and; or = bit_at_or; xor = bit_at_xor }
