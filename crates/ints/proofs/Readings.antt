-- What wrapping and the signed reading mean.
use Rattle.std.proofs.Common.{◌≡◌, ℕ, ◌/◌, ◌^◌, ◌<◌, IsTrue, ℤ, pos, negsuc, ◌+ℤ◌, ◌*ℤ◌, arith}
use Rattle.std.proofs.lemmas.Int.{ints}
use Rattle.ints.specs.Words.{signed, wrapped, is_int}
use Rattle.ints.specs.Laws.{ReadsSigned}
use Rattle.ints.proofs.Bounds.{wrapped-lt}

modulo : (z : ℤ) → (k : ℤ) × (z ≡ (pos (wrapped z) +ℤ (k *ℤ pos (2 ^ 32))))
modulo (pos n) = (pos (n / 2 ^ 32), omega (arith, ints))
modulo (negsuc n) = (negsuc (n / 2 ^ 32), omega (arith, ints))

int_of_word : (w : ℕ) → w < 2 ^ 32 → IsTrue (is_int (signed w)) × (wrapped (signed w) ≡ w)
int_of_word w h = (grind (arith, ints), grind (arith, ints))

back : (z : ℤ) → IsTrue (is_int z) → signed (wrapped z) ≡ z
back (pos n) h = grind (arith, ints)
back (negsuc n) h = grind (arith, ints)

pub reads_signed : ReadsSigned
reads_signed = record { word = wrapped-lt; modulo = modulo; int = int_of_word; back = back }
