-- What wraps: a factor may be read as signed or not, since the product is the same modulo 2 ^ 32.
use Rattle.std.proofs.Common.{◌≡◌, ℕ, ◌-◌, ◌%◌, ◌^◌, ◌<◌, ap, sym, ◌∙◌, ℤ, pos, negsuc, ◌*ℤ◌, arith}
use Rattle.std.specs.Int.{w32, int_wrap, cast_unsigned, cast_signed}
use Rattle.std.proofs.lemmas.Int.{ints, of_z-to_z, int_wrap-mul_left, int_wrap-mul_right}
use Rattle.ints.specs.Words.{signed, wrapped}

-- `wrapped` leaves the bits that std's wrapping leaves
wrapped-int_wrap : (z : ℤ) → wrapped z ≡ cast_unsigned w32 (int_wrap w32 z)
unfolding int_wrap
wrapped-int_wrap (pos n) = sym (of_z-to_z w32 (n % 2 ^ 32) (omega arith))
wrapped-int_wrap (negsuc n) = sym (of_z-to_z w32 (2 ^ 32 - 1 - n % 2 ^ 32) (omega arith))

-- a word's signed reading is the std cast
pub signed-cast : (x : ℕ) → x < 2 ^ 32 → signed x ≡ cast_signed w32 x
signed-cast x h = grind (arith, ints)

-- reading a word as signed is std's wrapping of the word
signed-int_wrap : (x : ℕ) → x < 2 ^ 32 → signed x ≡ int_wrap w32 (pos x)
unfolding int_wrap
signed-int_wrap x h = let e : x % 2 ^ 32 ≡ x = omega arith in rw e (signed-cast x h)

pub wrapped-mul_left : (x : ℕ) (z : ℤ) → x < 2 ^ 32 → wrapped (signed x *ℤ z) ≡ wrapped (pos x *ℤ z)
wrapped-mul_left x z h =
    rw (signed-int_wrap x h) (wrapped-int_wrap _ ∙ ap (cast_unsigned w32) (int_wrap-mul_left w32 (pos x) z) ∙ sym (wrapped-int_wrap _))

pub wrapped-mul_right : (z : ℤ) (y : ℕ) → y < 2 ^ 32 → wrapped (z *ℤ signed y) ≡ wrapped (z *ℤ pos y)
wrapped-mul_right z y h =
    rw (signed-int_wrap y h) (wrapped-int_wrap _ ∙ ap (cast_unsigned w32) (int_wrap-mul_right w32 z (pos y)) ∙ sym (wrapped-int_wrap _))

pub ruleset wrapped_products = (wrapped-mul_left, wrapped-mul_right)
