-- A number without a suffix that fits `int` has this type, whatever its base.
use Rattle.std.proofs.Common.{◌≡◌, ℕ, ◌^◌, ◌<◌, Bool, true, false, cond, Option, Some, None, List, [], ◌∷◌, take, length, ◌-◌, ap, ◌∙◌}
use Rattle.std.specs.Prelude.{option_map, option_and_then}
use Rattle.std.proofs.lemmas.Bool.{lt-ltb, true≢false}
use Rattle.c_syntax.specs.declared.constant.IntegerType.{IntegerType}
use Rattle.c_syntax.specs.declared.constant.IntegerType.TheVariants.{Int, Unsigned}
use Rattle.c_lexer_lexemes.specs.Numbers.{magnitude_of, is_suffixed, without_suffix, begins_with_zero, types_of, first_type, typed, constant_of}

int_first : (suffixed zero : Bool) (n : ℕ) → suffixed ≡ false → n < 2 ^ 31 → first_type (cond suffixed (Unsigned ∷ []) (cond zero (Int ∷ Unsigned ∷ []) (Int ∷ []))) n ≡ Some Int
int_first true zero n plain small = absurd (true≢false plain)
int_first false true n plain small = ap (λ b. cond b (Some Int) (first_type (Unsigned ∷ []) n)) (lt-ltb n (2 ^ 31) small)
int_first false false n plain small = ap (λ b. cond b (Some Int) None) (lt-ltb n (2 ^ 31) small)

pub int_constant : (w : List ℕ) (n : ℕ) → is_suffixed w ≡ false → magnitude_of w ≡ Some n → n < 2 ^ 31 → constant_of w ≡ Some (record { value = n; kind = Int })
int_constant w n plain magnitude small =
    let whole : without_suffix w ≡ w = ap (λ b. cond b (take (length w - 1) w) w) plain in
    let found : magnitude_of (without_suffix w) ≡ Some n = ap magnitude_of whole ∙ magnitude in
    let type : first_type (types_of w) n ≡ Some Int = int_first (is_suffixed w) (begins_with_zero w) n plain small in
    ap (λ (o : Option ℕ). option_and_then (typed w) o) found ∙ ap (λ (o : Option IntegerType). option_map (λ t. record { value = n; kind = t }) o) type
