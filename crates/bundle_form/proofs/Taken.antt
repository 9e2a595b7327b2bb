-- So many bytes, read one by one, are a front of the bytes that are there.
use Rattle.std.proofs.Common.{◌≡◌, ℕ, zero, suc, ◌<◌, ◌≤◌, List, [], ◌∷◌, ◌++◌, length, take, drop, Ok, Err, refl, sym, ap, ◌∙◌, append-nil, append_assoc, arith}
use Rattle.lang_base.specs.declared.errors.FormError.TheVariants.{Short}
use Rattle.lang_base.specs.Reading.{byte, more}

-- where so many are there, they are read
pub taken : (before bytes : List ℕ) (n : ℕ) → n ≤ length bytes → more (λ b. byte) before n bytes ≡ Ok (before ++ take n bytes, drop n bytes)
taken before bytes zero enough = λ i. Ok (sym (append-nil before) i, bytes)
taken before [] (suc n) enough = absurd (omega (arith, enough))
taken before (b ∷ bytes) (suc n) enough =
    taken (before ++ b ∷ []) bytes n (omega (arith, enough)) ∙ ap (λ front. Ok (front, drop n bytes)) (append_assoc before (b ∷ []) (take n bytes))

-- where fewer are there, they end too early
pub short : (before bytes : List ℕ) (n : ℕ) → length bytes < n → more (λ b. byte) before n bytes ≡ Err Short
short before bytes zero few = absurd (omega (arith, few))
short before [] (suc n) few = refl
short before (b ∷ bytes) (suc n) few = short (before ++ b ∷ []) bytes n (omega (arith, few))
