-- Where the last token ends.
use Rattle.std.proofs.Common.{◌≡◌, ℕ, suc, ◌-◌, List, [], ◌∷◌, length, Option, Some, None, refl, ap, ◌∙◌, arith}
use Rattle.std.specs.Prelude.{slice_get}
use Rattle.c_syntax.specs.declared.token.Token.{Token}
use Rattle.c_syntax.specs.Declarations.{end_of}

abbrev pub end_at : Option Token → ℕ
end_at None = 0
end_at (Some t) = t.end

pub last_end : (ts : List Token) → end_at (slice_get ts (length ts - 1)) ≡ end_of ts
last_end [] = refl
last_end (t ∷ []) = refl
last_end (t ∷ u ∷ ts) =
    let k : length (t ∷ u ∷ ts) - 1 ≡ suc (length (u ∷ ts) - 1) = omega arith in
    ap (λ (n : ℕ). end_at (slice_get (t ∷ u ∷ ts) n)) k ∙ last_end (u ∷ ts)
