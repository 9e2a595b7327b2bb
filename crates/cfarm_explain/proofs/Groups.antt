-- Numbers in groups of three digits.
use Rattle.std.proofs.Common.{◌≡◌, ◌≢◌, ℕ, zero, suc, ◌-◌, ◌/◌, ◌%◌, ◌<◌, ◌++◌, Bool, true, false, cond, List, refl, sym, ap, ◌∙◌, arith}
use Rattle.std.specs.Prelude.{nat_lt, codes}
use Rattle.std.specs.Fmt.{decimal}
use Rattle.cfarm_explain.specs.Bounds.{grouped, three_text}

-- one that is not cut
pub few : (cuts n : ℕ) → nat_lt n 1000 ≡ true → grouped cuts n ≡ decimal n
few zero n small = refl
few (suc cuts) n small = ap (λ (b : Bool). cond b (decimal n) (grouped cuts (n / 1000) ++ (codes "," ++ three_text (n % 1000)))) small

-- one that is cut
pub more : (cuts n : ℕ) → cuts ≢ 0 → nat_lt n 1000 ≡ false → grouped cuts n ≡ grouped (cuts - 1) (n / 1000) ++ (codes "," ++ three_text (n % 1000))
more zero n some large = absurd (some refl)
more (suc cuts) n some large =
    let less : cuts ≡ suc cuts - 1 = omega arith in
    ap (λ (b : Bool). cond b (decimal n) (grouped cuts (n / 1000) ++ (codes "," ++ three_text (n % 1000)))) large
    ∙ ap (λ k. grouped k (n / 1000) ++ (codes "," ++ three_text (n % 1000))) less
