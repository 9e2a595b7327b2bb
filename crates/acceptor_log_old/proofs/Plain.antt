-- Records with no summary among them.
use Rattle.std.proofs.Common.{◌≡◌, ℕ, zero, suc, ◌+◌, ◌<◌, Bool, true, false, List, [], ◌∷◌, ◌++◌, length, take, get_or, refl, ap, ◌∙◌, arith}
use Rattle.std.specs.Prelude.{◌&&◌}
use Rattle.std.proofs.lemmas.Bool.{and_parts}
use Rattle.acceptor_log_form.specs.declared.record.Record.{Record}
use Rattle.acceptor_log_old.specs.OldText.{is_plain, are_plain}

and_false : (t : Bool) → (t && false) ≡ false
and_false true = refl
and_false false = refl

-- one that is a summary
pub plain-not : (rs : List Record) (k : ℕ) (d : Record) → k < length rs → is_plain (get_or rs k d) ≡ false → are_plain rs ≡ false
plain-not [] k d less none = absurd (omega (arith, less))
plain-not (x ∷ rs) zero d less none = ap (λ t. t && are_plain rs) none
plain-not (x ∷ rs) (suc k) d less none = ap (λ t. is_plain x && t) (plain-not rs k d (omega (arith, less)) none) ∙ and_false (is_plain x)

-- one more that is none
pub plain-more : (xs more : List Record) (r : Record) → more ≡ xs ++ r ∷ [] → are_plain xs ≡ true → is_plain r ≡ true → are_plain more ≡ true
plain-more xs more r are all one = ap are_plain are ∙ by xs all
  where
    by : (l : List Record) → are_plain l ≡ true → are_plain (l ++ r ∷ []) ≡ true
    by [] all = ap (λ t. t && true) one
    by (x ∷ l) all =
        let both = and_parts (is_plain x) (are_plain l) all in
        let rest = by l both.1 in
        λ i. both.0 i && rest i

pub all_taken : (rs : List Record) → take (length rs) rs ≡ rs
all_taken [] = refl
all_taken (x ∷ rs) = ap (λ (l : List Record). x ∷ l) (all_taken rs)
