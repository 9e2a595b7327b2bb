-- Bytes that are written behind others, one part after the other.
use Rattle.std.proofs.Common.{◌≡◌, ℕ, List, [], ◌++◌, sym, ap, ◌∙◌, append_assoc, append-nil}

pub none : (old : List ℕ) → old ≡ old ++ []
none old = sym (append-nil old)

pub two : (old first second a b : List ℕ) → first ≡ old ++ a → second ≡ first ++ b → second ≡ old ++ (a ++ b)
two old first second a b p q = q ∙ ap (λ l. l ++ b) p ∙ append_assoc old a b

pub first_two : (old first second a b : List ℕ) → old ≡ [] → first ≡ old ++ a → second ≡ first ++ b → second ≡ a ++ b
first_two old first second a b none p q = two old first second a b p q ∙ ap (λ l. l ++ (a ++ b)) none

pub three : (old first second third a b d : List ℕ) → first ≡ old ++ a → second ≡ first ++ b → third ≡ second ++ d → third ≡ old ++ (a ++ (b ++ d))
three old first second third a b d p q r = two first second third b d q r ∙ ap (λ l. l ++ (b ++ d)) p ∙ append_assoc old a (b ++ d)

pub four : (old first second third fourth a b d e : List ℕ) → first ≡ old ++ a → second ≡ first ++ b → third ≡ second ++ d → fourth ≡ third ++ e
    → fourth ≡ old ++ (a ++ (b ++ (d ++ e)))
four old first second third fourth a b d e p q r s = three first second third fourth b d e q r s ∙ ap (λ l. l ++ (b ++ (d ++ e))) p ∙ append_assoc old a (b ++ (d ++ e))
