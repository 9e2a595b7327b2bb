-- What is read of an old file: whether it counts, and all of one that does.
use Rattle.std.proofs.Common.{◌≡◌, ◌≢◌, ℕ, Bool, true, false, cond, eqb, List, [], ◌∷◌, get_or, refl, sym, ap, ◌∙◌}
use Rattle.std.proofs.lemmas.Bool.{eq-eqb}
use Rattle.durable_pair.specs.Images.{IsSpent}
use Rattle.durable_pair_files.specs.Opening.{as_read}

head_if : (t : Bool) (first : ℕ) (rest : List ℕ) → get_or (cond t (first ∷ rest) (first ∷ [])) 0 0 ≡ first
head_if true first rest = refl
head_if false first rest = refl

head_read : (bytes : List ℕ) → get_or (as_read bytes) 0 0 ≡ get_or bytes 0 0
head_read [] = refl
head_read (first ∷ rest) = head_if (eqb first 67) first rest

same_head : (bytes shown : List ℕ) → shown ≡ as_read bytes → get_or shown 0 0 ≡ get_or bytes 0 0
same_head bytes shown e = ap (λ (l : List ℕ). get_or l 0 0) e ∙ head_read bytes

pub spent_read : (bytes shown : List ℕ) → shown ≡ as_read bytes → IsSpent bytes → IsSpent shown
spent_read bytes shown e spent bad = spent (sym (same_head bytes shown e) ∙ bad)

pub read_spent : (bytes shown : List ℕ) → shown ≡ as_read bytes → IsSpent shown → IsSpent bytes
read_spent bytes shown e spent bad = spent (same_head bytes shown e ∙ bad)

whole_if : (t : Bool) (first : ℕ) (rest : List ℕ) → eqb first 67 ≡ t → (first ≢ 67 → ⊥) → cond t (first ∷ rest) (first ∷ []) ≡ first ∷ rest
whole_if true first rest e counts = refl
whole_if false first rest e counts =
    absurd (counts (λ (same : first ≡ 67). let bad : true ≡ false = sym (eq-eqb first 67 same) ∙ e in absurd (cc)))

whole : (bytes : List ℕ) → (IsSpent bytes → ⊥) → as_read bytes ≡ bytes
whole [] counts = refl
whole (first ∷ rest) counts = whole_if (eqb first 67) first rest refl counts

pub read_whole : (bytes shown : List ℕ) → shown ≡ as_read bytes → (IsSpent shown → ⊥) → shown ≡ bytes
read_whole bytes shown e counts = e ∙ whole bytes (λ spent. counts (spent_read bytes shown e spent))
