-- Lists of locations and words.
use Rattle.std.proofs.Common.{◌≡◌, ℕ, zero, suc, ◌+◌, ◌<◌, Bool, true, false, List, [], ◌∷◌, length, Some, drop, refl, sym, ap, subst, ◌∙◌, arith, inl, inr, ◌⊎◌}
use Rattle.std.specs.Prelude.{slice_get, slice_index, slice_set, nat_eq, if◌then◌else◌}
use Rattle.std.specs.List.{AllByRecursion, filter}
use Rattle.std.proofs.lemmas.Bool.{eqb-true, eq-eqb, false≢true}
use Rattle.std.proofs.lemmas.List.{get_or-set_same, get_or-set_other, length-set}
use Rattle.native_lowering_relation.specs.Standing.{put_back}
use Rattle.native_lowering_relation.proofs.Kept.{Among, SameOr, SameKept}
use Rattle.native_lowering_passing.specs.Moved.{words_of, written_from}

pub all_from : {A : Type 0} (P : A → Type 0) (xs : List A) → ((k : ℕ) (x : A) → slice_get xs k ≡ Some x → P x) → AllByRecursion P xs
all_from P [] each = tt
all_from P (x ∷ xs) each = (each 0 x refl, all_from P xs (λ k y at. each (suc k) y at))

pub all_drop : {A : Type 0} (P : A → Type 0) (n : ℕ) (xs : List A) → AllByRecursion P xs → AllByRecursion P (drop n xs)
all_drop P zero xs all = all
all_drop P (suc n) [] all = tt
all_drop P (suc n) (x ∷ xs) all = all_drop P n xs all.1

all_if : {A : Type 0} (P : A → Type 0) (b : Bool) (x : A) (xs : List A) → P x → AllByRecursion P xs → AllByRecursion P (if b then x ∷ xs else xs)
all_if P true x xs one all = (one, all)
all_if P false x xs one all = all

pub all_filter : {A : Type 0} (P : A → Type 0) (test : A → Bool) (xs : List A) → AllByRecursion P xs → AllByRecursion P (filter test xs)
all_filter P test [] all = tt
all_filter P test (x ∷ xs) all = all_if P (test x) x (filter test xs) all.0 (all_filter P test xs all.1)

-- ---- words written one after the other

shifted : (ws saved : List ℕ) (x j k : ℕ) → k ≡ suc j → written_from k ws (x ∷ saved) ≡ x ∷ written_from j ws saved
shifted [] saved x j k e = refl
shifted (w ∷ ws) saved x j k e = ap (λ m. written_from (m + 1) ws (slice_set (x ∷ saved) m w)) e
    ∙ shifted ws (slice_set saved j w) x (j + 1) (suc j + 1) (omega arith)

pub written_all : (ws saved : List ℕ) → length saved ≡ length ws → written_from 0 ws saved ≡ ws
written_all [] [] e = refl
written_all [] (x ∷ saved) e = absurd (omega arith)
written_all (w ∷ ws) [] e = absurd (omega arith)
written_all (w ∷ ws) (x ∷ saved) e = shifted ws saved w 0 1 refl ∙ ap (λ (xs : List ℕ). w ∷ xs) (written_all ws saved (omega arith))

pub length-words_of : (rs words : List ℕ) → length (words_of rs words) ≡ length rs
length-words_of [] words = refl
length-words_of (r ∷ rs) words = ap suc (length-words_of rs words)

-- ---- the words of registers put back

same_set : (words words' : List ℕ) (r q : ℕ) (b : Bool) → length words' ≡ 13 → q < 8 → nat_eq q r ≡ b → (b ≡ false → slice_index words' q ≡ slice_index words q)
    → slice_index (slice_set words' r (slice_index words r)) q ≡ slice_index words q
same_set words words' r q true full low e same = let here : q ≡ r = eqb-true q r e in
    subst (λ k. slice_index (slice_set words' k (slice_index words k)) q ≡ slice_index words q) here
    (get_or-set_same words' q (slice_index words q) 0 (omega (arith, full, low)))
same_set words words' r q false full low e same = get_or-set_other words' r q (slice_index words r) 0 (λ h. false≢true (sym e ∙ eq-eqb q r h)) ∙ same refl

fewer : (rs words words' : List ℕ) (r : ℕ) → length words' ≡ 13 → SameOr (r ∷ rs) words words' → SameOr rs words (slice_set words' r (slice_index words r))
fewer rs words words' r full so q low high = by (so q low high)
  where
    by : Among q (r ∷ rs) ⊎ (slice_index words' q ≡ slice_index words q) → Among q rs ⊎ (slice_index (slice_set words' r (slice_index words r)) q ≡ slice_index words q)
    by (inl (inl same)) = inr (same_set words words' r q true full high (eq-eqb q r same) (λ e. absurd (false≢true (sym e))))
    by (inl (inr among)) = inl among
    by (inr same) = inr (same_set words words' r q (nat_eq q r) full high refl (λ e. same))

pub put_back_same : (rs words words' : List ℕ) → length words' ≡ 13 → SameOr rs words words' → SameKept words (put_back rs (words_of rs words) words')
put_back_same [] words words' full so = record { each = λ q low high. by q (so q low high) }
  where
    by : (q : ℕ) → Among q [] ⊎ (slice_index words' q ≡ slice_index words q) → slice_index words' q ≡ slice_index words q
    by q (inl among) = absurd among
    by q (inr same) = same
put_back_same (r ∷ rs) words words' full so =
    put_back_same rs words (slice_set words' r (slice_index words r)) (length-set words' r (slice_index words r) ∙ full) (fewer rs words words' r full so)
