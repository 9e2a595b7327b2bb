-- Texts of items with their numbers, one more at the end.
use Rattle.std.proofs.Common.{◌≡◌, ℕ, suc, ◌+◌, List, [], ◌∷◌, ◌++◌, length, take, zero, Some, refl, sym, ap, ◌∙◌, arith}
use Rattle.std.proofs.lemmas.List.{append_assoc, append-nil}
use Rattle.std.specs.Prelude.{slice_get}
use Rattle.text_keys.specs.Numbered.{numbered_text}

pub numbered-more : {A : Type 0} (text : ℕ → A → List ℕ) (n : ℕ) (xs : List A) (x : A) → numbered_text text n (xs ++ x ∷ []) ≡ numbered_text text n xs ++ text (n + length xs) x
numbered-more text n [] x = append-nil (text n x) ∙ ap (λ k. text k x) (omega arith)
numbered-more text n (y ∷ ys) x =
    ap (λ t. text n y ++ t) (numbered-more text (n + 1) ys x ∙ ap (λ k. numbered_text text (n + 1) ys ++ text k x) (omega arith))
    ∙ sym (append_assoc (text n y) (numbered_text text (n + 1) ys) (text (n + suc (length ys)) x))

take_got : {A : Type 0} (xs : List A) (k : ℕ) (x : A) → slice_get xs k ≡ Some x → take (k + 1) xs ≡ take k xs ++ x ∷ []
take_got [] k x got = absurd cc
take_got (y ∷ ys) zero x got = let same : y ≡ x = cc (got) in ap (λ z. z ∷ []) same
take_got (y ∷ ys) (suc k) x got =
    let next : suc k + 1 ≡ suc (k + 1) = omega arith in
    ap (λ n. take n (y ∷ ys)) next ∙ ap (λ t. y ∷ t) (take_got ys k x got)

length_got : {A : Type 0} (xs : List A) (k : ℕ) (x : A) → slice_get xs k ≡ Some x → length (take k xs) ≡ k
length_got [] k x got = absurd cc
length_got (y ∷ ys) zero x got = refl
length_got (y ∷ ys) (suc k) x got = ap suc (length_got ys k x got)

-- where the items so far are written, and one more behind them
pub one_more : {A : Type 0} (text : ℕ → A → List ℕ) (old here new : List ℕ) (xs : List A) (k : ℕ) (x : A) → slice_get xs k ≡ Some x →
    here ≡ old ++ numbered_text text 0 (take k xs) → new ≡ here ++ text k x → new ≡ old ++ numbered_text text 0 (take (k + 1) xs)
one_more text old here new xs k x got so_far one =
    let before = numbered_text text 0 (take k xs) in
    let count : 0 + length (take k xs) ≡ k = omega (arith, length_got xs k x got) in
    let more : numbered_text text 0 (take (k + 1) xs) ≡ before ++ text k x =
    ap (numbered_text text 0) (take_got xs k x got) ∙ numbered-more text 0 (take k xs) x ∙ ap (λ j. before ++ text j x) count in
    one ∙ ap (λ t. t ++ text k x) so_far ∙ append_assoc old before (text k x) ∙ ap (λ t. old ++ t) (sym more)
