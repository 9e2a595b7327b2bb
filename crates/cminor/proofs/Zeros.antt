-- Words without the zeros at their end.
use Rattle.std.proofs.Common.{◌≡◌, ◌≢◌, ℕ, zero, suc, ◌<◌, List, [], ◌∷◌, ◌++◌, length, take, get_or, refl, sym, ap, subst, ◌∙◌, arith}
use Rattle.cminor_lowering.specs.Programs.{listed, without_zeros}

-- a zero at the end is left out
zero_behind : (ws : List ℕ) → without_zeros (ws ++ 0 ∷ []) ≡ without_zeros ws
zero_behind [] = refl
zero_behind (w ∷ ws) = ap (listed w) (zero_behind ws)

-- a word that is not zero at the end is left, with all before it
listed_more : (w v : ℕ) (vs : List ℕ) → listed w (v ∷ vs) ≡ w ∷ v ∷ vs
listed_more zero v vs = refl
listed_more (suc w) v vs = refl

word_behind : (ws : List ℕ) (v : ℕ) → without_zeros (ws ++ suc v ∷ []) ≡ ws ++ suc v ∷ []
word_behind [] v = refl
word_behind (w ∷ []) v = listed_more w (suc v) []
word_behind (w ∷ u ∷ ws) v = ap (listed w) (word_behind (u ∷ ws) v) ∙ listed_more w u (ws ++ suc v ∷ [])

-- the front up to a place, where one before it stands a word
front_more : (ws : List ℕ) (k : ℕ) → k < length ws → take (suc k) ws ≡ take k ws ++ get_or ws k 0 ∷ []
front_more [] k lt = absurd (omega arith)
front_more (w ∷ ws) zero lt = refl
front_more (w ∷ ws) (suc k) lt = ap (λ l. w ∷ l) (front_more ws k (omega arith))

pub whole_front : (words : List ℕ) (n : ℕ) → n ≡ length words → without_zeros (take n words) ≡ without_zeros words
whole_front words n e = ap without_zeros (subst (λ m. take m words ≡ words) (sym e) (all words))
  where
    all : (ws : List ℕ) → take (length ws) ws ≡ ws
    all [] = refl
    all (w ∷ ws) = ap (λ l. w ∷ l) (all ws)

-- one word less, which is zero
pub zero_dropped : (words : List ℕ) (k : ℕ) → k < length words → get_or words k 0 ≡ 0 → without_zeros (take (suc k) words) ≡ without_zeros (take k words)
zero_dropped words k lt none = ap without_zeros (front_more words k lt ∙ ap (λ w. take k words ++ w ∷ []) none) ∙ zero_behind (take k words)

-- the last word is not zero
pub word_kept : (words : List ℕ) (k : ℕ) → k < length words → get_or words k 0 ≢ 0 → without_zeros (take (suc k) words) ≡ take (suc k) words
word_kept words k lt some = at (get_or words k 0) refl
  where
    at : (w : ℕ) → get_or words k 0 ≡ w → without_zeros (take (suc k) words) ≡ take (suc k) words
    at zero e = absurd (some e)
    at (suc v) e =
        let is : take (suc k) words ≡ take k words ++ suc v ∷ [] = front_more words k lt ∙ ap (λ w. take k words ++ w ∷ []) e in
        ap without_zeros is ∙ word_behind (take k words) v ∙ sym is
