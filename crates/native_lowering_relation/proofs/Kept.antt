-- The registers that a function keeps for its caller: r4 to r7, once those that its frame has saved are put back.
use Rattle.std.proofs.Common.{◌≡◌, ◌≢◌, ◌⊎◌, ℕ, ◌<◌, ◌≤◌, Bool, true, false, List, [], ◌∷◌, length, refl, sym, subst, ◌∙◌, arith, inl, inr}
use Rattle.std.specs.Prelude.{nat_eq, slice_index, slice_set}
use Rattle.std.proofs.lemmas.Bool.{eqb-true, eq-eqb, false≢true}
use Rattle.std.proofs.lemmas.List.{get_or-set_same, get_or-set_other, length-set}
use Rattle.native_lowering_relation.specs.Standing.{put_back}

-- the second list has the words of the first at r4 to r7
pub record SameKept (words words' : List ℕ) : Type 0 where
  pub each : (r : ℕ) → 4 ≤ r → r < 8 → slice_index words' r ≡ slice_index words r

-- the register is one of these
abbrev pub Among : ℕ → List ℕ → Type 0
Among r [] = ⊥
Among r (q ∷ qs) = (r ≡ q) ⊎ Among r qs

pub length-put_back : (rs ws words : List ℕ) → length (put_back rs ws words) ≡ length words
length-put_back [] ws words = refl
length-put_back (r ∷ rs) [] words = refl
length-put_back (r ∷ rs) (w ∷ ws) words = length-put_back rs ws (slice_set words r w) ∙ length-set words r w

-- the same or put back
abbrev pub SameOr : List ℕ → List ℕ → List ℕ → Type 0
SameOr rs words words' = (q : ℕ) → 4 ≤ q → q < 8 → Among q rs ⊎ (slice_index words' q ≡ slice_index words q)

set_both : (words words' : List ℕ) (r w q : ℕ) → length words ≡ 13 → length words' ≡ 13 → q < 8 → (b : Bool) → nat_eq q r ≡ b → (b ≡ false → slice_index words' q ≡ slice_index words q)
    → slice_index (slice_set words' r w) q ≡ slice_index (slice_set words r w) q
set_both words words' r w q full full' low true e same =
    let here : q ≡ r = eqb-true q r e in
    subst (λ k. slice_index (slice_set words' k w) q ≡ slice_index (slice_set words k w) q) here
    (get_or-set_same words' q w 0 (omega arith) ∙ sym (get_or-set_same words q w 0 (omega arith)))
set_both words words' r w q full full' low false e same =
    let apart : q ≢ r = λ h. false≢true (sym e ∙ eq-eqb q r h) in
    get_or-set_other words' r q w 0 apart ∙ same refl ∙ sym (get_or-set_other words r q w 0 apart)

less : (rs words words' : List ℕ) (r w : ℕ) → length words ≡ 13 → length words' ≡ 13 → SameOr (r ∷ rs) words words' → SameOr rs (slice_set words r w) (slice_set words' r w)
less rs words words' r w full full' so q low high = by (so q low high)
  where
    on : Among q rs ⊎ (q ≡ r) ⊎ (slice_index words' q ≡ slice_index words q) → Among q rs ⊎ (slice_index (slice_set words' r w) q ≡ slice_index (slice_set words r w) q)
    on (inl among) = inl among
    on (inr (inl same)) = inr (set_both words words' r w q full full' high true (eq-eqb q r same) (λ e. absurd (false≢true (sym e))))
    on (inr (inr same)) = inr (set_both words words' r w q full full' high (nat_eq q r) refl (λ e. same))

    by : Among q (r ∷ rs) ⊎ (slice_index words' q ≡ slice_index words q) → Among q rs ⊎ (slice_index (slice_set words' r w) q ≡ slice_index (slice_set words r w) q)
    by (inl (inl same)) = on (inr (inl same))
    by (inl (inr among)) = on (inl among)
    by (inr same) = on (inr (inr same))

pub same_put : (rs ws words words' : List ℕ) → length words ≡ 13 → length words' ≡ 13 → length ws ≡ length rs → SameOr rs words words' → SameKept (put_back rs ws words) (put_back rs ws words')
same_put [] ws words words' full full' count so = record { each = λ q low high. by q (so q low high) }
  where
    by : (q : ℕ) → Among q [] ⊎ (slice_index words' q ≡ slice_index words q) → slice_index words' q ≡ slice_index words q
    by q (inl among) = absurd among
    by q (inr same) = same
same_put (r ∷ rs) [] words words' full full' count so = absurd (omega arith)
same_put (r ∷ rs) (w ∷ ws) words words' full full' count so =
    same_put rs ws (slice_set words r w) (slice_set words' r w) (length-set words r w ∙ full) (length-set words' r w ∙ full') (omega arith) (less rs words words' r w full full' so)
