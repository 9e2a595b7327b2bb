-- What passes between neighbours that meet from the first to the last, and on the way back.
use Rattle.std.proofs.Common.{◌≡◌, ◌≢◌, ℕ, zero, suc, ◌<◌, ◌⊎◌, List, [], ◌∷◌, ◌++◌, refl, sym, subst, inl, inr, arith}
use Rattle.std.proofs.lemmas.Bool.{cases_eq}
use Rattle.rooms_crash_heard.specs.Heard.{back, forth, Hears, NeighboursHear}

nobody_forgets : (ps : List (ℕ × ℕ)) (i : ℕ) → Hears ps i i
nobody_forgets [] i = refl
nobody_forgets (p ∷ ps) i = (i, nobody_forgets ps i, inl refl)

heard_through : (ps qs : List (ℕ × ℕ)) (a b c : ℕ) → Hears qs a b → Hears ps b c → Hears (ps ++ qs) a c
heard_through [] qs a b c first e = subst (λ (x : ℕ). Hears qs a x) e first
heard_through (p ∷ ps) qs a b c first (k, then, tells) = (k, heard_through ps qs a b k first then, tells)

heard_forth : (n i : ℕ) → i < suc n → Hears (forth n) i n
heard_forth zero i lt = omega (arith, lt)
heard_forth (suc n) i lt = at (cases_eq i (suc n)) (λ low. heard_forth n i low)
  where
    at : (i ≡ suc n) ⊎ (i ≢ suc n) → (i < suc n → Hears (forth n) i n) → Hears (forth (suc n)) i (suc n)
    at (inl e) fewer = subst (λ (x : ℕ). Hears (forth (suc n)) x (suc n)) (sym e) (nobody_forgets (forth (suc n)) (suc n))
    at (inr d) fewer = (n, fewer (omega (arith, lt, d)), inr (inl refl))

heard_back : (n i : ℕ) → i < suc n → Hears (back n) n i
heard_back zero i lt = omega (arith, lt)
heard_back (suc n) i lt = at (cases_eq i (suc n)) (λ low. heard_back n i low)
  where
    at : (i ≡ suc n) ⊎ (i ≢ suc n) → (i < suc n → Hears (back n) n i) → Hears (back (suc n)) (suc n) i
    at (inl e) fewer = subst (λ (x : ℕ). Hears (back (suc n)) (suc n) x) (sym e) (nobody_forgets (back (suc n)) (suc n))
    at (inr d) fewer =
        let told : Hears ((n, suc n) ∷ []) (suc n) n = (suc n, refl, inr (inr refl)) in
        heard_through (back n) ((n, suc n) ∷ []) (suc n) n i told (fewer (omega (arith, lt, d)))

pub neighbours_hear : NeighboursHear
neighbours_hear n = (λ i lt. heard_forth n i lt, λ i lt. heard_back n i lt)
